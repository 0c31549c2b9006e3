-- What is true of a state whose history is hidden, and how that history goes on.
--   floor_of, top_of            the level lies between floor and cap
--   covered_of                  what is drawn in a slot is there above the floor
--   wide_of, noted_of           there are 16 lines and 16 longest responses
--   since_of                    an open job was released by now
--   clock_of, closed_of, finished_of, released_of   how far the clock and the counters can be
--   slotted_to, released_to     the history with one slot or one release more
use Rattle.std.proofs.Common.{◌≡◌, ℕ, ◌+◌, ◌*◌, ◌<◌, ◌≤◌, false, ltb, length, get_or, None, sym, subst, arith}
use mathlib.Core.Logic.{∥∥₁_elim, ∥∥₁_map}
use native.Mathlib.Bridge.{le_prop}
use native.Mathlib.Nat.{ℕ_set}
use Rattle.std.proofs.lemmas.Bool.{le-ltb}
use Rattle.model.specs.declared.state.Line.TheVariants.{Never, Open}
use Rattle.model.specs.declared.state.State.{State}
use Rattle.model.specs.Setups.{Setup, LawfulSetup}
use Rattle.model.specs.Energy.{Harvest}
use Rattle.model.specs.Slots.{turn_of, drawn, slot_step}
use Rattle.model.specs.Releases.{clock_end, release_step}
use Rattle.model.specs.Orders.{slots_refusal, over, next, done}
use Rattle.model.specs.Histories.{History, released, slotted}
use Rattle.model.proofs.Reaching.{reached, promises}
use Rattle.model.proofs.Soundness.{sound}
use Rattle.model.proofs.HistoryLaws.{level_kept, draws_covered, open_in_time, finished_are_closed}
use Rattle.model.proofs.CountBounds.{closed_few, released_few}

-- one slot before the last clock is not refused
one_slot : (n : Setup) (promise : ℕ) (s : State) → n.rate ≤ promise → s.clock < clock_end → slots_refusal n promise s 1 ≡ None
one_slot n promise s enough room =
    let a : ltb promise n.rate ≡ false = le-ltb promise n.rate enough in
    let b : ltb clock_end (s.clock + 1) ≡ false = le-ltb clock_end (s.clock + 1) (omega arith) in
    rw (a, b)

module _ (n : Setup) (lawful : LawfulSetup n) (promise : ℕ) (s : State) (e : ∥ History n promise s ∥₁) where
  pub floor_of : n.floor ≤ s.level
  floor_of = ∥∥₁_elim e le_prop (λ h. (level_kept n lawful promise s h).0)

  pub top_of : s.level ≤ n.top
  top_of = ∥∥₁_elim e le_prop (λ h. (level_kept n lawful promise s h).1)

  pub covered_of : (harvest : ℕ) → Harvest promise harvest → n.floor + drawn (turn_of n s) ≤ s.level + harvest
  covered_of harvest law = ∥∥₁_elim e le_prop (λ h. draws_covered n lawful promise s h harvest law)

  pub wide_of : length s.lines ≡ 16
  wide_of = ∥∥₁_elim e (ℕ_set _ _) (λ h. (sound n lawful promise s (reached n promise s h)).wide)

  pub noted_of : length s.longest ≡ 16
  noted_of = ∥∥₁_elim e (ℕ_set _ _) (λ h. (sound n lawful promise s (reached n promise s h)).noted)

  pub since_of : (index since left draw : ℕ) → index < length n.tasks → get_or s.lines index Never ≡ Open since left draw → since ≤ s.clock
  since_of index since left draw listed line =
      ∥∥₁_elim e le_prop (λ h. (open_in_time n lawful promise s h index since left draw listed line).released)

  pub clock_of : s.clock ≤ clock_end
  clock_of = ∥∥₁_elim e le_prop (λ h. (sound n lawful promise s (reached n promise s h)).clock)

  pub closed_of : s.closed ≤ 17 * s.clock
  closed_of = ∥∥₁_elim e le_prop (λ h. closed_few n lawful promise s (reached n promise s h))

  pub finished_of : s.finished ≤ s.closed
  finished_of = ∥∥₁_elim e le_prop (λ h. finished_are_closed n lawful promise s h)

  pub released_of : s.released ≤ s.closed + 16
  released_of = ∥∥₁_elim e le_prop (λ h. released_few n lawful promise s (reached n promise s h))

-- the history goes on

module _ (n : Setup) (promise : ℕ) (s t : State) (e : ∥ History n promise s ∥₁) where
  pub slotted_to : (harvest : ℕ) → Harvest promise harvest → s.clock < clock_end → t ≡ slot_step n s harvest → ∥ History n promise t ∥₁
  slotted_to harvest law room p =
      subst (λ x. ∥ History n promise x ∥₁) (sym p)
      (∥∥₁_map e (λ h. slotted s (slot_step n s harvest) None
      (done (slot_step n s harvest) (one_slot n promise s (promises n promise h).0 room)
      (next 0 s harvest (slot_step n s harvest) law (over (slot_step n s harvest)))) h))

  pub released_to : (task units draw : ℕ) → t ≡ release_step n s task units draw → ∥ History n promise t ∥₁
  released_to task units draw p = subst (λ x. ∥ History n promise x ∥₁) (sym p) (∥∥₁_map e (λ h. released s task units draw h))
