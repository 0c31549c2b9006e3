-- The run that shows a task's longest response is a history of its table: its clock goes up by one, and nothing of it is refused but early releases.
use Rattle.std.proofs.Common.{◌≡◌, ℕ, zero, suc, ◌+◌, ◌<◌, ◌≤◌, ltb, get_or, None, refl, ◌∙◌, le_refl, arith}
use Rattle.std.proofs.lemmas.Bool.{le-ltb, cond-false}
use Rattle.model.specs.declared.state.State.{State}
use Rattle.model.specs.Tasks.{no_task}
use Rattle.model.specs.Setups.{Setup, gain, LawfulSetup}
use Rattle.model.specs.Slots.{slot_step}
use Rattle.model.specs.Releases.{clock_end}
use Rattle.model.specs.Orders.{slots_refusal, Run, over, next, done}
use Rattle.model.specs.Histories.{History, started, released, slotted}
use Rattle.model.specs.Worst.{full_releases, worst_run}
use Rattle.model.proofs.Rule.{Rule}
use Rattle.model.proofs.FullReleases.{full_releases_keep_clock}

module _ (n : Setup) (lawful : LawfulSetup n) (rule : (s : State) (h : ℕ) → gain n ≤ h → Rule n s h (slot_step n s h)) where
  pub worst_run_clock : (index clock : ℕ) → (worst_run n index clock).clock ≡ clock
  worst_run_clock index zero = refl
  worst_run_clock index (suc clock) =
      let before = full_releases n (suc index) (worst_run n index clock) in
      let kept : before.clock ≡ (worst_run n index clock).clock = full_releases_keep_clock n (suc index) (worst_run n index clock) in
      let up : (worst_run n index (suc clock)).clock ≡ before.clock + 1 = (rule before n.rate (le_refl n.rate)).clock in
      omega (arith, worst_run_clock index clock)

  pub full_releases_are_history : (k : ℕ) (s : State) → History n n.rate s → History n n.rate (full_releases n k s)
  full_releases_are_history zero s h = h
  full_releases_are_history (suc k) s h =
      let t = get_or n.tasks k no_task in
      released (full_releases n k s) (suc k) t.units t.draw (full_releases_are_history k s h)

  one_slot_not_refused : (s : State) → s.clock < clock_end → slots_refusal n n.rate s 1 ≡ None
  one_slot_not_refused s before =
      cond-false (ltb n.rate n.rate) _ _ (le-ltb n.rate n.rate (le_refl n.rate))
      ∙ cond-false (ltb clock_end (s.clock + 1)) _ _ (le-ltb clock_end (s.clock + 1) (omega arith))

  pub one_slot_is_history : (s : State) → s.clock < clock_end → History n n.rate s → History n n.rate (slot_step n s n.rate)
  one_slot_is_history s before h =
      let after = slot_step n s n.rate in
      let ran : Run n n.rate 1 s after = next 0 s n.rate after (le_refl n.rate, lawful.rated.1) (over after) in
      slotted s after None (done after (one_slot_not_refused s before) ran) h

  pub worst_is_history : (index clock : ℕ) → clock ≤ clock_end → History n n.rate (worst_run n index clock)
  worst_is_history index zero h = started n.floor (le_refl n.floor, lawful.stored.0) (le_refl n.rate) lawful.rated.1
  worst_is_history index (suc clock) h =
      let run = worst_run n index clock in
      let kept : (full_releases n (suc index) run).clock ≡ run.clock = full_releases_keep_clock n (suc index) run in
      one_slot_is_history (full_releases n (suc index) run) (omega (arith, worst_run_clock index clock))
      (full_releases_are_history (suc index) run (worst_is_history index clock (omega arith)))

  -- before a slot of that run, too
  pub worst_releases_are_history :
      (index clock k : ℕ) → clock ≤ clock_end → History n n.rate (full_releases n k (worst_run n index clock))
  worst_releases_are_history index clock k h = full_releases_are_history k (worst_run n index clock) (worst_is_history index clock h)
