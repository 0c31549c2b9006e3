-- Every history is made of single releases and single slots, and its harvester promises the rate.
--   reached        a history's state is reached
--   promises       the promise is at least the rate
--   never_short    so no number of slots is refused for a low promise
use Rattle.std.proofs.Common.{◌≡◌, ℕ, zero, suc, ◌+◌, ◌≤◌, Bool, true, false, cond, ltb, List, Some, None, Option, sym, refl, subst, arith}
use Rattle.std.proofs.lemmas.Bool.{ltb-false, le-ltb}
use Rattle.model.specs.declared.refusal.Refusal.{Refusal}
use Rattle.model.specs.declared.refusal.Refusal.TheVariants.{PromiseTooLow, ClockEnd}
use Rattle.model.specs.declared.order.Ask.{Ask}
use Rattle.model.specs.declared.order.Ask.TheVariants.{Release, Slots}
use Rattle.model.specs.declared.order.Order.{Order}
use Rattle.model.specs.declared.state.State.{State}
use Rattle.model.specs.Setups.{Setup}
use Rattle.model.specs.Releases.{clock_end}
use Rattle.model.specs.Orders.{slots_refusal, Run, over, next, Slotted, done, denied, Obeyed, Driven, stop, step}
use Rattle.model.specs.Histories.{History, started, released, slotted, driven, reported}
use Rattle.model.proofs.Rule.{Reached, begun, release, slot}

-- where neither of two refusals is given, the second one's reason does not hold
second_fails : (a b : Bool) (x y : Refusal) → cond a (Some x) (cond b (Some y) None) ≡ None → b ≡ false
second_fails true true x y e = cc
second_fails true false x y e = refl
second_fails false true x y e = cc
second_fails false false x y e = refl

module _ (n : Setup) (promise : ℕ) where
  -- some slots that are not refused end by the last clock
  pub within_clock : (s : State) (count : ℕ) → slots_refusal n promise s count ≡ None → 1 ≤ count → s.clock + count ≤ clock_end
  within_clock s zero e some = absurd (omega arith)
  within_clock s (suc k) e some =
      ltb-false _ _ (second_fails (ltb promise n.rate) (ltb clock_end (s.clock + suc k)) PromiseTooLow ClockEnd e)

  reached_by_run : {k : ℕ} {s t : State} → Run n promise k s t → (1 ≤ k → s.clock + k ≤ clock_end) → Reached n promise s → Reached n promise t
  reached_by_run (over s) room r = r
  reached_by_run (next k s harvest t law rest) room r =
      let last : s.clock + suc k ≤ clock_end = room (omega arith) in
      reached_by_run rest (λ _. omega arith) (slot s harvest law (omega arith) r)

  reached_by_slots : {count : ℕ} {s t : State} {o : Option Refusal} → Slotted n promise count s o t → Reached n promise s → Reached n promise t
  reached_by_slots {count} {s} (done t e run) r = reached_by_run run (within_clock s count e) r
  reached_by_slots (denied x e) r = r

  reached_by_order : (s : State) (a : Ask) (o : Option Refusal) (t : State) → Obeyed n promise s a o t → Reached n promise s → Reached n promise t
  reached_by_order s (Release task units draw) o t h r = subst (λ x. Reached n promise x) (sym h.1) (release s task units draw r)
  reached_by_order s (Slots count) o t h r = reached_by_slots h r

  reached_by_orders : {s t : State} {os ps : List Order} → Driven n promise s os ps t → Reached n promise s → Reached n promise t
  reached_by_orders (stop s) r = r
  reached_by_orders (step s t u o outcome os ps h rest) r = reached_by_orders rest (reached_by_order s o.ask outcome t h r)

  pub reached : (s : State) → History n promise s → Reached n promise s
  reached s (started level law a b) = begun level law a b
  reached s (released x task units draw h) = release x task units draw (reached x h)
  reached s (slotted x t outcome h before) = reached_by_slots h (reached x before)
  reached s (driven x t os ps h before) = reached_by_orders h (reached x before)
  reached s (reported x before) = reached x before

  pub promises : {s : State} → History n promise s → (n.rate ≤ promise) × (promise ≤ 1000000000)
  promises (started level law a b) = (a, b)
  promises (released x task units draw h) = promises h
  promises (slotted x t outcome h before) = promises before
  promises (driven x t os ps h before) = promises before
  promises (reported x before) = promises before

  not_for_promise : (b : Bool) → cond b (Some ClockEnd) None ≡ Some PromiseTooLow → ⊥
  not_for_promise true e = let z : ◌≡◌ {A = ℕ} 0 1 = cc in omega arith
  not_for_promise false e = let z : ◌≡◌ {A = ℕ} 0 1 = cc in omega arith

  pub never_short : {s : State} → History n promise s → (count : ℕ) → slots_refusal n promise s count ≡ Some PromiseTooLow → ⊥
  never_short h zero e = let z : ◌≡◌ {A = ℕ} 0 1 = cc in omega arith
  never_short {s} h (suc k) e =
      let enough : ltb promise n.rate ≡ false = le-ltb promise n.rate (promises h).0 in
      let late = ltb clock_end (s.clock + suc k) in
      not_for_promise late (subst (λ b. cond b (Some PromiseTooLow) (cond late (Some ClockEnd) None) ≡ Some PromiseTooLow) enough e)
