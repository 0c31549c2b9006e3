-- What is told with the amounts that the slots brought holds without them.
--   run_told, slots_told, order_told, drive_told   slots in turn, slots by number, one order, and a list of orders
use Rattle.std.proofs.Common.{ℕ, List, length, Option, subst}
use Rattle.model.specs.declared.refusal.Refusal.{Refusal}
use Rattle.model.specs.declared.order.Ask.{Ask}
use Rattle.model.specs.declared.order.Ask.TheVariants.{Release, Slots}
use Rattle.model.specs.declared.order.Order.{Order}
use Rattle.model.specs.declared.state.State.{State}
use Rattle.model.specs.Setups.{Setup}
use Rattle.model.specs.Orders.{Run, over, next, Slotted, done, denied, Obeyed, Driven, stop, step}
use Rattle.model.specs.Amounts.{RunBy, over_by, next_by, SlottedBy, done_by, denied_by, ObeyedBy, DrivenBy, stop_by, step_by}

module _ (n : Setup) (promise : ℕ) where
  pub run_told : {s t : State} {xs : List ℕ} → RunBy n promise s xs t → Run n promise (length xs) s t
  run_told (over_by s) = over s
  run_told (next_by s harvest xs t law rest) = next (length xs) s harvest t law (run_told rest)

  pub slots_told : {count : ℕ} {s t : State} {o : Option Refusal} {xs : List ℕ} → SlottedBy n promise count s o xs t → Slotted n promise count s o t
  slots_told {count} {s} (done_by xs t e many run) = done t e (subst (λ k. Run n promise k s t) many (run_told run))
  slots_told (denied_by r e) = denied r e

  pub order_told : (s : State) (a : Ask) (o : Option Refusal) (xs : List ℕ) (t : State) → ObeyedBy n promise s a o xs t → Obeyed n promise s a o t
  order_told s (Release task units draw) o xs t h = (h.0, h.2)
  order_told s (Slots count) o xs t h = slots_told h

  pub drive_told : {s t : State} {os ps : List Order} {xs : List ℕ} → DrivenBy n promise s os ps xs t → Driven n promise s os ps t
  drive_told (stop_by s) = stop s
  drive_told (step_by s t u o outcome os ps xs later h rest) = step s t u o outcome os ps (order_told s o.ask outcome xs t h) (drive_told rest)
