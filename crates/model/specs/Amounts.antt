-- Slots and orders with the amounts that the slots brought: each is the relation of Orders, and the amounts besides.
--   RunBy       slots in turn, one for each amount of a list; the harvester may bring each of them
--   SlottedBy   slots by number with their outcome, done or refused, and the amounts that they brought
--   ObeyedBy    one order with its outcome, and the amounts that its slots brought
--   DrivenBy    a list of orders, each done in turn and marked, and the amounts that all their slots brought
use Rattle.std.specs.Prelude.{◌≡◌, ℕ, List, [], ◌∷◌, ◌++◌, length, Some, None, Option}
use Rattle.model.specs.declared.refusal.Refusal.{Refusal}
use Rattle.model.specs.declared.order.Ask.{Ask}
use Rattle.model.specs.declared.order.Ask.TheVariants.{Release, Slots}
use Rattle.model.specs.declared.order.Order.{Order}
use Rattle.model.specs.declared.state.State.{State}
use Rattle.model.specs.Refusals.{mark_of}
use Rattle.model.specs.Setups.{Setup}
use Rattle.model.specs.Energy.{Harvest}
use Rattle.model.specs.Slots.{slot_step}
use Rattle.model.specs.Releases.{release_refusal, release_step}
use Rattle.model.specs.Orders.{slots_refusal, marked}

pub data RunBy (n : Setup) (promise : ℕ) : State → List ℕ → State → Type 0 where
  over_by : (s : State) → RunBy n promise s [] s
  next_by : (s : State) (harvest : ℕ) (amounts : List ℕ) (t : State) → Harvest promise harvest →
      RunBy n promise (slot_step n s harvest) amounts t → RunBy n promise s (harvest ∷ amounts) t

pub data SlottedBy (n : Setup) (promise count : ℕ) (s : State) : Option Refusal → List ℕ → State → Type 0 where
  done_by : (amounts : List ℕ) (t : State) → slots_refusal n promise s count ≡ None → length amounts ≡ count → RunBy n promise s amounts t →
      SlottedBy n promise count s None amounts t
  denied_by : (r : Refusal) → slots_refusal n promise s count ≡ Some r → SlottedBy n promise count s (Some r) [] s

abbrev pub ObeyedBy : Setup → ℕ → State → Ask → Option Refusal → List ℕ → State → Type 0
ObeyedBy n promise s (Release task units draw) o amounts t =
    (o ≡ release_refusal n s task units draw) × (amounts ≡ []) × (t ≡ release_step n s task units draw)
ObeyedBy n promise s (Slots count) o amounts t = SlottedBy n promise count s o amounts t

-- the orders as they were, the orders as they are marked, the amounts in turn, and the state after them
pub data DrivenBy (n : Setup) (promise : ℕ) : State → List Order → List Order → List ℕ → State → Type 0 where
  stop_by : (s : State) → DrivenBy n promise s [] [] [] s
  step_by : (s t u : State) (o : Order) (outcome : Option Refusal) (os ps : List Order) (amounts later : List ℕ) →
      ObeyedBy n promise s o.ask outcome amounts t → DrivenBy n promise t os ps later u →
      DrivenBy n promise s (o ∷ os) (marked o (mark_of outcome) ∷ ps) (amounts ++ later) u
