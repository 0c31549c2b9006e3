-- Slots by number, orders with their marks, and the report.
--   slots_refusal   why a number of slots is refused
--   Run             a number of slots, each with an amount that the harvester may bring
--   Slotted         slots by number with their outcome, done or refused
--   Driven          a list of orders, each done in turn and marked
use Rattle.std.specs.Prelude.{◌≡◌, ℕ, zero, suc, ◌+◌, cond, List, [], ◌∷◌, Some, None, Option, nat_lt}
use Rattle.model.specs.declared.refusal.Refusal.{Refusal}
use Rattle.model.specs.declared.refusal.Refusal.TheVariants.{PromiseTooLow, ClockEnd}
use Rattle.model.specs.declared.order.Ask.{Ask}
use Rattle.model.specs.declared.order.Ask.TheVariants.{Release, Slots}
use Rattle.model.specs.declared.order.Order.{Order}
use Rattle.model.specs.declared.order.Report.{Report}
use Rattle.model.specs.declared.state.State.{State}
use Rattle.model.specs.Refusals.{mark_of}
use Rattle.model.specs.Setups.{Setup}
use Rattle.model.specs.Energy.{Harvest}
use Rattle.model.specs.Slots.{slot_step}
use Rattle.model.specs.Releases.{clock_end, release_refusal, release_step}

-- no slots are done at any clock; more are refused whole
abbrev pub slots_refusal : Setup → ℕ → State → ℕ → Option Refusal
slots_refusal n promise s zero = None
slots_refusal n promise s (suc k) =
    cond (nat_lt promise n.rate) (Some PromiseTooLow) (cond (nat_lt clock_end (s.clock + suc k)) (Some ClockEnd) None)

pub data Run (n : Setup) (promise : ℕ) : ℕ → State → State → Type 0 where
  over : (s : State) → Run n promise 0 s s
  next : (k : ℕ) (s : State) (harvest : ℕ) (t : State) → Harvest promise harvest → Run n promise k (slot_step n s harvest) t →
      Run n promise (suc k) s t

pub data Slotted (n : Setup) (promise count : ℕ) (s : State) : Option Refusal → State → Type 0 where
  done : (t : State) → slots_refusal n promise s count ≡ None → Run n promise count s t → Slotted n promise count s None t
  denied : (r : Refusal) → slots_refusal n promise s count ≡ Some r → Slotted n promise count s (Some r) s

-- what one order does: its outcome, and the state after it
abbrev pub Obeyed : Setup → ℕ → State → Ask → Option Refusal → State → Type 0
Obeyed n promise s (Release task units draw) o t = (o ≡ release_refusal n s task units draw) × (t ≡ release_step n s task units draw)
Obeyed n promise s (Slots count) o t = Slotted n promise count s o t

abbrev pub marked : Order → ℕ → Order
marked o m = record { ask = o.ask; mark = m }

-- the orders as they were, the orders as they are marked, and the state after them
pub data Driven (n : Setup) (promise : ℕ) : State → List Order → List Order → State → Type 0 where
  stop : (s : State) → Driven n promise s [] [] s
  step : (s t u : State) (o : Order) (outcome : Option Refusal) (os ps : List Order) → Obeyed n promise s o.ask outcome t →
      Driven n promise t os ps u → Driven n promise s (o ∷ os) (marked o (mark_of outcome) ∷ ps) u

abbrev pub report_of : State → Report
report_of s = record {
  clock = s.clock;
  level = s.level;
  released = s.released;
  closed = s.closed;
  finished = s.finished;
  longest = s.longest;
}
