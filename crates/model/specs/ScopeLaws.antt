-- That there are histories to speak of, and that a drive has one outcome.
--   SomeHistory, SlotsGoOn   every lawful table has a history, and it can go on to the last clock
--   RoomForTasks              every task has its line and its longest response
--   OneDrive                   orders and amounts settle marks and state
use Rattle.std.specs.Prelude.{◌≡◌, ℕ, ◌+◌, ◌≤◌, List, length, None}
use Rattle.model.specs.declared.order.Order.{Order}
use Rattle.model.specs.declared.state.State.{State}
use Rattle.model.specs.Setups.{Setup, LawfulSetup}
use Rattle.model.specs.Energy.{LawfulLevel}
use Rattle.model.specs.Releases.{clock_end}
use Rattle.model.specs.Orders.{slots_refusal}
use Rattle.model.specs.Amounts.{DrivenBy}
use Rattle.model.specs.Histories.{fresh, History}
use Rattle.model.specs.HistoryLaws.{InEveryHistory}

-- every lawful table has a history, from every lawful level on
abbrev pub SomeHistory : Type 0
SomeHistory = (n : Setup) → LawfulSetup n → (level : ℕ) → LawfulLevel n level → History n n.rate (fresh level)

-- a history can go on to the last clock
abbrev pub SlotsGoOn : Type 0
SlotsGoOn = InEveryHistory (λ n promise s. (count : ℕ) → s.clock + count ≤ clock_end → slots_refusal n promise s count ≡ None)

-- every task has its line and its longest response
abbrev pub RoomForTasks : Type 0
RoomForTasks = InEveryHistory (λ n promise s. (length n.tasks ≤ length s.lines) × (length n.tasks ≤ length s.longest))

-- the orders, and the amounts that their slots brought, settle the marks and the state
abbrev pub OneDrive : Type 0
OneDrive = (n : Setup) (promise : ℕ) (s t u : State) (os ps qs : List Order) (amounts : List ℕ) →
    DrivenBy n promise s os ps amounts t → DrivenBy n promise s os qs amounts u → (ps ≡ qs) × (t ≡ u)
