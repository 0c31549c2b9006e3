-- What holds in every history of a lawful table, accepted or not.
--   InEveryHistory                     a fact of every state that a history leads to
--   NotOpen, NoneOpen, MostUrgent     what the lines say of open jobs
--   open_jobs                            how many jobs are open
--   LevelKept, DrawsCovered            the store
--   MostUrgentFirst, WaitsOnlyIfShort, RunsOnlyIfPaid, IdleOnlyIfNone   the slot
--   OpenInTime, OneOpenJob, ReleasedIsClosedAndOpen, FinishedAreClosed   the jobs
--   ResponsesByDeadline, NeverShort   the responses and the promise
use Rattle.std.specs.Prelude.{◌≡◌, ℕ, ◌+◌, ◌<◌, ◌≤◌, ◌⊎◌, List, [], ◌∷◌, length, get_or, Some, None, ◌≢◌, slice_index_or}
use Rattle.model.specs.declared.task.Task.{Task}
use Rattle.model.specs.declared.refusal.Refusal.TheVariants.{PromiseTooLow}
use Rattle.model.specs.declared.state.Line.{Line}
use Rattle.model.specs.declared.state.Line.TheVariants.{Never, Closed, Open}
use Rattle.model.specs.declared.state.State.{State}
use Rattle.model.specs.Tasks.{no_task}
use Rattle.model.specs.Setups.{Setup, gain, LawfulSetup}
use Rattle.model.specs.Energy.{Harvest, LawfulLevel}
use Rattle.model.specs.Slots.{Job, Turn, turn_of, drawn}
use Rattle.model.specs.Releases.{refusal_at}
use Rattle.model.specs.Orders.{slots_refusal}
use Rattle.model.specs.Histories.{History}
use Rattle.model.specs.OnTime.{AtMost}

abbrev pub InEveryHistory : (Setup → ℕ → State → Type 0) → Type 0
InEveryHistory P = (n : Setup) → LawfulSetup n → (promise : ℕ) (s : State) → History n promise s → P n promise s

-- Open jobs

abbrev pub NotOpen : Line → Type 0
NotOpen Never = Unit {0}
NotOpen (Closed r) = Unit {0}
NotOpen (Open r u d) = ⊥

-- no task has an open job
abbrev pub NoneOpen : Setup → State → Type 0
NoneOpen n s = (index : ℕ) → index < length n.tasks → NotOpen (slice_index_or s.lines index Never)

-- a job is the open one of its task, and no more urgent task has one
pub record MostUrgent (n : Setup) (s : State) (j : Job) : Type 0 where
  pub listed : j.index < length n.tasks
  pub task : get_or n.tasks j.index no_task ≡ j.task
  pub line : get_or s.lines j.index Never ≡ Open j.since j.left j.draw
  pub ahead : (index : ℕ) → index < j.index → NotOpen (slice_index_or s.lines index Never)

abbrev pub one_if_open : Line → ℕ
one_if_open Never = 0
one_if_open (Closed r) = 0
one_if_open (Open r u d) = 1

-- the open jobs of these tasks, by their lines
abbrev pub open_jobs : List Task → List Line → ℕ
open_jobs [] ls = 0
open_jobs (t ∷ ts) [] = 0
open_jobs (t ∷ ts) (l ∷ ls) = one_if_open l + open_jobs ts ls

-- a job that is open was released, is not yet due, has units left, and lies within its task's limits
pub record NotYetDue (clock : ℕ) (t : Task) (since left draw : ℕ) : Type 0 where
  pub released : since ≤ clock
  pub in_time : clock < since + t.deadline
  pub some : 1 ≤ left
  pub few : left ≤ t.units
  pub payable : draw ≤ t.draw

-- The store

-- the level lies between floor and cap
abbrev pub LevelKept : Type 0
LevelKept = InEveryHistory (λ n promise s. LawfulLevel n s.level)

-- whatever the harvester may bring in a slot, what is drawn in it is there above the floor
abbrev pub DrawsCovered : Type 0
DrawsCovered = InEveryHistory (λ n promise s. (harvest : ℕ) → Harvest promise harvest → n.floor + drawn (turn_of n s) ≤ s.level + harvest)

-- The slot

-- only the most urgent open job runs or is waited for
abbrev pub MostUrgentFirst : Type 0
MostUrgentFirst = InEveryHistory (λ n promise s. (j : Job) → (turn_of n s ≡ Turn.runs j) ⊎ (turn_of n s ≡ Turn.waits j) → MostUrgent n s j)

-- the node waits only if the level and the gain do not pay for a unit of the task
abbrev pub WaitsOnlyIfShort : Type 0
WaitsOnlyIfShort =
    InEveryHistory (λ n promise s. (j : Job) → turn_of n s ≡ Turn.waits j → s.level + gain n < j.task.draw + n.floor)

-- a unit runs only if the level and the gain pay for a unit of the task
abbrev pub RunsOnlyIfPaid : Type 0
RunsOnlyIfPaid =
    InEveryHistory (λ n promise s. (j : Job) → turn_of n s ≡ Turn.runs j → j.task.draw + n.floor ≤ s.level + gain n)

-- the node is idle only if no task has an open job
abbrev pub IdleOnlyIfNone : Type 0
IdleOnlyIfNone = InEveryHistory (λ n promise s. turn_of n s ≡ Turn.idle → NoneOpen n s)

-- The jobs

-- every open job is within its deadline and its task's limits
abbrev pub OpenInTime : Type 0
OpenInTime = InEveryHistory (λ n promise s.
    (index since left draw : ℕ) → index < length n.tasks → slice_index_or s.lines index Never ≡ Open since left draw →
    NotYetDue s.clock (slice_index_or n.tasks index no_task) since left draw)

-- a task with an open job is not released again
abbrev pub OneOpenJob : Type 0
OneOpenJob = InEveryHistory (λ n promise s.
    (index r u d units draw : ℕ) → slice_index_or s.lines index Never ≡ Open r u d → refusal_at n s index units draw ≢ None)

-- every job that was released is closed or open
abbrev pub ReleasedIsClosedAndOpen : Type 0
ReleasedIsClosedAndOpen = InEveryHistory (λ n promise s. s.released ≡ s.closed + open_jobs n.tasks s.lines)

-- every job that finished by its deadline is closed
abbrev pub FinishedAreClosed : Type 0
FinishedAreClosed = InEveryHistory (λ n promise s. s.finished ≤ s.closed)

-- The responses and the promise

-- every job that finished did so by its deadline
abbrev pub ResponsesByDeadline : Type 0
ResponsesByDeadline = InEveryHistory (λ n promise s.
    (index : ℕ) → index < length n.tasks → AtMost (get_or n.tasks index no_task).deadline (slice_index_or s.longest index None))

-- no number of slots is refused for a low promise
abbrev pub NeverShort : Type 0
NeverShort = InEveryHistory (λ n promise s. (count : ℕ) → slots_refusal n promise s count ≢ Some PromiseTooLow)
