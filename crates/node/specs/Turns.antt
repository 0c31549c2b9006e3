-- What the code says of open jobs and turns, in the words of the slot's definition.
--   job_said, candidate_said, turn_said   the code's answers as the theory's
--   StandsAt      a job is the open one of a task and its line
--   CandidateStands   so is the job that a search gives
--   open_from, BeginAt, turn_job   where the open jobs begin
--   progress_of    how far a job comes with the unit that runs
--   Workable       a turn that the lines have room for, of a job that was released by now
--   worked_state   the state once the turn's unit is done, before the clock moves
use Rattle.std.specs.Prelude.{◌≡◌, ℕ, ◌+◌, ◌-◌, ◌<◌, ◌≤◌, cond, List, length, get_or, Some, None, Option, nat_le, slice_index_or}
use Rattle.model.specs.declared.task.Task.{Task}
use Rattle.model.specs.declared.state.Line.{Line}
use Rattle.model.specs.declared.state.Line.TheVariants.{Never, Open}
use Rattle.model.specs.declared.state.State.{State}
use Rattle.model.specs.declared.slot.Progress.{Progress}
use Rattle.model.specs.declared.slot.Progress.TheVariants.{GoesOn, Finished}
use Rattle.model.specs.Tasks.{no_task}
use Rattle.model.specs.Slots.{Job as OpenJob, Turn as SlotTurn, idle, waits, runs, ends, worked, noted}
use Rattle.node.specs.Ahead.{NoneBefore}
use Rattle.node.specs.declared.turn.Job.{Job}
use Rattle.node.specs.declared.turn.Turn.{Turn}
use Rattle.node.specs.declared.turn.Turn.TheVariants.{Idle, Waits, Runs}

abbrev pub job_said : Job → OpenJob
job_said j = record { index = j.index; task = j.task; since = j.since; left = j.left; draw = j.draw }

abbrev pub candidate_said : Option Job → Option OpenJob
candidate_said None = None
candidate_said (Some j) = Some (job_said j)

abbrev pub turn_said : Turn → SlotTurn
turn_said Idle = idle
turn_said (Waits j) = waits (job_said j)
turn_said (Runs j) = runs (job_said j)

pub record StandsAt (ts : List Task) (ls : List Line) (j : Job) : Type 0 where
  pub listed : j.index < length ts
  pub task : j.task ≡ slice_index_or ts j.index no_task
  pub line : get_or ls j.index Never ≡ Open j.since j.left j.draw

abbrev pub CandidateStands : List Task → List Line → Option Job → Type 0
CandidateStands ts ls None = Unit {0}
CandidateStands ts ls (Some j) = StandsAt ts ls j

-- the index of the candidate, or the number of tasks where there is none
abbrev pub open_from : ℕ → Option Job → ℕ
open_from count None = count
open_from count (Some j) = j.index

-- the open jobs begin there
abbrev pub BeginAt : ℕ → Option Job → List Line → Type 0
BeginAt count job ls = (open_from count job ≤ count) × NoneBefore (open_from count job) ls

-- the job that a turn is about
abbrev pub turn_job : Turn → Option Job
turn_job Idle = None
turn_job (Waits j) = Some j
turn_job (Runs j) = Some j

abbrev pub progress_of : OpenJob → ℕ → Progress
progress_of j clock = cond (nat_le j.left 1) (Finished (clock + 1 - j.since)) GoesOn

abbrev pub Workable : Turn → State → Type 0
Workable Idle s = Unit {0}
Workable (Waits j) s = j.index < 16
Workable (Runs j) s = (j.index < 16) × (j.since ≤ s.clock)

abbrev pub worked_state : SlotTurn → State → State
worked_state v s = record {
  clock = s.clock;
  level = s.level;
  released = s.released;
  closed = s.closed + cond (ends v) 1 0;
  finished = s.finished + cond (ends v) 1 0;
  lines = worked v s.lines;
  longest = noted v s.clock s.longest;
}
