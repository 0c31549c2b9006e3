-- One slot: the most urgent open job runs as soon as the store can pay for its next unit; otherwise the node waits.
--   candidate     the most urgent open job
--   turn_of       what the slot is used for
--   worked        the lines after the job that ran has one unit fewer
--   expired       the lines after each job that is due is abandoned
--   slot_step     the state after the slot; slot_answer, what it answers
use Rattle.std.specs.Prelude.{ℕ, suc, ◌+◌, ◌-◌, max, Bool, false, cond, List, [], ◌∷◌, Some, None, Option, ◌==◌, nat_le, slice_index_or, slice_set}
use Rattle.model.specs.declared.task.Task.{Task}
use Rattle.model.specs.declared.state.Line.{Line}
use Rattle.model.specs.declared.state.Line.TheVariants.{Never, Closed, Open}
use Rattle.model.specs.declared.state.State.{State}
use Rattle.model.specs.declared.slot.Progress.TheVariants.{GoesOn, Finished}
use Rattle.model.specs.declared.slot.Activity.{Activity}
use Rattle.model.specs.declared.slot.Activity.TheVariants.{Idle, Waited, Ran}
use Rattle.model.specs.declared.slot.SlotAnswer.{SlotAnswer}
use Rattle.model.specs.Setups.{Setup, gain}
use Rattle.model.specs.Energy.{put_level}

-- an open job: its task and that task's index, the clock of its release, the units left and the draw of each
pub record Job : Type 0 where
  pub index : ℕ
  pub task : Task
  pub since : ℕ
  pub left : ℕ
  pub draw : ℕ

-- the open job with the smallest index, the indices counted from k
abbrev pub candidate : ℕ → List Task → List Line → Option Job
candidate k [] ls = None
candidate k (t ∷ ts) [] = None
candidate k (t ∷ ts) (Never ∷ ls) = candidate (suc k) ts ls
candidate k (t ∷ ts) (Closed r ∷ ls) = candidate (suc k) ts ls
candidate k (t ∷ ts) (Open r u d ∷ ls) = Some (record { index = k; task = t; since = r; left = u; draw = d })

pub data Turn : Type 0 where
  idle : Turn
  waits : Job → Turn
  runs : Job → Turn

-- the candidate runs if the level and the gain pay for a unit of its task
abbrev pub turn_with : Setup → ℕ → Option Job → Turn
turn_with n level None = idle
turn_with n level (Some j) = cond (nat_le (j.task.draw + n.floor) (level + gain n)) (runs j) (waits j)

abbrev pub turn_of : Setup → State → Turn
turn_of n s = turn_with n s.level (candidate 0 n.tasks s.lines)

-- what the job that ran draws
abbrev pub drawn : Turn → ℕ
drawn idle = 0
drawn (waits j) = 0
drawn (runs j) = j.draw

-- whether the unit that ran was its job's last
abbrev pub ends : Turn → Bool
ends idle = false
ends (waits j) = false
ends (runs j) = nat_le j.left 1

-- a job with one unit fewer
abbrev pub unit_fewer : Job → Line
unit_fewer j = cond (nat_le j.left 1) (Closed j.since) (Open j.since (j.left - 1) j.draw)

abbrev pub worked : Turn → List Line → List Line
worked idle ls = ls
worked (waits j) ls = ls
worked (runs j) ls = slice_set ls j.index (unit_fewer j)

-- the longer of a task's longest response and another one
abbrev pub longer : Option ℕ → ℕ → Option ℕ
longer None response = Some response
longer (Some r) response = Some (max r response)

-- the longest responses after a slot at a clock
abbrev pub noted : Turn → ℕ → List (Option ℕ) → List (Option ℕ)
noted idle clock rs = rs
noted (waits j) clock rs = rs
noted (runs j) clock rs = cond (nat_le j.left 1) (slice_set rs j.index (longer (slice_index_or rs j.index None) (clock + 1 - j.since))) rs

-- whether a line has an open job whose deadline is this clock
abbrev pub due : ℕ → Task → Line → Bool
due clock t Never = false
due clock t (Closed r) = false
due clock t (Open r u d) = r + t.deadline == clock

-- a line without its job
abbrev pub shut : Line → Line
shut Never = Never
shut (Closed r) = Closed r
shut (Open r u d) = Closed r

-- each open job whose deadline is this clock is abandoned
abbrev pub expired : ℕ → List Task → List Line → List Line
expired clock [] ls = ls
expired clock (t ∷ ts) [] = []
expired clock (t ∷ ts) (l ∷ ls) = cond (due clock t l) (shut l) l ∷ expired clock ts ls

-- how many these are
abbrev pub abandoned : ℕ → List Task → List Line → ℕ
abandoned clock [] ls = 0
abandoned clock (t ∷ ts) [] = 0
abandoned clock (t ∷ ts) (l ∷ ls) = cond (due clock t l) 1 0 + abandoned clock ts ls

abbrev pub slot_step : Setup → State → ℕ → State
slot_step n s harvest = record {
  clock = s.clock + 1;
  level = put_level n s.level harvest (drawn (turn_of n s));
  released = s.released;
  closed = s.closed + cond (ends (turn_of n s)) 1 0 + abandoned (s.clock + 1) n.tasks (worked (turn_of n s) s.lines);
  finished = s.finished + cond (ends (turn_of n s)) 1 0;
  lines = expired (s.clock + 1) n.tasks (worked (turn_of n s) s.lines);
  longest = noted (turn_of n s) s.clock s.longest;
}

-- the number of a job's task, from 1, and how far the job came
abbrev pub activity_of : Turn → ℕ → Activity
activity_of idle clock = Idle
activity_of (waits j) clock = Waited (j.index + 1)
activity_of (runs j) clock = Ran (j.index + 1) (cond (nat_le j.left 1) (Finished (clock + 1 - j.since)) GoesOn)

abbrev pub slot_answer : Setup → State → ℕ → SlotAnswer
slot_answer n s harvest = record {
  activity = activity_of (turn_of n s) s.clock;
  harvest = harvest;
  draw = drawn (turn_of n s);
  level = put_level n s.level harvest (drawn (turn_of n s));
  abandoned = abandoned (s.clock + 1) n.tasks (worked (turn_of n s) s.lines);
}
