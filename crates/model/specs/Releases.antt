-- Releases: which are refused, and what the others change.
--   clock_end         the last clock
--   release_refusal   the first reason that holds, in the order of the checks
--   release_step      the state after a release, done or refused
use Rattle.std.specs.Prelude.{ℕ, zero, suc, ◌+◌, Bool, false, cond, ◌&&◌, length, Some, None, Option, nat_le, nat_lt, slice_index_or, slice_set}
use Rattle.model.specs.declared.task.Task.{Task}
use Rattle.model.specs.declared.refusal.Refusal.{Refusal}
use Rattle.model.specs.declared.refusal.Refusal.TheVariants.{NoSuchTask, OutsideTask, TooEarly, ClockEnd}
use Rattle.model.specs.declared.state.Line.{Line}
use Rattle.model.specs.declared.state.Line.TheVariants.{Never, Closed, Open}
use Rattle.model.specs.declared.state.State.{State}
use Rattle.model.specs.Tasks.{no_task}
use Rattle.model.specs.Setups.{Setup}

abbrev pub clock_end : ℕ
clock_end = 4000000000

-- a job has 1 to all units of its task, and draws at most what the task does
abbrev pub job_fits : Task → ℕ → ℕ → Bool
job_fits t units draw = nat_le 1 units && (nat_le units t.units && nat_le draw t.draw)

-- less than a period has passed since the task's last release
abbrev pub too_early : ℕ → Task → Line → Bool
too_early clock t Never = false
too_early clock t (Closed r) = nat_lt clock (r + t.period)
too_early clock t (Open r u d) = nat_lt clock (r + t.period)

-- the refusals of a release of the task at an index
abbrev pub refusal_at : Setup → State → ℕ → ℕ → ℕ → Option Refusal
refusal_at n s index units draw =
    cond (nat_lt index (length n.tasks))
    (cond (job_fits (slice_index_or n.tasks index no_task) units draw)
    (cond (nat_lt s.clock clock_end)
    (cond (too_early s.clock (slice_index_or n.tasks index no_task) (slice_index_or s.lines index Never)) (Some TooEarly) None)
    (Some ClockEnd))
    (Some OutsideTask))
    (Some NoSuchTask)

abbrev pub opened : State → ℕ → ℕ → ℕ → State
opened s index units draw = record {
  clock = s.clock;
  level = s.level;
  released = s.released + 1;
  closed = s.closed;
  finished = s.finished;
  lines = slice_set s.lines index (Open s.clock units draw);
  longest = s.longest;
}

abbrev pub opened_if : Option Refusal → State → ℕ → ℕ → ℕ → State
opened_if None s index units draw = opened s index units draw
opened_if (Some r) s index units draw = s

-- tasks are named by their numbers, from 1
abbrev pub release_refusal : Setup → State → ℕ → ℕ → ℕ → Option Refusal
release_refusal n s zero units draw = Some NoSuchTask
release_refusal n s (suc index) units draw = refusal_at n s index units draw

abbrev pub release_step : Setup → State → ℕ → ℕ → ℕ → State
release_step n s zero units draw = s
release_step n s (suc index) units draw = opened_if (refusal_at n s index units draw) s index units draw
