-- What a verdict says of the tasks of a table.
--   BoundOf     the least window of a curve, found in exactly so many rounds
--   BoundsOf    the three bounds of the task at an index
--   AllBounds   the bounds of every task
--   VerdictOf   what a verdict says: all bounds, and whether the tasks are accepted
--   NoBoundsBehind   a place without a task holds no bound
use Rattle.std.specs.Prelude.{◌≡◌, ℕ, ◌<◌, ◌≤◌, List, length, take, None, Decides, slice_index_or}
use Rattle.model.specs.declared.task.Task.{Task}
use Rattle.model.specs.Tasks.{no_task}
use Rattle.model.specs.Demand.{time_curve, greater_curve, safe_curve}
use Rattle.model.specs.Windows.{LeastWindow, Rounds, largest_window, Accepted}
use Rattle.analysis.specs.declared.verdict.Bound.{Bound}
use Rattle.analysis.specs.declared.verdict.TaskBounds.{TaskBounds}
use Rattle.analysis.specs.declared.verdict.Verdict.{Verdict}

-- what stands past the end of a verdict's bounds
abbrev pub no_bound : Bound
no_bound = record { window = None; rounds = 0 }

abbrev pub no_bounds : TaskBounds
no_bounds = record { time = no_bound; greater = no_bound; safe = no_bound }

abbrev pub BoundOf : (ℕ → ℕ) → ℕ → Bound → Type 0
BoundOf curve deadline b = LeastWindow curve deadline b.window × Rounds curve deadline 1 b.window b.rounds

pub record BoundsOf (gain : ℕ) (ts : List Task) (index : ℕ) (b : TaskBounds) : Type 0 where
  pub time : BoundOf (time_curve ts index) (largest_window (slice_index_or ts index no_task)) b.time
  pub greater : BoundOf (greater_curve gain ts index) (largest_window (slice_index_or ts index no_task)) b.greater
  pub safe : BoundOf (safe_curve gain ts index) (largest_window (slice_index_or ts index no_task)) b.safe

-- the bounds of each task of a list, in its order
pub record AllBounds (gain : ℕ) (ts : List Task) (bs : List TaskBounds) : Type 0 where
  pub count : length bs ≡ length ts
  pub each : (k : ℕ) → k < length ts → BoundsOf gain ts k (slice_index_or bs k no_bounds)

-- the bounds that a verdict holds
abbrev pub bounds_list : Verdict → List TaskBounds
bounds_list v = take v.count v.bounds

pub record VerdictOf (gain : ℕ) (ts : List Task) (v : Verdict) : Type 0 where
  pub count : v.count ≡ length ts
  pub bounds : AllBounds gain ts (bounds_list v)
  pub accepted : Decides v.accepted (Accepted gain ts)

abbrev pub NoBoundsBehind : List Task → Verdict → Type 0
NoBoundsBehind ts v = (k : ℕ) → length ts ≤ k → slice_index_or v.bounds k no_bounds ≡ no_bounds
