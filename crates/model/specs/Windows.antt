-- What a bound is, how many rounds the search for it takes, and when a table is accepted.
--   Rising, Positive   a curve's law
--   LeastWindow       the bound, where there is one
--   Rounds             the windows that a search goes through, counted
--   largest_window     how far a task's bound may reach
--   Fits               a window that holds a task's demand
--   Accepted           every task has a window that fits
use Rattle.std.specs.Prelude.{ℕ, ◌+◌, ◌<◌, ◌≤◌, List, length, Some, None, Option, slice_index_or}
use Rattle.model.specs.declared.task.Task.{Task}
use Rattle.model.specs.Tasks.{no_task}
use Rattle.model.specs.Demand.{safe_curve}

-- a curve never falls as the window grows, and is at least 1
abbrev pub Rising : (ℕ → ℕ) → Type 0
Rising curve = (v w : ℕ) → v ≤ w → curve v ≤ curve w

abbrev pub Positive : (ℕ → ℕ) → Type 0
Positive curve = (w : ℕ) → 1 ≤ curve w

-- the least window from 1 to the deadline that the curve does not exceed; absent exactly when there is none
abbrev pub LeastWindow : (ℕ → ℕ) → ℕ → Option ℕ → Type 0
LeastWindow curve deadline (Some w) = (1 ≤ w) × (w ≤ deadline) × (curve w ≤ w) × ((v : ℕ) → 1 ≤ v → v < w → v < curve v)
LeastWindow curve deadline None = (v : ℕ) → 1 ≤ v → v ≤ deadline → v < curve v

-- The search from a window: each round works the curve out once, and its value is the next window.
pub data Rounds (curve : ℕ → ℕ) (deadline : ℕ) : ℕ → Option ℕ → ℕ → Type 0 where
  found : (w : ℕ) → curve w ≤ w → Rounds curve deadline w (Some w) 1
  above : (w : ℕ) → w < curve w → deadline < curve w → Rounds curve deadline w None 1
  again : (w : ℕ) (r : Option ℕ) (n : ℕ) → w < curve w → curve w ≤ deadline → Rounds curve deadline (curve w) r n → Rounds curve deadline w r (n + 1)

-- the largest window that a task's bound may have
abbrev pub largest_window : Task → ℕ
largest_window t = t.deadline

-- a window up to the task's largest one that holds its demand
abbrev pub Fits : ℕ → List Task → ℕ → ℕ → Type 0
Fits gain ts index window = (1 ≤ window) × (window ≤ largest_window (slice_index_or ts index no_task)) × (safe_curve gain ts index window ≤ window)

-- every task has a window that fits: its safe bound is present
abbrev pub Accepted : ℕ → List Task → Type 0
Accepted gain ts = (index : ℕ) → index < length ts → (window : ℕ) × Fits gain ts index window
