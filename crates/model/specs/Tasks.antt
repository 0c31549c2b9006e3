-- The limits of a node and of its tasks: every table that exists keeps them.
--   Sized, Timed, Payable  what one task keeps
--   LawfulTask            all three of one task
--   LawfulRate, LawfulStore   what rate, floor and cap keep
--   Each                   a fact of each of the first n tasks
--   LawfulTasks           at most 16 tasks, each of them lawful
use Rattle.std.specs.Prelude.{ℕ, ◌<◌, ◌≤◌, List, length, slice_index_or}
use Rattle.model.specs.declared.task.Task.{Task}

-- what stands past the end of a list of tasks: all zeros, as the code's own reads have it
abbrev pub no_task : Task
no_task = record { units = 0; period = 0; deadline = 0; draw = 0 }

abbrev pub Sized : Task → Type 0
Sized t = (1 ≤ t.units) × (t.units ≤ 500)

abbrev pub Timed : Task → Type 0
Timed t = (t.units ≤ t.deadline) × (t.deadline ≤ t.period) × (t.period ≤ 100000)

-- a unit's draw is at most the room between floor and cap
abbrev pub Payable : ℕ → Task → Type 0
Payable room t = t.draw ≤ room

abbrev pub LawfulTask : ℕ → Task → Type 0
LawfulTask room t = Sized t × Timed t × Payable room t

abbrev pub LawfulRate : ℕ → Type 0
LawfulRate rate = (1 ≤ rate) × (rate ≤ 1000000000)

abbrev pub LawfulStore : ℕ → ℕ → Type 0
LawfulStore floor top = (floor ≤ top) × (top ≤ 8000000000)

-- a fact of each of the first n tasks of a list
abbrev pub Each : (Task → Type 0) → List Task → ℕ → Type 0
Each P ts n = (k : ℕ) → k < n → P (slice_index_or ts k no_task)

-- a list of at most 16 tasks, each of them lawful
pub record LawfulTasks (room : ℕ) (ts : List Task) : Type 0 where
  pub few : length ts ≤ 16
  pub sized : Each Sized ts (length ts)
  pub timed : Each Timed ts (length ts)
  pub payable : Each (Payable room) ts (length ts)
