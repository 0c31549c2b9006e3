-- A table as the node and the theory see it: the node's numbers and its tasks, the most urgent first.
--   Setup          rate, floor, cap (here: top) and tasks
--   LawfulSetup   the limits that every table keeps
--   OneSided      all tasks draw at least the gain of a slot, or all at most that
use Rattle.std.specs.Prelude.{ℕ, ◌-◌, ◌≤◌, ◌⊎◌, List, length}
use Rattle.model.specs.declared.task.Task.{Task}
use Rattle.model.specs.Tasks.{Each, LawfulRate, LawfulStore, LawfulTasks}

pub record Setup : Type 0 where
  pub rate : ℕ
  pub floor : ℕ
  pub top : ℕ
  pub tasks : List Task

-- what a slot surely brings
abbrev pub gain : Setup → ℕ
gain n = n.rate

pub record LawfulSetup (n : Setup) : Type 0 where
  pub rated : LawfulRate n.rate
  pub stored : LawfulStore n.floor n.top
  pub tasked : LawfulTasks (n.top - n.floor) n.tasks

abbrev pub OneSided : Setup → Type 0
OneSided n = Each (λ t. gain n ≤ t.draw) n.tasks (length n.tasks) ⊎ Each (λ t. t.draw ≤ gain n) n.tasks (length n.tasks)
