-- What a table says, as numbers and lists; this file names no struct but the task.
--   Contents   a node's numbers, its tasks and their names, the most urgent first
--   bare       no tasks
--   extended   one task more, the least urgent
use Rattle.std.specs.Prelude.{ℕ, ◌-◌, List, [], ◌∷◌, ◌++◌}
use Rattle.model.specs.declared.task.Task.{Task}

pub record Contents : Type 0 where
  pub rate : ℕ
  pub floor : ℕ
  pub top : ℕ
  pub tasks : List Task
  pub names : List (List ℕ)

abbrev pub bare : ℕ → ℕ → ℕ → Contents
bare rate floor top = record { rate = rate; floor = floor; top = top; tasks = []; names = [] }

abbrev pub extended : Contents → Task → List ℕ → Contents
extended c t name =
    record { rate = c.rate; floor = c.floor; top = c.top; tasks = c.tasks ++ (t ∷ []); names = c.names ++ (name ∷ []) }

-- the room between floor and cap
abbrev pub room : Contents → ℕ
room c = c.top - c.floor
