-- What the reader answers at a place of a file, with the order of its checks.
use Rattle.std.specs.Prelude.{ℕ, ◌+◌, ◌-◌, cond, List, length, take, drop, ◌==◌, nat_lt}
use Rattle.model.specs.declared.refusal.Refusal.{Refusal}
use Rattle.model.specs.declared.refusal.Refusal.TheVariants.{PastEnd, UnknownKind, WrongLength}
use Rattle.table.specs.Bytes.{le2, le4, le8}
use Rattle.table.specs.Layout.{Entry, node, task}

-- The end of the file; a record, its place and the place after it; or a refusal and its place.
pub data Step : Type 0 where
  end : Step
  got : Entry → ℕ → ℕ → Step
  bad : Refusal → ℕ → Step

abbrev pub node_of : List ℕ → Entry
node_of body = node (le4 body 0) (le8 body 4) (le8 body 12)

abbrev pub task_of : List ℕ → Entry
task_of body = task (record { units = le2 body 0; period = le4 body 2; deadline = le4 body 6; draw = le8 body 10 }) (drop 18 body)

-- the body of a record of a kind: 20 bytes of a node, 19 to 30 of a task
abbrev pub body_step : ℕ → List ℕ → ℕ → ℕ → Step
body_step kind body at to =
    cond (kind == 1)
    (cond (length body == 20) (got (node_of body) at to) (bad WrongLength at))
    (cond (kind == 2)
    (cond (nat_lt (length body) 19) (bad WrongLength at) (cond (nat_lt 30 (length body)) (bad WrongLength at) (got (task_of body) at to)))
    (bad UnknownKind at))

-- the record at the front of the bytes that are left
abbrev pub part_step : List ℕ → ℕ → Step
part_step left at =
    cond (length left == 0) end
    (cond (nat_lt (length left) 4) (bad PastEnd at)
    (cond (nat_lt (le2 left 0) 4) (bad WrongLength at)
    (cond (nat_lt (length left) (le2 left 0)) (bad PastEnd at)
    (body_step (le2 left 2) (take (le2 left 0 - 4) (drop 4 left)) at (at + le2 left 0)))))

-- the step at a place of a file
abbrev pub step_at : List ℕ → ℕ → Step
step_at file at = part_step (drop at file) at
