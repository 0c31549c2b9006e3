-- The layout of a table file: the bytes of each record.
--   Entry          what a record says
--   entry_bytes    the bytes of a record
--   Written        the numbers fit their places and the name has a lawful length
use Rattle.std.specs.Prelude.{ℕ, ◌+◌, ◌^◌, ◌<◌, ◌≤◌, List, ◌++◌, length}
use Rattle.model.specs.declared.task.Task.{Task}
use Rattle.table.specs.Bytes.{le_bytes, Bytes}

pub data Entry : Type 0 where
  node : ℕ → ℕ → ℕ → Entry
  task : Task → List ℕ → Entry

-- The bytes of a record: its length, its kind, and its body.
abbrev pub entry_bytes : Entry → List ℕ
entry_bytes (node rate floor top) =
    le_bytes 2 24 ++ (le_bytes 2 1 ++ (le_bytes 4 rate ++ (le_bytes 8 floor ++ le_bytes 8 top)))
entry_bytes (task t name) =
    le_bytes 2 (22 + length name) ++ (le_bytes 2 2 ++ (le_bytes 2 t.units ++ (le_bytes 4 t.period ++ (le_bytes 4 t.deadline ++ (le_bytes 8 t.draw ++ name)))))

abbrev pub Written : Entry → Type 0
Written (node rate floor top) = (rate < 2 ^ 32) × (floor < 2 ^ 64) × (top < 2 ^ 64)
Written (task t name) = (t.units < 2 ^ 16) × (t.period < 2 ^ 32) × (t.deadline < 2 ^ 32) × (t.draw < 2 ^ 64) × (1 ≤ length name) × (length name ≤ 12) × Bytes name
