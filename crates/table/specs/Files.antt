-- The files of tables: the bytes of a table's contents, and the contents that some file has.
--   file_bytes        a node record, and a task record for each task, the most urgent first
--   LawfulContents   contents that keep every limit
use Rattle.std.specs.Prelude.{ℕ, List, [], ◌∷◌, ◌++◌}
use Rattle.model.specs.declared.task.Task.{Task}
use Rattle.table.specs.Contents.{Contents, bare, extended}
use Rattle.table.specs.Layout.{node, task, entry_bytes}
use Rattle.table.specs.Limits.{Allowed, LawfulNode}

-- the records of tasks with their names, of which there are as many
abbrev pub rows_bytes : List Task → List (List ℕ) → List ℕ
rows_bytes [] names = []
rows_bytes (t ∷ ts) [] = []
rows_bytes (t ∷ ts) (name ∷ names) = entry_bytes (task t name) ++ rows_bytes ts names

abbrev pub file_bytes : Contents → List ℕ
file_bytes c = entry_bytes (node c.rate c.floor c.top) ++ rows_bytes c.tasks c.names

-- A lawful node with no tasks, or one allowed task more; a graphic name is bytes.
pub data LawfulContents : Contents → Type 0 where
  no_tasks : (rate floor top : ℕ) → LawfulNode rate floor top → LawfulContents (bare rate floor top)
  one_more : (c : Contents) (t : Task) (name : List ℕ) → LawfulContents c → Allowed c t name → LawfulContents (extended c t name)
