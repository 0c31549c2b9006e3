-- The laws of the layout of table files.
--   ReadsWhatIsWritten   the reader gives back a record that was written, whatever follows it
--   WrittenAsRead         a record that the reader gives stands in the file as it is written
--   OneLoad                a file loads as one outcome only
--   FileOfItsTable       a file that loads as a table is that table's bytes, and no other file loads as it
--   NameForEachTask      a table that is loaded has as many names as tasks
--   TableOfItsFile       the bytes of a lawful table load as that table
use Rattle.std.specs.Prelude.{◌≡◌, ℕ, ◌+◌, List, ◌++◌, length, drop}
use Rattle.table.specs.Bytes.{Bytes}
use Rattle.table.specs.Contents.{Contents}
use Rattle.table.specs.Files.{file_bytes, LawfulContents}
use Rattle.table.specs.Layout.{Entry, entry_bytes, Written}
use Rattle.table.specs.Loading.{Loaded, full, Loads}
use Rattle.table.specs.Reading.{part_step, got}

-- Bytes that begin with a written record are read as that record, which ends where its bytes do.
abbrev pub ReadsWhatIsWritten : Type 0
ReadsWhatIsWritten =
    (e : Entry) → Written e → (rest : List ℕ) (at : ℕ) → part_step (entry_bytes e ++ rest) at ≡ got e at (at + length (entry_bytes e))

-- A record stands in front of what is left, from one place to another, exactly as it is written.
pub record Stands (left : List ℕ) (at : ℕ) (e : Entry) (p to : ℕ) : Type 0 where
  pub written : Written e
  pub place : p ≡ at
  pub after : to ≡ at + length (entry_bytes e)
  pub front : left ≡ entry_bytes e ++ drop (length (entry_bytes e)) left

-- A record that is read stands there as it is written.
abbrev pub WrittenAsRead : Type 0
WrittenAsRead =
    (left : List ℕ) (at : ℕ) (e : Entry) (p to : ℕ) → Bytes left → part_step left at ≡ got e p to → Stands left at e p to

-- A file loads as one outcome only: one table, or one refusal at one place.
abbrev pub OneLoad : Type 0
OneLoad = (file : List ℕ) (a b : Loaded) → Loads file a → Loads file b → a ≡ b

-- A file that loads as a table is the bytes of that table, which keeps every limit; so it is the only file that does.
abbrev pub FileOfItsTable : Type 0
FileOfItsTable = (file : List ℕ) (c : Contents) → Bytes file → Loads file (full c) → (file ≡ file_bytes c) × LawfulContents c

-- A file that loads as a table gives each task its name.
abbrev pub NameForEachTask : Type 0
NameForEachTask = (file : List ℕ) (c : Contents) → Bytes file → Loads file (full c) → length c.tasks ≡ length c.names

-- The bytes of a table that keeps every limit load as that table.
abbrev pub TableOfItsFile : Type 0
TableOfItsFile = (c : Contents) → LawfulContents c → Loads (file_bytes c) (full c)
