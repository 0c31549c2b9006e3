-- The text of a whole listing, over what the file loads as and the bounds of its tasks.
--   lines_text    a line for each task
--   Listing       a file's text, and whether its table is accepted
--   ListedInto   what the listing call answers and leaves in the output
use Rattle.std.specs.Prelude.{◌≡◌, ℕ, ◌<◌, ◌≤◌, Bool, false, List, [], ◌∷◌, ◌++◌, length, drop, Ok, Err, Decides, Result}
use Rattle.model.specs.OnTime.{AtMost}
use Rattle.model.specs.Windows.{Accepted}
use Rattle.model.specs.declared.refusal.Refusal.{Refusal}
use Rattle.model.specs.declared.refusal.Refusal.TheVariants.{OutputTooShort}
use Rattle.table.specs.Contents.{Contents}
use Rattle.table.specs.Loading.{Loads, full, refused}
use Rattle.model.specs.Refusals.{number_of}
use Rattle.analysis.specs.declared.verdict.TaskBounds.{TaskBounds}
use Rattle.analysis.specs.Verdicts.{AllBounds}
use Rattle.listing.specs.declared.list.Listed.{Listed}
use Rattle.listing.specs.Lines.{line_text, verdict_text, refused_text}

abbrev pub task_line : List ℕ → TaskBounds → List ℕ
task_line name b = line_text name b.time.window b.greater.window b.safe.window b.safe.rounds

-- what the bounds of a lawful task can be
pub record IsSmall (b : TaskBounds) : Type 0 where
  pub time : AtMost 100000 b.time.window
  pub greater : AtMost 100000 b.greater.window
  pub safe : AtMost 100000 b.safe.window
  pub rounds : b.safe.rounds ≤ 100000

abbrev pub lines_text : List (List ℕ) → List TaskBounds → List ℕ
lines_text [] bs = []
lines_text (name ∷ names) [] = []
lines_text (name ∷ names) (b ∷ bs) = task_line name b ++ lines_text names bs

pub data Listing (file : List ℕ) : List ℕ → Bool → Type 0 where
  of_table : (c : Contents) (bs : List TaskBounds) (accepted : Bool) → Loads file (full c) → AllBounds c.rate c.tasks bs →
      Decides accepted (Accepted c.rate c.tasks) → Listing file (lines_text c.names bs ++ verdict_text accepted) accepted
  of_refusal : (r : Refusal) (at : ℕ) → Loads file (refused r at) → Listing file (refused_text (number_of r) at) false

-- the text stands in front, and behind it the output keeps what it held
pub record FitsIn (file before : List ℕ) (l : Listed) (after : List ℕ) : Type 0 where
  pub text : List ℕ
  pub told : Listing file text l.accepted
  pub sized : l.length ≡ length text
  pub held : after ≡ text ++ drop (length text) before
  pub room : length text ≤ length before

-- the text is longer than the output, which keeps what it held throughout
pub record TooLong (file before : List ℕ) (e : Refusal) (after : List ℕ) : Type 0 where
  pub reason : e ≡ OutputTooShort
  pub text : List ℕ
  pub accepted : Bool
  pub told : Listing file text accepted
  pub short : length before < length text
  pub kept : after ≡ before

abbrev pub ListedInto : List ℕ → List ℕ → Result Listed Refusal → List ℕ → Type 0
ListedInto file before (Ok l) after = FitsIn file before l after
ListedInto file before (Err e) after = TooLong file before e after
