-- What the reader's answers say, as steps.
use Rattle.std.specs.Prelude.{ℕ, ◌+◌, Some, None, Ok, Err, Option, Result}
use Rattle.model.specs.declared.refusal.Refusal.{Refusal}
use Rattle.model.specs.declared.refusal.Refusal.TheVariants.{WrongLength}
use Rattle.table.specs.declared.fault.LoadFault.{LoadFault}
use Rattle.table.specs.declared.read.Record.{Record}
use Rattle.table.specs.declared.read.Record.TheVariants.{Node, Task}
use Rattle.table.specs.declared.read.Placed.{Placed}
use Rattle.table.specs.Layout.{Entry, node, task}
use Rattle.table.specs.Reading.{Step, end, got, bad}

abbrev pub entry_of : Record → Entry
entry_of (Node rate floor top) = node rate floor top
entry_of (Task t name) = task t name.now

-- the answer to one step, with the place after it
abbrev pub step_said : Result (Option Placed) LoadFault → ℕ → Step
step_said (Ok None) to = end
step_said (Ok (Some p)) to = got (entry_of p.«record») p.at to
step_said (Err f) to = bad f.refusal f.at

-- the record of a body, if it has a length of its kind
abbrev pub body_said : Option Record → ℕ → ℕ → Step
body_said (Some r) at to = got (entry_of r) at to
body_said None at to = bad WrongLength at

-- the record in front of what is left, told with its length
abbrev pub part_said : Result (Option (Record × ℕ)) Refusal → ℕ → Step
part_said (Ok None) at = end
part_said (Ok (Some p)) at = got (entry_of p.0) at (at + p.1)
part_said (Err r) at = bad r at
