use Rattle.std.proofs.Common.{◌-◌, length}
use Rattle.table.specs.Loading.{Loaded, Tasks}
use Rattle.table.specs.Tables.{contents_of}
use Rattle.table.proofs.load.load_tasks.Given as goal

-- What the tasks from here on give is what all of them give.
abbrev pub invariant-loop-record : goal.invariant-loop-record
invariant-loop-record l =
    (res : Loaded) → Tasks l.reader.file.now l.reader.at (contents_of l.table) res
    → Tasks l.initial.reader.file.now l.initial.reader.at (contents_of l.initial.table) res

abbrev pub decreases-loop-record : goal.decreases-loop-record
decreases-loop-record l = length l.reader.file.now - l.reader.at
