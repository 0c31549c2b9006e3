-- What a table holds, read as plain lists.
use Rattle.std.specs.Prelude.{ℕ, ◌-◌, List, map, take}
use Rattle.model.specs.declared.task.Task.{Task}
use Rattle.model.specs.Setups.{Setup}
use Rattle.table.specs.declared.table.Table.{Table}
use Rattle.table.specs.Contents.{Contents}
use Rattle.table.specs.Names.{name_bytes}

-- the tasks, the most urgent first
abbrev pub task_list : Table → List Task
task_list t = take t.count t.tasks

-- their names
abbrev pub name_list : Table → List (List ℕ)
name_list t = map name_bytes (take t.count t.names)

abbrev pub contents_of : Table → Contents
contents_of t = record { rate = t.rate; floor = t.floor; top = t.cap; tasks = task_list t; names = name_list t }

-- the room between floor and cap
abbrev pub room_of : Table → ℕ
room_of t = t.cap - t.floor

-- the table as the theory sees it
abbrev pub setup_of : Table → Setup
setup_of t = record { rate = t.rate; floor = t.floor; top = t.cap; tasks = task_list t }
