-- Every table is lawful as the theory sees it, by the limits in its type.
use Rattle.std.proofs.Common.{arith}
use Rattle.std.proofs.lemmas.Grind.{common_steps}
use Rattle.model.specs.Tasks.{LawfulTasks}
use Rattle.model.specs.Setups.{LawfulSetup}
use Rattle.table.specs.declared.table.Table.{Table}
use Rattle.table.specs.Tables.{task_list, room_of, setup_of}

pub tasks_lawful : (t : Table) → LawfulTasks (room_of t) (task_list t)
tasks_lawful t = grind (arith, common_steps)

pub setup_lawful : (t : Table) → LawfulSetup (setup_of t)
setup_lawful t = record { rated = t.rated; stored = t.stored; tasked = tasks_lawful t }
