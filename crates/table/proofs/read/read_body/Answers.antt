use Rattle.std.proofs.Common.{arith}
use Rattle.std.proofs.lemmas.Bool.Decides.{nat_tests}
use Rattle.table.proofs.read.read_body.Goals as goal

pub returns-in-Task : goal.returns-in-Task
returns-in-Task c = λ at to. grind (arith, nat_tests)
