use Rattle.std.proofs.Common.{◌≡◌, Some, arith, rules}
use Rattle.table.proofs.Steps.{part_is_body}
use Rattle.table.proofs.read.read_part.Goals as goal

pub returns-clause-said : goal.returns-clause-said
returns-clause-said c =
    let some : c.read_header.result ≡ Some c.in_ok-header.header = grind arith in
    let told = rw some at c.read_header.ensures in
    λ at. let e = part_is_body c.args.left.now at (omega arith) (omega arith) (omega arith) in search rules
