use Rattle.std.proofs.Common.{arith}
use Rattle.table.specs.Tables.{setup_of}
use Rattle.table.proofs.Setups.{setup_lawful}
use Rattle.model.proofs.Reached.{top_of}
use Rattle.node.proofs.Choosing.{unit_fits}
use Rattle.node.proofs.node.Node.choose.Goals as goal

pub overflow_add-job : goal.overflow_add-job
overflow_add-job g c =
    let node = c.args.self.now in
    let n = setup_of node.table in
    omega (arith, unit_fits n node.state (setup_lawful node.table) _ c.in-Some.ensures, node.table.stored.1, c.floor.ensures.value)

pub overflow_add-self : goal.overflow_add-self
overflow_add-self g c =
    let node = c.args.self.now in
    let top = top_of (setup_of node.table) (setup_lawful node.table) _ _ node.reached in
    omega (arith, top, node.table.stored.1, node.table.rated.1, c.from.ensures, c.requires)
