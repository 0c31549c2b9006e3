use Rattle.std.proofs.Common.{refl}
use Rattle.node.proofs.Reached.{met_of, within_of}
use Rattle.node.proofs.node.Node.report.Goals as goal

pub returns : goal.returns
returns g c =
    let node = c.args.self.now in
    rw c.from.ensures
    (record { state = refl; within = within_of node.table node.state node.reached; met = met_of node.table node.state node.reached })
