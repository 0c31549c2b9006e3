use Rattle.table.specs.Tables.{setup_of}
use Rattle.table.proofs.Setups.{setup_lawful}
use Rattle.node.proofs.Choosing.{found_among_all}
use Rattle.node.proofs.node.Node.most_urgent.Goals as goal

pub returns : goal.returns
returns g c =
    let node = c.args.self.now in
    found_among_all (setup_of node.table) node.state (setup_lawful node.table) _ node.reached node.ahead node.looked _ c.tasks-tasks.ensures.value _ c.candidate.ensures
