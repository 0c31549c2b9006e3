use Rattle.std.proofs.Common.{sym, ◌∙◌, subst, rules}
use Rattle.model.specs.Windows.{Accepted}
use Rattle.table.specs.Tables.{task_list}
use Rattle.node.proofs.Sessions.{session_of}
use Rattle.node.proofs.session.run_orders.Goals as goal

pub returns : goal.returns
returns g c =
    let begun = c.in_ok-node.ensures in
    let harvester = g.H.Harvester in
    let session =
    session_of harvester.coming harvester.promised harvester.taken _ _ _ _ _ _ _ _ _ _ _ begun.2 begun.3 begun.4
    c.report.ensures.state c.drive.ensures.taking in
    let same = c.drive.ensures.table ∙ begun.2 in
    record {
      cases = (
        begun.0,
        search rules,
        λ accepted. c.report.ensures.met (subst (λ t. Accepted t.rate (task_list t)) (sym same) accepted),
      );
      session = (begun.1, session);
    }
