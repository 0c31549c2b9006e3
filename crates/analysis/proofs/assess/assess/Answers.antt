use Rattle.std.proofs.Common.{rules}
use Rattle.model.proofs.DeadlineTheorem.{accepted_never_late, one_sided_exact}
use Rattle.table.specs.Tables.{task_list, setup_of}
use Rattle.table.proofs.Setups.{setup_lawful}
use Rattle.analysis.specs.Verdicts.{VerdictOf}
use Rattle.analysis.proofs.assess.assess.Goals as goal

verdict : (c : goal.After-assess_tasks) → VerdictOf c.args.table.now.rate (task_list c.args.table.now) c.assess_tasks.result
verdict c = search rules

pub returns-clause-on_time : goal.returns-clause-on_time
returns-clause-on_time c = let t = c.args.table.now in λ yes. accepted_never_late (setup_of t) (setup_lawful t) ((verdict c).accepted.0 yes)

pub returns-clause-exact : goal.returns-clause-exact
returns-clause-exact c =
    let t = c.args.table.now in
    λ side. (
      (λ yes. accepted_never_late (setup_of t) (setup_lawful t) ((verdict c).accepted.0 yes)),
      (λ meets. (verdict c).accepted.1 ((one_sided_exact (setup_of t) (setup_lawful t) side).1 meets)),
    )
