use Rattle.std.proofs.Common.{◌≡◌, ◌∙◌, arith, rules}
use Rattle.model.specs.Demand.{demand, draw_weight, safe_weight}
use Rattle.model.proofs.Curves.{demand_same}
use Rattle.analysis.proofs.curve.GreaterCurveCurve.at.Goals as goal

pub returns : goal.returns
returns c =
    let s = c.args.self.now.0 in
    let energy : c.demand-sums.result.energy ≡ demand draw_weight s.tasks.now s.index c.args.window =
    c.demand-sums.ensures.energy ∙ demand_same (safe_weight 0) draw_weight (λ t. omega arith) s.tasks.now s.index c.args.window in
    search rules
