use Rattle.std.proofs.Common.{arith, rules}
use Rattle.node.specs.Starts.{short, outside}
use Rattle.node.proofs.Reached.{started_at}
use Rattle.node.proofs.node.Node.start.Goals as goal

pub returns-then-promise-rate : goal.returns-then-promise-rate
returns-then-promise-rate g c = (short (search rules), search rules)

pub returns-then-not-contains : goal.returns-then-not-contains
returns-then-not-contains g c = (outside (search rules) (λ law. search rules), search rules)

pub invariant_of-result : goal.invariant_of-result
invariant_of-result g c = record {
  reached = started_at c.args.table c.args.level (search rules);
  looked = ∣ (omega arith, λ k below since left draw e. omega arith, λ k below since left draw e. omega arith) ∣₁;
}
