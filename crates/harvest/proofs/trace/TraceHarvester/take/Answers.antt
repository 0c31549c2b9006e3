use Rattle.std.proofs.Common.{rules}
use Rattle.harvest.proofs.Laws.{least_law}
use Rattle.harvest.proofs.trace.TraceHarvester.take.Goals as goal

pub returns-clause-law : goal.returns-clause-law
returns-clause-law c = least_law c.args.self.now.samples.now c.args.self.now.index c.args.self.now.inside

pub returns-clause-after : goal.returns-clause-after
returns-clause-after c = least_law c.args.self.now.samples.now _ (search rules)
