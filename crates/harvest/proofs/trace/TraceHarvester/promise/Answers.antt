use Rattle.harvest.proofs.Laws.{least_law}
use Rattle.harvest.proofs.trace.TraceHarvester.promise.Goals as goal

pub returns-clause-law : goal.returns-clause-law
returns-clause-law c = least_law c.args.self.now.samples.now c.args.self.now.index c.args.self.now.inside
