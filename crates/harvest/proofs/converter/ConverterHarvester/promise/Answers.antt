use Rattle.harvest.proofs.Laws.{scaled_law}
use Rattle.harvest.proofs.converter.ConverterHarvester.promise.Goals as goal

pub returns-clause-law : goal.returns-clause-law
returns-clause-law g c = scaled_law _ _ c.args.self.now.factor c.args.self.now.partial c.promise.ensures.law
