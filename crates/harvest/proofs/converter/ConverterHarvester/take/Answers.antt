use Rattle.harvest.proofs.Laws.{scaled_law}
use Rattle.harvest.proofs.converter.ConverterHarvester.take.Goals as goal

pub returns-clause-law : goal.returns-clause-law
returns-clause-law g c = scaled_law _ _ c.args.self.now.factor c.args.self.now.partial c.take.ensures.law

pub returns-clause-after : goal.returns-clause-after
returns-clause-after g c = scaled_law _ _ c.args.self.now.factor c.args.self.now.partial c.take.ensures.after
