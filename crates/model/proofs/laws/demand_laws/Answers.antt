-- What a window counts and holds, as proved of every task and table.
use Rattle.model.proofs.DemandLaws.{counts_jobs, holds_if_brought}
use Rattle.model.proofs.laws.demand_laws.Goals as goal

pub returns : goal.returns
returns c = record { counted = counts_jobs; brought = holds_if_brought }
