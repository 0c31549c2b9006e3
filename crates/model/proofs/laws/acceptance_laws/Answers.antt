-- What the safe bounds say of a table, as proved of every table.
use Rattle.model.proofs.Searches.{accepted_exactly, refused_exactly}
use Rattle.model.proofs.DemandLaws.{bound_has_task}
use Rattle.model.proofs.laws.acceptance_laws.Goals as goal

pub returns : goal.returns
returns c = record { accepted = accepted_exactly; refused = refused_exactly; listed = bound_has_task }
