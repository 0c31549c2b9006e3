-- The laws of the store.
use Rattle.model.proofs.HistoryLaws.{level_kept, draws_covered}
use Rattle.model.proofs.histories.store_laws.Goals as goal

pub returns : goal.returns
returns c = record { kept = level_kept; covered = draws_covered }
