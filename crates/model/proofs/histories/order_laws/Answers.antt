-- That a drive has one outcome.
use Rattle.model.proofs.Drives.{one_drive}
use Rattle.model.proofs.histories.order_laws.Goals as goal

pub returns : goal.returns
returns c = one_drive
