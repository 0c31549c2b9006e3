use Rattle.model.proofs.DeadlineTheorem.{deadline_theorem}
use Rattle.model.proofs.deadlines.deadline_theorem.Goals as goal

pub returns : goal.returns
returns c = deadline_theorem
