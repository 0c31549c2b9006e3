-- The law of the responses.
use Rattle.model.proofs.HistoryLaws.{responses_by_deadline}
use Rattle.model.proofs.histories.response_laws.Goals as goal

pub returns : goal.returns
returns c = responses_by_deadline
