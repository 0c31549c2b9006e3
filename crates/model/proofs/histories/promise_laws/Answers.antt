-- The law of the promise.
use Rattle.model.proofs.HistoryLaws.{never_refused_short}
use Rattle.model.proofs.histories.promise_laws.Goals as goal

pub returns : goal.returns
returns c = never_refused_short
