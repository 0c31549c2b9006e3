-- What a report says of the responses of a table's tasks.
use Rattle.std.specs.Prelude.{ℕ, List, Some, None, slice_index_or}
use Rattle.model.specs.declared.task.Task.{Task}
use Rattle.model.specs.declared.order.Report.{Report}
use Rattle.model.specs.Laws.{SafeBound}
use Rattle.model.specs.OnTime.{AtMost}

-- no response is longer than its task's safe bound
abbrev pub ResponsesWithin : ℕ → List Task → Report → Type 0
ResponsesWithin gain ts report = (index bound : ℕ) → SafeBound gain ts index (Some bound) → AtMost bound (slice_index_or report.longest index None)
