-- The laws of the slot.
use Rattle.model.proofs.HistoryLaws.{most_urgent_first, waits_only_if_short, runs_only_if_paid, idle_only_if_none}
use Rattle.model.proofs.histories.slot_laws.Goals as goal

pub returns : goal.returns
returns c = record { first = most_urgent_first; waits = waits_only_if_short; runs = runs_only_if_paid; idle = idle_only_if_none }
