-- That there are histories, as proved of every lawful table.
use Rattle.model.proofs.HistoryLaws.{some_history, slots_go_on, room_for_tasks}
use Rattle.model.proofs.histories.history_laws.Goals as goal

pub returns : goal.returns
returns c = record { some = some_history; lasts = slots_go_on; room = room_for_tasks }
