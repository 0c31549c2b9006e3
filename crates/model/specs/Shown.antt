-- The texts by which orders, what slots answer, and refusals are shown, as bytes.
--   ask_shown        what an order asks for, with its numbers
--   order_shown      an order, and whether it was done or by which number it was refused
--   progress_shown   how far a job that ran has come
--   activity_shown   what a slot was used for
--   answer_shown     all that a slot answers, in one line
--   refusal_shown    a refusal, which is told by its number
use Rattle.std.specs.Prelude.{ℕ, List, ◌++◌, codes, decimal, if◌then◌else◌, ◌==◌}
use Rattle.model.specs.declared.order.Ask.{Ask}
use Rattle.model.specs.declared.order.Ask.TheVariants.{Release, Slots}
use Rattle.model.specs.declared.order.Order.{Order}
use Rattle.model.specs.declared.slot.Progress.{Progress}
use Rattle.model.specs.declared.slot.Progress.TheVariants.{GoesOn, Finished}
use Rattle.model.specs.declared.slot.Activity.{Activity}
use Rattle.model.specs.declared.slot.Activity.TheVariants.{Idle, Waited, Ran}
use Rattle.model.specs.declared.slot.SlotAnswer.{SlotAnswer}
use Rattle.model.specs.declared.refusal.Refusal.{Refusal}
use Rattle.model.specs.Refusals.{number_of}

abbrev pub ask_shown : Ask → List ℕ
ask_shown (Release task units draw) = codes "release " ++ decimal task ++ codes " " ++ decimal units ++ codes " " ++ decimal draw
ask_shown (Slots count) = codes "slots " ++ decimal count

-- a mark of 0 is an order that was done, and any other is the number of its refusal
abbrev pub mark_shown : ℕ → List ℕ
mark_shown mark = if mark == 0 then codes "done" else codes "refused " ++ decimal mark

abbrev pub order_shown : Order → List ℕ
order_shown o = ask_shown o.ask ++ codes " " ++ mark_shown o.mark

abbrev pub progress_shown : Progress → List ℕ
progress_shown GoesOn = codes "goes on"
progress_shown (Finished response) = codes "finished " ++ decimal response

abbrev pub activity_shown : Activity → List ℕ
activity_shown Idle = codes "idle"
activity_shown (Waited task) = codes "waited " ++ decimal task
activity_shown (Ran task progress) = codes "ran " ++ decimal task ++ codes " " ++ progress_shown progress

abbrev pub answer_shown : SlotAnswer → List ℕ
answer_shown a =
    activity_shown a.activity ++ codes " harvest " ++ decimal a.harvest ++ codes " draw " ++ decimal a.draw
    ++ codes " level " ++ decimal a.level ++ codes " abandoned " ++ decimal a.abandoned

abbrev pub refusal_shown : Refusal → List ℕ
refusal_shown r = decimal (number_of r)
