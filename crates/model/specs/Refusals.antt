-- The number of each refusal, and the mark of an outcome.
use Rattle.std.specs.Prelude.{ℕ, Some, None, Option}
use Rattle.model.specs.declared.refusal.Refusal.{Refusal}
use Rattle.model.specs.declared.refusal.Refusal.TheVariants.{PastEnd, UnknownKind, WrongLength, WrongPlace, OutsideLimits, TooManyTasks}
use Rattle.model.specs.declared.refusal.Refusal.TheVariants.{WrongName, DrawAboveRoom, PromiseTooLow, LevelOutside, NoSuchTask}
use Rattle.model.specs.declared.refusal.Refusal.TheVariants.{OutsideTask, OutputTooShort, TooEarly, ClockEnd}

abbrev pub number_of : Refusal → ℕ
number_of PastEnd = 1
number_of UnknownKind = 2
number_of WrongLength = 3
number_of WrongPlace = 4
number_of OutsideLimits = 5
number_of TooManyTasks = 6
number_of WrongName = 7
number_of DrawAboveRoom = 8
number_of PromiseTooLow = 9
number_of LevelOutside = 10
number_of NoSuchTask = 11
number_of OutsideTask = 12
number_of OutputTooShort = 13
number_of TooEarly = 14
number_of ClockEnd = 15

-- 0 for what was done, else the refusal's number
abbrev pub mark_of : Option Refusal → ℕ
mark_of None = 0
mark_of (Some r) = number_of r
