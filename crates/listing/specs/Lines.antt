-- The lines of a listing, as bytes.
use Rattle.std.specs.Prelude.{ℕ, Bool, true, false, List, ◌++◌, Some, None, codes, decimal, Option}

-- an absent bound is a minus sign
abbrev pub bound_text : Option ℕ → List ℕ
bound_text None = codes "-"
bound_text (Some n) = decimal n

-- a task is in time exactly if it has a safe bound
abbrev pub outcome_text : Option ℕ → List ℕ
outcome_text None = codes "late"
outcome_text (Some n) = codes "ok"

-- the line of a task: its name, its time bound, greater bound and safe bound, the rounds of the safe bound, and the outcome
abbrev pub line_text : List ℕ → Option ℕ → Option ℕ → Option ℕ → ℕ → List ℕ
line_text name time greater safe rounds =
    name ++ codes " " ++ bound_text time ++ codes " " ++ bound_text greater ++ codes " " ++ bound_text safe
    ++ codes " " ++ decimal rounds ++ codes " " ++ outcome_text safe ++ codes "\n"

-- the last line of a listing
abbrev pub verdict_text : Bool → List ℕ
verdict_text true = codes "accepted\n"
verdict_text false = codes "not accepted\n"

-- the only line for a file that is refused: the reason's number, and the place in the file
abbrev pub refused_text : ℕ → ℕ → List ℕ
refused_text number at = codes "refused " ++ decimal number ++ codes " at " ++ decimal at ++ codes "\n"
