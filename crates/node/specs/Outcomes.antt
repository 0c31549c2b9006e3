-- What the code answers to an order, in the words of its definition.
use Rattle.std.specs.Prelude.{Some, None, Ok, Err, Option, Result}
use Rattle.model.specs.declared.refusal.Refusal.{Refusal}

-- the refusal, where there is one
abbrev pub refusal_said : Result (Unit {0}) Refusal → Option Refusal
refusal_said (Ok done) = None
refusal_said (Err refusal) = Some refusal
