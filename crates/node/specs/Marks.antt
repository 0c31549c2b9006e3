-- The marks of orders that were driven.
--   refusals   how many orders were refused
--   Unmarked   no order has a given mark
--   no_order   what stands past the end of a list of orders
use Rattle.std.specs.Prelude.{ℕ, ◌+◌, cond, List, [], ◌∷◌, ◌==◌, ◌≢◌}
use Rattle.model.specs.declared.order.Ask.TheVariants.{Release}
use Rattle.model.specs.declared.order.Order.{Order}

abbrev pub refusals : List Order → ℕ
refusals [] = 0
refusals (o ∷ os) = cond (o.mark == 0) 0 1 + refusals os

abbrev pub Unmarked : ℕ → List Order → Type 0
Unmarked m [] = Unit {0}
Unmarked m (o ∷ os) = (o.mark ≢ m) × Unmarked m os

abbrev pub no_order : Order
no_order = record { ask = Release 0 0 0; mark = 0 }
