-- What harvesters promise and bring, as numbers and lists.
--   cut          an amount cut at the ceiling
--   least        what a list of samples promises
--   sample       what it brings at an index; next_index, the index after that
--   joint        what two harvesters bring together
use Rattle.std.specs.Prelude.{ℕ, ◌+◌, min, cond, List, [], ◌∷◌, length, fold, nat_lt, slice_index}

abbrev pub cut : ℕ → ℕ
cut amount = min amount 1000000000

-- the least of the samples, each cut at the ceiling; an empty list promises nothing
abbrev pub least : List ℕ → ℕ
least [] = 0
least (x ∷ xs) = fold (λ a y. min a y) 1000000000 (x ∷ xs)

-- past the end of a list there is nothing
abbrev pub sample : List ℕ → ℕ → ℕ
sample xs index = cut (slice_index xs index)

-- the last sample is followed by the first
abbrev pub next_index : List ℕ → ℕ → ℕ
next_index xs index = cond (nat_lt (index + 1) (length xs)) (index + 1) 0

abbrev pub joint : ℕ → ℕ → ℕ
joint a b = cut (a + b)
