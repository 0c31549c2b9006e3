-- Amounts that are taken from a harvester one after the other, for every kind of harvester.
--   Takes     a harvester before and after, and what each take between brought
--   Taking    what was done with the amounts of such takes
use Rattle.std.specs.Prelude.{◌≡◌, ℕ, List, [], ◌∷◌}

-- each amount was coming when it was taken, and nothing else was taken
abbrev pub Takes : {H : Type 0} → (H → ℕ) → (H → H → Type 0) → H → List ℕ → H → Type 0
Takes coming taken h [] g = g ≡ h
Takes {H} coming taken h (amount ∷ amounts) g = (amount ≡ coming h) × (next : H) × taken h next × Takes coming taken next amounts g

-- from the harvester h to the harvester g
abbrev pub Taking : {H : Type 0} → (H → ℕ) → (H → H → Type 0) → H → H → (List ℕ → Type 0) → Type 0
Taking coming taken h g did = (amounts : List ℕ) × did amounts × Takes coming taken h amounts g
