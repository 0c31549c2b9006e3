-- The names of tasks.
--   name_bytes   the bytes that a kept name holds
--   Short        a name has 1 to 12 bytes
--   graphic      whether each byte of a name is a graphic one
use Rattle.std.specs.Prelude.{◌≡◌, ℕ, ◌<◌, ◌≤◌, Bool, true, ◌&&◌, List, [], ◌∷◌, length, take, nat_le, slice_index_or}
use Rattle.std.proofs.Common.{lit≤}
use Rattle.table.specs.declared.name.Name.{Name}

abbrev pub name_bytes : Name → List ℕ
name_bytes n = take n.len n.bytes

-- what stands past the end of a list of names, as the code's own reads have it
abbrev pub no_name : Name
no_name = record { bytes = []; len = 0; within = lit≤ tt }

abbrev pub Short : List ℕ → Type 0
Short name = (1 ≤ length name) × (length name ≤ 12)

-- every byte is from 0x21 to 0x7E
abbrev pub graphic : List ℕ → Bool
graphic [] = true
graphic (b ∷ bs) = (nat_le 0x21 b && nat_le b 0x7E) && graphic bs

abbrev pub Graphic : List ℕ → Type 0
Graphic name = graphic name ≡ true

-- a fact of each of the first n names
abbrev pub EachName : (List ℕ → Type 0) → List Name → ℕ → Type 0
EachName P names n = (k : ℕ) → k < n → P (name_bytes (slice_index_or names k no_name))
