-- Little-endian numbers: read at a place of a list of bytes, and written as a list of bytes.
--   le2, le4, le8   the number that stands at a place
--   le_bytes        the bytes of a number, in a given count
use Rattle.std.specs.Prelude.{ℕ, zero, suc, ◌+◌, ◌*◌, ◌/◌, ◌%◌, ◌<◌, List, [], ◌∷◌, length, slice_index}

abbrev pub le2 : List ℕ → ℕ → ℕ
le2 b k = slice_index b k + slice_index b (k + 1) * 256

abbrev pub le4 : List ℕ → ℕ → ℕ
le4 b k = slice_index b k + slice_index b (k + 1) * 256 + slice_index b (k + 2) * 65536 + slice_index b (k + 3) * 16777216

abbrev pub le8 : List ℕ → ℕ → ℕ
le8 b k = le4 b k + le4 b (k + 4) * 4294967296

abbrev pub le_bytes : ℕ → ℕ → List ℕ
le_bytes zero n = []
le_bytes (suc k) n = n % 256 ∷ le_bytes k (n / 256)

-- every element is a byte
abbrev pub Bytes : List ℕ → Type 0
Bytes b = (k : ℕ) → k < length b → slice_index b k < 256
