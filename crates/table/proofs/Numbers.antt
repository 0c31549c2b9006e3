-- Little-endian numbers: what is written in a count of bytes is read back, and bytes that are read are the number's.
use Rattle.std.proofs.Common.{◌≡◌, ℕ, zero, suc, ◌+◌, ◌*◌, ◌/◌, ◌%◌, ◌^◌, ◌<◌, ◌≤◌, List, ◌∷◌, ◌++◌, length, get_or, take, drop, refl, ap, ◌∙◌, pow-suc, arith, drop-cons}
use native.Mathlib.Numerals.{towards_suc}
use Rattle.table.specs.Bytes.{le2, le4, le8, le_bytes, Bytes}

-- The number that stands in k bytes at a place.
abbrev le_at : ℕ → List ℕ → ℕ → ℕ
le_at zero b j = 0
le_at (suc k) b j = get_or b j 0 + le_at k b (suc j) * 256

le2_at : (b : List ℕ) (j : ℕ) → le2 b j ≡ le_at 2 b j
le2_at b j = simp towards_suc (omega arith)

le4_at : (b : List ℕ) (j : ℕ) → le4 b j ≡ le_at 4 b j
le4_at b j = simp towards_suc (omega arith)

le8_at : (b : List ℕ) (j : ℕ) → le8 b j ≡ le_at 8 b j
le8_at b j = simp towards_suc (omega arith)

-- A byte in front moves every place by one.
shifted : (k x : ℕ) (b : List ℕ) (j : ℕ) → le_at k (x ∷ b) (suc j) ≡ le_at k b j
shifted zero x b j = refl
shifted (suc k) x b j = ap (λ n. get_or b j 0 + n * 256) (shifted k x b (suc j))

read_back : (k n : ℕ) (rest : List ℕ) → n < 256 ^ k → le_at k (le_bytes k n ++ rest) 0 ≡ n
read_back zero n rest h = omega arith
read_back (suc k) n rest h =
    let g = rw (pow-suc 256 k) at h in
    let low : n / 256 < 256 ^ k = omega arith in
    rw (shifted k (n % 256) (le_bytes k (n / 256) ++ rest) 0, read_back k (n / 256) rest low) (omega arith)

pub le2_read_back : (n : ℕ) (rest : List ℕ) → n < 2 ^ 16 → le2 (le_bytes 2 n ++ rest) 0 ≡ n
le2_read_back n rest h = le2_at (le_bytes 2 n ++ rest) 0 ∙ read_back 2 n rest h

pub le4_read_back : (n : ℕ) (rest : List ℕ) → n < 2 ^ 32 → le4 (le_bytes 4 n ++ rest) 0 ≡ n
le4_read_back n rest h = le4_at (le_bytes 4 n ++ rest) 0 ∙ read_back 4 n rest h

pub le8_read_back : (n : ℕ) (rest : List ℕ) → n < 2 ^ 64 → le8 (le_bytes 8 n ++ rest) 0 ≡ n
le8_read_back n rest h = le8_at (le_bytes 8 n ++ rest) 0 ∙ read_back 8 n rest h

-- The bytes of the number that stands in k bytes are those bytes.
written_back : (k : ℕ) (b : List ℕ) (j : ℕ) → Bytes b → j + k ≤ length b → le_bytes k (le_at k b j) ≡ take k (drop j b)
written_back zero b j bytes h = refl
written_back (suc k) b j bytes h =
    let within : j < length b = omega arith in
    let small = bytes j within in
    let low : (get_or b j 0 + le_at k b (suc j) * 256) % 256 ≡ get_or b j 0 = omega arith in
    let high : (get_or b j 0 + le_at k b (suc j) * 256) / 256 ≡ le_at k b (suc j) = omega arith in
    rw (low, high, written_back k b (suc j) bytes (omega arith), drop-cons b j 0 within)

at_most : (k : ℕ) (b : List ℕ) (j : ℕ) → Bytes b → j + k ≤ length b → le_at k b j < 256 ^ k
at_most zero b j bytes h = omega arith
at_most (suc k) b j bytes h =
    let small = bytes j (omega arith) in
    let rest = at_most k b (suc j) bytes (omega arith) in
    rw (pow-suc 256 k) (omega arith)

-- What is read at a place where enough bytes stand: it fits, and its bytes are those that stand there.
module _ (b : List ℕ) (j : ℕ) (bytes : Bytes b) where
  pub le2_written : j + 2 ≤ length b → le_bytes 2 (le2 b j) ≡ take 2 (drop j b)
  le2_written h = ap (le_bytes 2) (le2_at b j) ∙ written_back 2 b j bytes h

  pub le4_written : j + 4 ≤ length b → le_bytes 4 (le4 b j) ≡ take 4 (drop j b)
  le4_written h = ap (le_bytes 4) (le4_at b j) ∙ written_back 4 b j bytes h

  pub le8_written : j + 8 ≤ length b → le_bytes 8 (le8 b j) ≡ take 8 (drop j b)
  le8_written h = ap (le_bytes 8) (le8_at b j) ∙ written_back 8 b j bytes h

  pub le2_fits : j + 2 ≤ length b → le2 b j < 2 ^ 16
  le2_fits h = rw (le2_at b j) (at_most 2 b j bytes h)

  pub le4_fits : j + 4 ≤ length b → le4 b j < 2 ^ 32
  le4_fits h = rw (le4_at b j) (at_most 4 b j bytes h)

  pub le8_fits : j + 8 ≤ length b → le8 b j < 2 ^ 64
  le8_fits h = rw (le8_at b j) (at_most 8 b j bytes h)
