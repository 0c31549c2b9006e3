-- That harvesters bring what they promise, by numbers and lists.
--   scaled_law     what a converter lets through keeps the law of a harvester
--   least_law      so do the samples of a list
use Rattle.std.specs.Prelude.{ℕ, ◌-◌, ◌<◌, ◌≤◌, min, List, [], ◌∷◌, length, get_or, fold}
use Rattle.std.proofs.Common.{zero, suc, mul-le-mul_right, mul-le-mul_left, arith}
use Rattle.model.specs.Energy.{Harvest, scaled}
use Rattle.harvest.specs.Samples.{least, sample}

scaled_rises : (a b n : ℕ) → a ≤ b → scaled a n ≤ scaled b n
scaled_rises a b n h = omega (arith, mul-le-mul_right n h)

pub scaled_le : (a n : ℕ) → n ≤ 256 → scaled a n ≤ a
scaled_le a n h = omega (arith, mul-le-mul_left a h)

pub scaled_law : (promise amount factor : ℕ) → factor ≤ 256 → Harvest promise amount → Harvest (scaled promise factor) (scaled amount factor)
scaled_law promise amount factor h law =
    (scaled_rises promise amount factor law.0, omega (arith, scaled_le amount factor h, law.1))

fold_le : (m : ℕ) (xs : List ℕ) → fold (λ a y. min a y) m xs ≤ m
fold_le m [] = omega arith
fold_le m (x ∷ xs) = omega (arith, fold_le (min m x) xs)

fold_at : (m : ℕ) (xs : List ℕ) (i : ℕ) → i < length xs → fold (λ a y. min a y) m xs ≤ get_or xs i 0
fold_at m [] i h = omega arith
fold_at m (x ∷ xs) zero h = omega (arith, fold_le (min m x) xs)
fold_at m (x ∷ xs) (suc i) h = fold_at (min m x) xs i (omega arith)

pub least_law : (xs : List ℕ) (i : ℕ) → i ≤ length xs - 1 → Harvest (least xs) (sample xs i)
least_law [] i h = (omega arith, omega arith)
least_law (x ∷ xs) i h =
    let k : i < length (x ∷ xs) = omega arith in
    (omega (arith, fold_le 1000000000 (x ∷ xs), fold_at 1000000000 (x ∷ xs) i k), omega arith)
