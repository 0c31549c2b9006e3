-- The least of a list of samples, as an iterator finds it.
use Rattle.std.specs.List.{reduce}
use Rattle.std.proofs.Common.{◌≡◌, ℕ, min, List, [], ◌∷◌, fold, unwrap_or, refl, arith}
use Rattle.harvest.specs.Samples.{least}

fold_cut : (k m : ℕ) (xs : List ℕ) → fold (λ a y. min a y) (min k m) xs ≡ min (fold min m xs) k
fold_cut k m [] = omega arith
fold_cut k m (x ∷ xs) =
    let e : min (min k m) x ≡ min k (min m x) = omega arith in
    let h = fold_cut k (min m x) xs in
    cc

pub least_reduced : (xs : List ℕ) → least xs ≡ min (unwrap_or (reduce min xs) 0) 1000000000
least_reduced [] = refl
least_reduced (x ∷ xs) = fold_cut 1000000000 x xs
