-- Amounts and samples that are known by hand.
use Rattle.std.specs.Prelude.{◌≡◌, [], ◌∷◌}
use Rattle.harvest.specs.Samples.{cut, least, sample, next_index, joint}

pub record WorkedAmounts : Type 0 where
  pub at_ceiling : cut 1000000000 ≡ 1000000000
  pub above_ceiling : cut 1000000001 ≡ 1000000000
  -- a list promises its least sample, and no samples promise nothing
  pub least_of_three : least (7 ∷ 3 ∷ 9 ∷ []) ≡ 3
  pub least_of_large : least (4000000000 ∷ []) ≡ 1000000000
  pub least_of_none : least [] ≡ 0
  -- a list brings its samples in turn, and after the last one the first
  pub samples :
      (sample (5 ∷ 4000000000 ∷ []) 0 ≡ 5) ×
      (sample (5 ∷ 4000000000 ∷ []) 1 ≡ 1000000000) ×
      (sample [] 0 ≡ 0)
  pub indices :
      (next_index (5 ∷ 9 ∷ []) 0 ≡ 1) ×
      (next_index (5 ∷ 9 ∷ []) 1 ≡ 0) ×
      (next_index [] 0 ≡ 0)
  pub sums :
      (joint 4 6 ≡ 10) ×
      (joint 1000000000 1 ≡ 1000000000)
