-- Energy along the run that shows a task's longest response: the harvest so far covers all units that ran, each by its weight.
-- Where every unit draws at least the gain, with what the store still has above the floor; where every unit draws at most that, without it.
use Rattle.std.proofs.Common.{◌≡◌, ℕ, suc, ◌+◌, ◌-◌, ◌*◌, ◌≤◌, Bool, List, refl, inl, inr, arith}
use native.Mathlib.Nat.{min-le_right}
use Rattle.model.specs.declared.task.Task.{Task}
use Rattle.model.specs.declared.state.Line.{Line}
use Rattle.model.specs.Demand.{safe_weight}
use Rattle.model.specs.Setups.{Setup, gain, OneSided}
use Rattle.model.proofs.Rule.{Runs, Leaves}
use Rattle.model.proofs.WorstLines.{runs_one_of}

module _ (n : Setup) where
  -- of a window's demand, what is not owed any more ran within the slots up to a clock
  abbrev pub Covered : OneSided n → ℕ → ℕ → ℕ → ℕ → Type 0
  Covered (inl heavy) clock level demanded owed = demanded + level ≤ clock * gain n + n.floor + owed
  Covered (inr light) clock level demanded owed = demanded ≤ clock * gain n + owed

  pub covered_first : (side : OneSided n) (demanded owed : ℕ) → demanded ≡ owed → Covered side 0 n.floor demanded owed
  covered_first (inl heavy) demanded owed e = omega arith
  covered_first (inr light) demanded owed e = omega arith

  -- releases add the same to both
  pub covered_released :
      (side : OneSided n) (clock level d d' o o' : ℕ) → d' + o ≡ d + o' → Covered side clock level d o → Covered side clock level d' o'
  covered_released (inl heavy) clock level d d' o o' e c = omega arith
  covered_released (inr light) clock level d d' o o' e c = omega arith

  left_at_most : (level draw after : ℕ) → Leaves n level n.rate draw after → after ≤ level + gain n - draw
  left_at_most level draw after leaves = omega (arith, leaves.exact refl, min-le_right n.top (level + gain n - draw))

  pub covered_waited :
      (side : OneSided n) (clock level after demanded owed : ℕ) → Leaves n level n.rate 0 after →
      Covered side clock level demanded owed → Covered side (suc clock) after demanded owed
  covered_waited (inl heavy) clock level after demanded owed leaves c = omega (arith, left_at_most level 0 after leaves)
  covered_waited (inr light) clock level after demanded owed leaves c = omega arith

  -- a unit of a full job of task k
  pub covered_ran :
      (side : OneSided n) (clock level after demanded o o' : ℕ) {ls ms : List Line} {k : Task} {d : ℕ} {e : Bool} →
      Runs n.tasks ls k d e ms → d ≡ k.draw → k.draw + n.floor ≤ level + gain n → Leaves n level n.rate d after →
      o ≡ safe_weight (gain n) k + o' → Covered side clock level demanded o → Covered side (suc clock) after demanded o'
  covered_ran (inl heavy) clock level after demanded o o' {k} {d} runs full enough leaves pays c =
      let much : gain n ≤ k.draw = runs_one_of (λ t. gain n ≤ t.draw) runs heavy in
      omega (arith, left_at_most level d after leaves)
  covered_ran (inr light) clock level after demanded o o' {k} runs full enough leaves pays c =
      let little : k.draw ≤ gain n = runs_one_of (λ t. t.draw ≤ gain n) runs light in
      omega arith

  pub covered_all :
      (side : OneSided n) (clock level demanded owed : ℕ) → n.floor ≤ level → owed ≡ 0 → Covered side clock level demanded owed →
      demanded ≤ clock * gain n
  covered_all (inl heavy) clock level demanded owed low e c = omega arith
  covered_all (inr light) clock level demanded owed low e c = omega arith
