use Rattle.std.proofs.Common.{ℕ, ◌<◌, get_or}
use Rattle.analysis.specs.Verdicts.{no_bounds, BoundsOf}
use Rattle.analysis.proofs.assess.assess_tasks.Given as goal

-- the tasks so far have their bounds
abbrev pub invariant-loop-index : goal.invariant-loop-index
invariant-loop-index l = (k : ℕ) → k < l.index → BoundsOf l.rate l.tasks k (get_or l.place-items k no_bounds)
