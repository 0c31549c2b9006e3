use Rattle.std.proofs.Common.{◌≡◌, ℕ, ◌+◌, ◌-◌, ◌<◌, ◌≤◌, Option}
use Rattle.model.specs.Windows.{Rounds}
use Rattle.model.proofs.Searches.{ExceededBelow}
use Rattle.analysis.proofs.search.search.Given as goal

-- every smaller window is exceeded, and what the search finds from here, it finds from window 1
abbrev pub invariant-loop-needed : goal.invariant-loop-needed
invariant-loop-needed g l =
    let curve : ℕ → ℕ = g.C.Curve.value l.curve in
    record {
      positive : 1 ≤ l.window;
      within : l.window ≤ l.deadline;
      few : l.rounds < l.window;
      exceeded : ExceededBelow curve l.window;
      rounds : (r : Option ℕ) (n m : ℕ) → m ≡ l.rounds + n → Rounds curve l.deadline l.window r n → Rounds curve l.deadline 1 r m;
    }

abbrev pub decreases-loop-needed : goal.decreases-loop-needed
decreases-loop-needed g l = l.deadline - l.window
