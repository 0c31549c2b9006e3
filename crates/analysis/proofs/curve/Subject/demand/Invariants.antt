use Rattle.std.proofs.Common.{◌≡◌, ℕ, ◌+◌, ◌-◌, ◌*◌, ◌≤◌, drop}
use Rattle.model.specs.declared.task.Task.{Task}
use Rattle.model.specs.Demand.{demand, slot_weight, safe_weight}
use Rattle.analysis.proofs.curve.Subject.demand.Given as goal

-- each sum so far with what is left of the demand is all of it, and no turn adds more than 100000 jobs of 500 units
abbrev pub invariant-loop-task : goal.invariant-loop-task
invariant-loop-task l =
    let left : (Task → ℕ) → ℕ = λ weight. demand weight (drop l.task-index l.self.tasks.now) (l.self.index - l.task-index) l.window in
    record {
      slots : l.slots + left slot_weight ≡ demand slot_weight l.self.tasks.now l.self.index l.window;
      energy : l.energy + left (safe_weight l.least) ≡ demand (safe_weight l.least) l.self.tasks.now l.self.index l.window;
      few : l.slots ≤ l.task-index * 50000000;
      small : l.energy ≤ l.task-index * 400000000000000000;
    }
