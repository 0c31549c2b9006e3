use Rattle.std.proofs.Common.{◌≡◌, ℕ, ◌+◌, ◌<◌, ◌≤◌, length, get_or}
use Rattle.model.specs.declared.state.Line.TheVariants.{Never, Open}
use Rattle.model.specs.Tasks.{no_task}
use Rattle.node.proofs.scan.earliest.Given as goal

-- no open job that was looked at is due before the clock so far
abbrev pub invariant-each : goal.invariant-each
invariant-each l = (k : ℕ) → k < length l.yielded → (since left draw : ℕ) → get_or l.lines k Never ≡ Open since left draw →
    l.due ≤ since + (get_or l.tasks k no_task).deadline
