use Rattle.std.proofs.Common.{◌≡◌, ◌+◌, drop}
use Rattle.model.specs.Slots.{candidate}
use Rattle.node.proofs.scan.candidate.Given as goal

abbrev pub invariant-open : goal.invariant-open
invariant-open l =
    candidate l.first l.tasks l.lines ≡ candidate (l.first + l.i) (drop l.i l.tasks) (drop l.i l.lines)
