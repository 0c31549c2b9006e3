use Rattle.node.proofs.Lines.{Walked}
use Rattle.node.proofs.scan.expire.Given as goal

abbrev pub invariant-each : goal.invariant-each
invariant-each l = Walked l.clock l.tasks l.initial.lines l.lines l.i l.count
