use Rattle.std.proofs.Common.{sym, subst, rules}
use Rattle.std.specs.Io.KnownBytes.{Consumes}
use Rattle.std.proofs.KnownBytes.{Consumes-trans}
use Rattle.input.proofs.Parts.{front_more}
use Rattle.input.proofs.fill.Goals as goal

pub loop-len-preserved : goal.loop-len-preserved
loop-len-preserved g c =
    let inv = c.loop-len.invariant in
    let more = front_more c.loop-len.len _ c.in_ok-n.n c.loop-len.buffer c.read.new.buf inv.0 c.in_ok-n.ensures.bound.0 in
    (search rules, subst (Consumes _ _) (sym more) (Consumes-trans _ _ _ _ _ inv.1 c.in_ok-n.ensures.bytes.0))
