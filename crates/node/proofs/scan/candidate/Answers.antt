use Rattle.std.proofs.Common.{◌≡◌, ◌<◌, suc, ◌+◌, min, length, drop, sym, ap, ◌∙◌, arith}
use Rattle.model.specs.Slots.{candidate}
use Rattle.node.proofs.Lines.{candidate_here, candidate_next, candidate_end}
use Rattle.node.proofs.scan.candidate.Goals as goal

pub returns-in-Open : goal.returns-in-Open
returns-in-Open c =
    let ts = c.args.tasks.now in
    let task : c.open.i < length ts = omega (arith, c.open-test.true, c.requires.1) in
    sym (c.open.invariant ∙ candidate_here ts c.args.lines.now c.open.i (c.args.first + c.open.i) task c.open-test.true _ _ _ c.in-Open.is)

pub open-preserved : goal.open-preserved
open-preserved c =
    let ts = c.args.tasks.now in
    let ls = c.args.lines.now in
    let i = c.open.i in
    let task : i < length ts = omega (arith, c.open-test.true, c.requires.1) in
    let next = candidate_next ts ls i (c.args.first + i) task c.open-test.true c.in_default.not-Open in
    let more : suc (c.args.first + i) ≡ c.args.first + (i + 1) = omega arith in
    c.open.invariant ∙ next ∙ ap (λ m. candidate m (drop (i + 1) ts) (drop (i + 1) ls)) more

pub returns : goal.returns
returns c =
    let ts = c.args.tasks.now in
    let ls = c.args.lines.now in
    let ends : c.open.i ≡ min (length ts) (length ls) = omega (arith, c.open-test.false, c.open.auto.i-end, c.requires.1) in
    sym (c.open.invariant ∙ candidate_end _ ts ls c.open.i ends)
