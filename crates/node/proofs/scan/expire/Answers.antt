use Rattle.std.proofs.Common.{◌≡◌, ◌+◌, ◌<◌, true, false, eqb, length, get_or, sym, ap, ◌∙◌, arith}
use Rattle.std.proofs.lemmas.Bool.Decides.{nat_tests}
use Rattle.model.specs.declared.state.Line.TheVariants.{Never}
use Rattle.model.specs.Tasks.{no_task}
use Rattle.model.specs.Slots.{due, shut}
use Rattle.node.proofs.Lines.{walked_as, shut_not_due, walked_by, walked_due}
use Rattle.node.proofs.scan.expire.Goals as goal
use Rattle.node.proofs.scan.expire.Goals.{in-Open+then-due_clock-from, in-Open+else-due_clock-from, in_default}

pub each-preserved : goal.each-preserved
each-preserved c =
    let clock = c.args.clock in
    let ts = c.args.tasks.now in
    let ls = c.each.lines in
    let i = c.each.i in
    let lt : i < length ls = omega arith in
    let before = c.args.lines.now in
    elim c.match-lines-i.branch [
      | in-Open+then-due_clock-from w ↦
          let e : due clock (get_or ts i no_task) (get_or ls i Never) ≡ true =
          let now : eqb (w.in-Open.released + (get_or ts i no_task).deadline) clock ≡ true = grind (arith, nat_tests) in
          ap (due clock (get_or ts i no_task)) w.in-Open.is ∙ now in
          walked_as clock ts before (i + 1) w.lines-is w.count-is
          (walked_due clock ts ls i c.each-test.true lt before _ c.each.invariant _ e (sym (ap shut w.in-Open.is)))
      | in-Open+else-due_clock-from w ↦
          let e : due clock (get_or ts i no_task) (get_or ls i Never) ≡ false =
          let now : eqb (w.in-Open.released + (get_or ts i no_task).deadline) clock ≡ false = grind (arith, nat_tests) in
          ap (due clock (get_or ts i no_task)) w.in-Open.is ∙ now in
          walked_as clock ts before (i + 1) w.lines-is w.count-is
          (walked_by clock ts ls i c.each-test.true lt before _ c.each.invariant e)
      | in_default w ↦
          walked_as clock ts before (i + 1) w.lines-is w.count-is
          (walked_by clock ts ls i c.each-test.true lt before _ c.each.invariant
          (shut_not_due clock (get_or ts i no_task) (get_or ls i Never) w.in_default.not-Open))
    ]
