use Rattle.std.proofs.Common.{arith}
use Rattle.node.proofs.Looking.{none_due_yet, lines_from, count_from, looks_from}
use Rattle.node.proofs.ahead.Ahead.pass_deadlines.Goals as goal

pub returns-then-from-self : goal.returns-then-from-self
returns-then-from-self c =
    let none = none_due_yet c.args.clock c.args.self.now.due c.args.tasks.now c.args.lines.now (omega arith) c.requires.ahead.2 in
    record { lines = none.0; count = none.1; ahead = c.requires.ahead }

pub returns : goal.returns
returns c =
    let first = c.args.self.now.first in
    let clock = c.args.clock in
    let ts = c.args.tasks.now in
    let ls = c.args.lines.now in
    let looked = c.requires.ahead in
    let did = c.expire-count.ensures in
    let lines = lines_from first clock ts ls looked.0 c.requires.sizes.0 looked.1 _ did.lines in
    let looks = looks_from first clock ts ls looked.0 c.requires.sizes.0 looked.1 _ _ lines c.earliest-self.ensures in
    record {
      lines = lines;
      count = count_from first clock ts ls looked.0 c.requires.sizes.0 looked.1 _ did.count;
      ahead = (looked.0, looks.0, looks.1);
    }
