use Rattle.std.proofs.Common.{arith, rules}
use Rattle.std.proofs.lemmas.Grind.{common_steps}
use Rattle.table.specs.Limits.{unnamed, full, outside, unpayable, misnamed}
use Rattle.table.proofs.table.Table.with_task.Goals as goal

pub returns-then-not-contains : goal.returns-then-not-contains
returns-then-not-contains c = unnamed (search rules)

pub returns-then-at-ge16 : goal.returns-then-at-ge16
returns-then-at-ge16 c = full (search rules) (grind (arith, common_steps))

pub returns-then-not-in_limits : goal.returns-then-not-in_limits
returns-then-not-in_limits c = outside (search rules) (grind (arith, common_steps)) (search rules)

pub returns-then-task-self : goal.returns-then-task-self
returns-then-task-self c = unpayable (search rules) (grind (arith, common_steps)) (search rules) (search rules) (search rules)

pub returns-then-not-is_graphic : goal.returns-then-not-is_graphic
returns-then-not-is_graphic c =
    misnamed (search rules) (grind (arith, common_steps)) (search rules) (search rules) (search rules) (search rules)

pub invariant_of-longer : goal.invariant_of-longer
invariant_of-longer c =
    record {
      rated = search rules;
      stored = search rules;
      few = omega arith;
      sized = grind (arith, common_steps);
      timed = grind (arith, common_steps);
      payable = grind (arith, common_steps);
      short = grind (arith, common_steps);
      graphic = grind (arith, common_steps);
    }
