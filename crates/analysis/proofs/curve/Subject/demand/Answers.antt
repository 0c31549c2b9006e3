use Rattle.std.proofs.Common.{◌≡◌, ◌*◌, ◌≤◌, get_or, take, arith}
use Rattle.model.specs.declared.task.Task.{Task}
use Rattle.model.specs.Tasks.{no_task}
use Rattle.model.specs.Demand.{job_count, safe_weight}
use Rattle.analysis.proofs.Sums.{urgent_below, urgent_is, urgent_lawful, jobs_small, slots_small, turn_adds, slot_turn_adds}
use Rattle.analysis.proofs.curve.Subject.demand.Goals as goal

abbrev task : goal.After-max-unit → Task
task c = get_or (take c.args.self.now.index c.args.self.now.tasks.now) c.loop-task.task-index no_task

-- the jobs of a turn and what a unit counts, which the turn's sums are made of
jobs_is : (c : goal.After-max-unit) → c.from-jobs.result ≡ job_count (task c) c.args.window
jobs_is c = c.from-jobs.ensures

unit_is : (c : goal.After-max-unit) → c.max-unit.result ≡ safe_weight c.args.least (task c)
unit_is c = cc

turn_small : (c : goal.After-max-unit) → c.from-jobs.result * (c.from-units.result * c.max-unit.result) ≤ 400000000000000000
turn_small c =
    let law = urgent_lawful c.args.self.now c.loop-task.task-index c.loop-task-test.true in
    jobs_small (task c) c.args.window _ _ _ law c.requires.1 (jobs_is c) c.from-units.ensures (omega (arith, law, c.ranges.least.fits))

pub overflow_mul-energy-in-loop-task : goal.overflow_mul-energy-in-loop-task
overflow_mul-energy-in-loop-task c = omega (arith, turn_small c)

pub overflow_add-energy : goal.overflow_add-energy
overflow_add-energy c =
    let below = urgent_below c.args.self.now.tasks.now c.args.self.now.index c.loop-task.task-index c.loop-task-test.true in
    omega (arith, turn_small c, c.loop-task.invariant.small)

pub loop-task-preserved : goal.loop-task-preserved
loop-task-preserved c =
    let s = c.args.self.now in
    let i = c.loop-task.task-index in
    let w = c.args.window in
    let below = urgent_below s.tasks.now s.index i c.loop-task-test.true in
    let law = urgent_lawful s i c.loop-task-test.true in
    let same = urgent_is s i c.loop-task-test.true in
    record {
      slots = slot_turn_adds s.tasks.now s.index i w (task c) _ _ _ _ below s.within.0 same (jobs_is c) c.from-units.ensures c.loop-task.invariant.slots;
      energy =
          turn_adds (safe_weight c.args.least) s.tasks.now s.index i w (task c) _ _ _ _ _ below s.within.0 same
          (jobs_is c) c.from-units.ensures (unit_is c) c.loop-task.invariant.energy;
      few = omega (arith, slots_small (task c) w _ _ law c.requires.1 (jobs_is c) c.from-units.ensures, c.loop-task.invariant.few);
      small = omega (arith, turn_small c, c.loop-task.invariant.small);
    }
