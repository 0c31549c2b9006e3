use Rattle.std.proofs.Common.{◌≡◌, List, length, sym, refl, ap, ◌∙◌, subst, arith, rules}
use Rattle.model.specs.declared.state.State.{State}
use Rattle.model.specs.declared.task.Task.{Task}
use Rattle.model.specs.Energy.{put_level}
use Rattle.model.specs.Slots.{turn_of, drawn, ends, worked}
use Rattle.model.proofs.CountBounds.{one_at_most}
use Rattle.model.proofs.Reached.{floor_of, top_of, covered_of, closed_of, finished_of}
use Rattle.table.specs.Tables.{setup_of}
use Rattle.table.proofs.Setups.{setup_lawful}
use Rattle.node.specs.Turns.{turn_said, open_from, turn_job}
use Rattle.node.specs.declared.ahead.Ahead.{Ahead}
use Rattle.node.specs.Ahead.{LooksAhead}
use Rattle.node.proofs.Reached.{slotted_to, lines_of}
use Rattle.node.proofs.Looking.{looked_of, worked_looks}
use Rattle.node.proofs.Choosing.{turn_stands, turn_begins, turn_workable}
use Rattle.node.proofs.Advancing.{state_after}
use Rattle.node.proofs.node.Node.advance.Goals as goal

pub new-store-requires : goal.new-store-requires
new-store-requires g c =
    let node = c.args.self.now in
    let n = setup_of node.table in
    let low = floor_of n (setup_lawful node.table) _ _ node.reached in
    let high = top_of n (setup_lawful node.table) _ _ node.reached in
    (omega (arith, low, c.floor.ensures.value), (omega (arith, high, c.cap.ensures.value), c.cap.ensures.limits.1))

pub work-activity-requires : goal.work-activity-requires
work-activity-requires g c =
    let node = c.args.self.now in
    let n = setup_of node.table in
    let closed = closed_of n (setup_lawful node.table) _ _ node.reached in
    let finished = finished_of n (setup_lawful node.table) _ _ node.reached in
    record {
      turn = turn_workable n node.state (setup_lawful node.table) _ node.reached c.choose-turn.result c.choose-turn.ensures;
      counts = (c.requires.clock, (omega (arith, closed, c.requires.clock), omega (arith, closed, finished, c.requires.clock)));
    }

pub put-requires : goal.put-requires
put-requires g c =
    let node = c.args.self.now in
    let n = setup_of node.table in
    let draw : c.draw-draw.result ≡ drawn (turn_of n node.state) = c.draw-draw.ensures ∙ ap drawn c.choose-turn.ensures in
    let covered = covered_of n (setup_lawful node.table) _ node.state node.reached c.args.harvest c.requires.harvest in
    record {
      covered = omega (arith, draw, covered, c.new-store.ensures.level, c.new-store.ensures.bounds.0, c.floor.ensures.value);
      harvest = c.requires.harvest.1;
    }

pub pass_deadlines-abandoned-requires : goal.pass_deadlines-abandoned-requires
pass_deadlines-abandoned-requires g c =
    let node = c.args.self.now in
    let n = setup_of node.table in
    let s = node.state in
    let v = c.choose-turn.result in
    let w = c.work-activity.new.state in
    let tasks : c.tasks-tasks.result.now ≡ n.tasks = c.tasks-tasks.ensures.value in
    let chosen = c.choose-turn.ensures in
    let sizes = lines_of node.table s node.reached in
    let after : Ahead = record { first = c.first_open-self.result; due = node.ahead.due } in
    let first : after.first ≡ open_from (length n.tasks) (turn_job v) =
    c.first_open-self.ensures ∙ ap (λ (x : List Task). open_from (length x) (turn_job v)) tasks in
    let unit : w.lines ≡ worked (turn_said v) s.lines = ap (λ (x : State). x.lines) c.work-activity.ensures.state in
    let looks =
    worked_looks node.ahead after n.tasks s.lines w.lines v sizes (turn_stands n s v chosen) (turn_begins n s v chosen) (looked_of _ _ _ node.looked)
    first refl unit in
    record {
      sizes = (search rules, search rules);
      ahead = subst (λ (x : List Task). LooksAhead after x w.lines) (sym tasks) looks;
    }

pub overflow_add-self-2 : goal.overflow_add-self-2
overflow_add-self-2 g c =
    let node = c.args.self.now in
    let closed = closed_of (setup_of node.table) (setup_lawful node.table) _ _ node.reached in
    let after = ap (λ (x : State). x.closed) c.work-activity.ensures.state in
    omega (arith, closed, after, c.requires.clock, c.from.ensures, c.pass_deadlines-abandoned.type_inv, one_at_most (ends (turn_said c.choose-turn.result)))

pub invariant_of-self-3 : goal.invariant_of-self-3
invariant_of-self-3 g c =
    let node = c.args.self.now in
    let n = setup_of node.table in
    let tasks = c.tasks-tasks.ensures.value in
    let passed = c.pass_deadlines-abandoned in
    let level : c.level-self.result ≡ put_level n node.state.level c.args.harvest c.draw-draw.result = cc in
    let to =
    state_after n node.state c.args.harvest _ c.choose-turn.ensures _ c.work-activity.ensures.state _ tasks _ _ _ c.draw-draw.ensures level
    (c.from.ensures ∙ passed.ensures.count) _ passed.ensures.lines in
    record {
      reached = slotted_to node.table node.state node.reached _ _ c.requires.clock c.requires.harvest to;
      looked = ∣ subst (λ (x : List Task). LooksAhead passed.new.self x passed.new.lines) tasks passed.ensures.ahead ∣₁;
    }
