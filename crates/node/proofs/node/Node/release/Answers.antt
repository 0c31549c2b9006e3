use Rattle.std.proofs.Common.{◌≡◌, ℕ, suc, ◌+◌, ◌-◌, ◌<◌, ◌≤◌, min, true, ltb, List, length, get_or, Some, sym, ap, ◌∙◌, arith, rules}
use Rattle.std.proofs.lemmas.Bool.{lt-ltb}
use Rattle.model.specs.declared.refusal.Refusal.TheVariants.{TooEarly}
use Rattle.model.specs.declared.state.Line.TheVariants.{Never}
use Rattle.model.specs.declared.state.State.{State}
use Rattle.model.specs.declared.task.Task.{Task}
use Rattle.model.specs.Tasks.{no_task}
use Rattle.model.specs.Setups.{Setup}
use Rattle.model.specs.Releases.{clock_end, job_fits, too_early, release_refusal}
use Rattle.model.proofs.Reached.{clock_of, closed_of, released_of}
use Rattle.table.specs.Tables.{setup_of}
use Rattle.table.proofs.Setups.{setup_lawful}
use Rattle.node.specs.declared.ahead.Ahead.{Ahead}
use Rattle.node.proofs.Looking.{looked_of, opened_looks}
use Rattle.node.proofs.Reached.{released_to, lines_of}
use Rattle.node.proofs.node.Node.release.Goals as goal

-- a job of a task that exists
module _ (n : Setup) (s : State) (task index units draw : ℕ) (number : task ≡ suc index) (listed : index < length n.tasks) where
  there : ltb index (length n.tasks) ≡ true
  there = lt-ltb _ _ listed

  refused_early : job_fits (get_or n.tasks index no_task) units draw ≡ true → s.clock < clock_end →
      too_early s.clock (get_or n.tasks index no_task) (get_or s.lines index Never) ≡ true → Some TooEarly ≡ release_refusal n s task units draw
  refused_early fits before early = let b : ltb s.clock clock_end ≡ true = lt-ltb _ _ before in rw (number, there, fits, b, early)

pub returns-then-is_early-clause-refusal : goal.returns-then-is_early-clause-refusal
returns-then-is_early-clause-refusal g c =
    let n = setup_of c.args.self.now.table in
    let s = c.args.self.now.state in
    let index = c.from-number.result - 1 in
    let tasks = c.tasks-tasks.ensures.value in
    let inside : (1 ≤ c.from-number.result) × (c.from-number.result ≤ length c.tasks-tasks.result.now) = (search rules, search rules) in
    let number : c.args.task ≡ suc index = omega (arith, c.from-number.ensures, inside.0, inside.1) in
    let listed : index < length n.tasks = omega (arith, ap length tasks, inside.0, inside.1) in
    let fits : job_fits (get_or n.tasks index no_task) c.args.units c.args.draw ≡ true =
    ap (λ (x : List Task). job_fits (get_or x index no_task) c.args.units c.args.draw) (sym tasks) ∙ sym c.if-not-is_within.ensures in
    let early : too_early s.clock (get_or n.tasks index no_task) (get_or s.lines index Never) ≡ true =
    ap (λ (x : List Task). too_early s.clock (get_or x index no_task) (get_or s.lines index Never)) (sym tasks) ∙ sym c.if-is_early.ensures in
    refused_early n s _ index c.args.units c.args.draw number listed fits (search rules) early

pub overflow_add-self : goal.overflow_add-self
overflow_add-self g c =
    let t = c.args.self.now.table in
    let closed = closed_of (setup_of t) (setup_lawful t) _ _ c.args.self.now.reached in
    let released = released_of (setup_of t) (setup_lawful t) _ _ c.args.self.now.reached in
    let clock = clock_of (setup_of t) (setup_lawful t) _ _ c.args.self.now.reached in
    omega (arith, closed, released, clock)

pub invariant_of-self-2 : goal.invariant_of-self-2
invariant_of-self-2 g c =
    let node = c.args.self.now in
    let n = setup_of node.table in
    let s = node.state in
    let index = c.from-number.result - 1 in
    let tasks = c.tasks-tasks.ensures.value in
    let inside : (1 ≤ c.from-number.result) × (c.from-number.result ≤ length c.tasks-tasks.result.now) = (search rules, search rules) in
    let listed : index < length n.tasks = omega (arith, ap length tasks, inside.0, inside.1) in
    let after : Ahead = record { first = c.min-self.result; due = c.min-self-2.result } in
    let due : c.due_clock.result ≡ s.clock + (get_or n.tasks index no_task).deadline =
    c.due_clock.ensures ∙ ap (λ (x : List Task). s.clock + (get_or x index no_task).deadline) tasks in
    let looks =
    opened_looks node.ahead n.tasks s.lines index s.clock c.args.units c.args.draw listed (lines_of node.table s node.reached) (looked_of _ _ _ node.looked)
    after c.min-self.ensures (c.min-self-2.ensures ∙ ap (λ x. min node.ahead.due x) due) in
    record {
      reached = released_to node.table s node.reached c.args.task c.args.units c.args.draw _ (search rules);
      looked = ∣ looks ∣₁;
    }
