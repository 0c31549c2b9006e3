-- What a slot is used for, by a search that begins where the open jobs do.
--   found_among_all          such a search finds what the whole search does
--   unit_fits                a unit of the job that was found and the floor are within the cap
--   turn_stands, turn_begins, turn_workable   where the job of a turn stands, and that none is open before it
use Rattle.std.proofs.Common.{◌≡◌, ℕ, ◌+◌, ◌-◌, ◌≤◌, Bool, true, false, cond, List, length, take, drop, Some, Option, sym, ap, ◌∙◌, subst, arith, length-drop}
use Rattle.std.proofs.lemmas.List.{take_rest}
use Rattle.model.specs.declared.task.Task.{Task}
use Rattle.model.specs.declared.state.Line.{Line}
use Rattle.model.specs.declared.state.Line.TheVariants.{Open}
use Rattle.model.specs.declared.state.State.{State}
use Rattle.model.specs.Setups.{Setup, LawfulSetup}
use Rattle.model.specs.Slots.{Job, candidate, runs, waits, turn_with, turn_of}
use Rattle.model.specs.Histories.{History}
use Rattle.model.specs.HistoryLaws.{NotOpen, MostUrgent}
use Rattle.model.proofs.Reached.{wide_of, since_of}
use Rattle.model.proofs.Turns.{TurnSays, turn_says}
use Rattle.node.specs.declared.ahead.Ahead.{Ahead}
use Rattle.node.specs.declared.turn.Turn.{Turn}
use Rattle.node.specs.declared.turn.Turn.TheVariants.{Idle, Waits, Runs}
use Rattle.node.specs.Ahead.{LooksAhead}
use Rattle.node.specs.Turns.{turn_said, CandidateStands, BeginAt, Workable, turn_job}
use Rattle.node.proofs.Lines.{candidate_from, candidate_beside}
use Rattle.node.proofs.Looking.{looked_of}

shut_line : (l : Line) → NotOpen l → (r u d : ℕ) → l ≡ Open r u d → ⊥
shut_line l shut r u d e = subst NotOpen e shut

module _ (n : Setup) (s : State) where
  first_with : (j : Job) (b : Bool) → TurnSays n s (cond b (runs j) (waits j)) → MostUrgent n s j
  first_with j true says = says.0
  first_with j false says = says.0

  first_of : (j : Job) → Some j ≡ candidate 0 n.tasks s.lines → MostUrgent n s j
  first_of j e = first_with j _ (subst (λ o. TurnSays n s (turn_with n s.level o)) (sym e) (turn_says n s))

  module _ (lawful : LawfulSetup n) where
    pub unit_fits : (j : Job) → Some j ≡ candidate 0 n.tasks s.lines → j.task.draw + n.floor ≤ n.top
    unit_fits j e =
        let first = first_of j e in
        let draw = lawful.tasked.payable j.index first.listed in
        omega (arith, draw, ap (λ (t : Task). t.draw) first.task, lawful.stored.0)

  turn_told : (v : Turn) → turn_said v ≡ turn_of n s → TurnSays n s (turn_said v)
  turn_told v e = subst (TurnSays n s) (sym e) (turn_says n s)

  stands_by : (v : Turn) → TurnSays n s (turn_said v) → CandidateStands n.tasks s.lines (turn_job v)
  stands_by Idle says = tt
  stands_by (Waits j) says = record { listed = says.0.listed; task = sym says.0.task; line = says.0.line }
  stands_by (Runs j) says = record { listed = says.0.listed; task = sym says.0.task; line = says.0.line }

  pub turn_stands : (v : Turn) → turn_said v ≡ turn_of n s → CandidateStands n.tasks s.lines (turn_job v)
  turn_stands v e = stands_by v (turn_told v e)

  begins_by : (v : Turn) → TurnSays n s (turn_said v) → BeginAt (length n.tasks) (turn_job v) s.lines
  begins_by Idle says = (omega arith, λ k below. shut_line _ (says k below))
  begins_by (Waits j) says = let listed = says.0.listed in (omega arith, λ k below. shut_line _ (says.0.ahead k below))
  begins_by (Runs j) says = let listed = says.0.listed in (omega arith, λ k below. shut_line _ (says.0.ahead k below))

  pub turn_begins : (v : Turn) → turn_said v ≡ turn_of n s → BeginAt (length n.tasks) (turn_job v) s.lines
  turn_begins v e = begins_by v (turn_told v e)

  module _ (lawful : LawfulSetup n) (promise : ℕ) (reached : ∥ History n promise s ∥₁) where
    workable_by : (v : Turn) → TurnSays n s (turn_said v) → Workable v s
    workable_by Idle says = tt
    workable_by (Waits j) says = omega (arith, says.0.listed, lawful.tasked.few)
    workable_by (Runs j) says = (
      omega (arith, says.0.listed, lawful.tasked.few),
      since_of n lawful promise s reached _ _ _ _ says.0.listed says.0.line,
    )

    pub turn_workable : (v : Turn) → turn_said v ≡ turn_of n s → Workable v s
    turn_workable v e = workable_by v (turn_told v e)

    pub found_among_all : (a : Ahead) → ∥ LooksAhead a n.tasks s.lines ∥₁ → (ts : List Task) → ts ≡ n.tasks → (o : Option Job) →
        o ≡ candidate a.first (take (length ts - a.first) (drop a.first ts)) (take (length ts - a.first) (drop a.first s.lines)) →
        o ≡ candidate 0 n.tasks s.lines
    found_among_all a looked ts same o found =
        let looks = looked_of a n.tasks s.lines looked in
        let wide = wide_of n lawful promise s reached in
        let from = candidate_from n.tasks s.lines a.first looks.0 (omega (arith, looks.0, lawful.tasked.few, wide)) looks.1 in
        let beside = candidate_beside (length ts - a.first) a.first (drop a.first ts) (drop a.first s.lines) (omega (arith, length-drop {A = Task})) in
        let here = rw (take_rest ts a.first) at found in
        here ∙ beside
        ∙ ap (λ x. candidate a.first (drop a.first x) (drop a.first s.lines)) same
        ∙ sym from
