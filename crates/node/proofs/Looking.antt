-- What a node looks ahead to, kept by each step of a slot and by a release.
--   looked_of            what the node's type hides
--   none_due_yet         before the clock that is kept no job is due, and nothing is abandoned
--   none_before_expired  abandoning opens no job
--   lines_from, count_from, looks_from   abandoning looks at the lines from the first open one on
--   worked_looks, opened_looks   after a turn's unit, and after a release
use Rattle.std.proofs.Common.{◌≡◌, ℕ, zero, suc, ◌+◌, ◌-◌, ◌<◌, ◌≤◌, min, Bool, true, false, cond, leb, ◌≢◌, ◌⊎◌, List, [], ◌∷◌, ◌++◌, length, get_or, take, drop, set, sym, refl, ap, ◌∙◌, subst, inl, inr, ⊎_elim, arith, append-nil, length-drop, get_or-drop, get_or-set_other, get_or-set_same}
use mathlib.Core.Logic.{∥∥₁_elim}
use mathlib.Core.HLevel.{⊥_prop}
use native.Mathlib.Bridge.{le_prop}
use Rattle.std.proofs.lemmas.Bool.{cases_lt}
use Rattle.std.proofs.lemmas.List.{drop_all, take_rest}
use Rattle.std.proofs.lemmas.Bool.Decides.{nat_tests}
use Rattle.model.specs.declared.task.Task.{Task}
use Rattle.model.specs.declared.state.Line.{Line}
use Rattle.model.specs.declared.state.Line.TheVariants.{Never, Closed, Open}
use Rattle.model.specs.Tasks.{no_task}
use Rattle.model.specs.Slots.{due, shut, expired, abandoned, unit_fewer, worked}
use Rattle.node.specs.declared.ahead.Ahead.{Ahead}
use Rattle.node.specs.declared.turn.Turn.{Turn}
use Rattle.node.specs.declared.turn.Turn.TheVariants.{Idle, Waits, Runs}
use Rattle.node.specs.Ahead.{NoneBefore, NoneDueBefore, LooksAhead}
use Rattle.node.proofs.Lines.{none_before_worked, walked_from}
use Rattle.node.specs.Turns.{job_said, turn_said, CandidateStands, open_from, BeginAt, turn_job}

pub looked_of : (a : Ahead) (ts : List Task) (ls : List Line) → ∥ LooksAhead a ts ls ∥₁ → LooksAhead a ts ls
looked_of a ts ls e = (
  ∥∥₁_elim e le_prop (λ p. p.0),
  λ k below r u d line. ∥∥₁_elim e ⊥_prop (λ p. p.1 k below r u d line),
  λ k below r u d line. ∥∥₁_elim e le_prop (λ p. p.2 k below r u d line),
)

-- Deadlines

not_due : (clock limit : ℕ) (t : Task) (l : Line) → clock < limit → ((r u d : ℕ) → l ≡ Open r u d → limit ≤ r + t.deadline) →
    due clock t l ≡ false
not_due clock limit t Never h none = refl
not_due clock limit t (Closed r) h none = refl
not_due clock limit t (Open r u d) h none = let later = none r u d refl in grind (arith, nat_tests)

pub none_due_yet : (clock limit : ℕ) (ts : List Task) (ls : List Line) → clock < limit → NoneDueBefore limit ts ls →
    (ls ≡ expired clock ts ls) × (0 ≡ abandoned clock ts ls)
none_due_yet clock limit [] ls h none = (refl, refl)
none_due_yet clock limit (t ∷ ts) [] h none = (refl, refl)
none_due_yet clock limit (t ∷ ts) (l ∷ ls) h none =
    let here : due clock t l ≡ false = not_due clock limit t l h (none 0 (omega arith)) in
    let rest = none_due_yet clock limit ts ls h (λ k below. none (suc k) (omega arith)) in
    (rw here (ap (λ x. l ∷ x) rest.0), rw here (omega (arith, rest.1)))

open_before : (b : Bool) (l : Line) (r u d : ℕ) → cond b (shut l) l ≡ Open r u d → l ≡ Open r u d
open_before false l r u d e = e
open_before true Never r u d e = e
open_before true (Closed s) r u d e = e
open_before true (Open s v w) r u d e = let z : ◌≡◌ {A = ℕ} 0 1 = cc in absurd (omega arith)

expired_open : (clock : ℕ) (ts : List Task) (ls : List Line) (k r u d : ℕ) → get_or (expired clock ts ls) k Never ≡ Open r u d →
    get_or ls k Never ≡ Open r u d
expired_open clock [] ls k r u d e = e
expired_open clock (t ∷ ts) [] k r u d e = e
expired_open clock (t ∷ ts) (l ∷ ls) zero r u d e = open_before (due clock t l) l r u d e
expired_open clock (t ∷ ts) (l ∷ ls) (suc k) r u d e = expired_open clock ts ls k r u d e

pub none_before_expired : (i clock : ℕ) (ts : List Task) (ls : List Line) → NoneBefore i ls → NoneBefore i (expired clock ts ls)
none_before_expired i clock ts ls none k below r u d e = none k below r u d (expired_open clock ts ls k r u d e)

-- a search from the first open job on sees all of them
none_due_from : (i limit : ℕ) (ts : List Task) (ls : List Line) → NoneBefore i ls → NoneDueBefore limit (drop i ts) (drop i ls) →
    NoneDueBefore limit ts ls
none_due_from i limit ts ls none later k below r u d e =
    ⊎_elim
    (λ lt. absurd (none k lt r u d e))
    (λ le.
    let place : i + (k - i) ≡ k = omega arith in
    let line = get_or-drop i ls (k - i) Never ∙ ap (λ j. get_or ls j Never) place in
    let task = get_or-drop i ts (k - i) no_task ∙ ap (λ j. get_or ts j no_task) place in
    let within : k - i < length (drop i ts) = omega (arith, length-drop i ts) in
    subst (λ (t : Task). limit ≤ r + t.deadline) task (later (k - i) within r u d (line ∙ e)))
    (cases_lt k i)

-- what is done to the lines from the first open one on, and told of them, is done to all and told of all
module _ (i clock : ℕ) (ts : List Task) (ls : List Line) (listed : i ≤ length ts) (sizes : length ts ≤ length ls) (none : NoneBefore i ls) where
  pub lines_from : (ms : List Line) → ms ≡ expired clock (take (length ts - i) (drop i ts)) (take (length ls - i) (drop i ls)) →
      take i ls ++ (ms ++ drop (length ls - i) (drop i ls)) ≡ expired clock ts ls
  lines_from ms e =
      let walked = walked_from clock ts ls i listed (omega arith) none in
      let all : drop (length ls - i) (drop i ls) ≡ [] = drop_all _ (drop i ls) (omega (arith, length-drop i ls)) in
      rw (all, append-nil, e, take_rest ts i, take_rest ls i) (sym walked.0)

  pub count_from : (count : ℕ) → count ≡ abandoned clock (take (length ts - i) (drop i ts)) (take (length ls - i) (drop i ls)) →
      count ≡ abandoned clock ts ls
  count_from count e =
      let walked = walked_from clock ts ls i listed (omega arith) none in
      let told : count ≡ abandoned clock (drop i ts) (drop i ls) = rw (take_rest ts i, take_rest ls i) at e in
      omega (arith, told, walked.1)

  pub looks_from : (limit : ℕ) (ms : List Line) → ms ≡ expired clock ts ls →
      NoneDueBefore limit (take (length ts - i) (drop i ts)) (take (length ms - i) (drop i ms)) → NoneBefore i ms × NoneDueBefore limit ts ms
  looks_from limit ms e later =
      let kept : NoneBefore i ms = subst (λ (x : List Line). NoneBefore i x) (sym e) (none_before_expired i clock ts ls none) in
      let told : NoneDueBefore limit (drop i ts) (drop i ms) = rw (take_rest ts i, take_rest ms i) at later in
      (kept, none_due_from i limit ts ms kept told)

-- One line that changes

same_or_other : (k i : ℕ) → (k ≡ i) ⊎ (k ≢ i)
same_or_other k i = ⊎_elim (λ lt. inr (omega arith)) (λ le. ⊎_elim (λ lt. inr (omega arith)) (λ ge. inl (omega arith)) (cases_lt i k)) (cases_lt k i)

module _ (limit : ℕ) (ts : List Task) (ls : List Line) (i : ℕ) (x : Line) (h : i < length ls) (none : NoneDueBefore limit ts ls) where
  none_due_set : ((r u d : ℕ) → x ≡ Open r u d → limit ≤ r + (get_or ts i no_task).deadline) → NoneDueBefore limit ts (set ls i x)
  none_due_set here k below r u d e =
      ⊎_elim
      (λ same. let own : x ≡ Open r u d = sym (get_or-set_same ls i x Never h) ∙ (ap (λ j. get_or (set ls i x) j Never) (sym same) ∙ e) in
      subst (λ j. limit ≤ r + (get_or ts j no_task).deadline) (sym same) (here r u d own))
      (λ other. none k below r u d (sym (get_or-set_other ls i k x Never other) ∙ e))
      (same_or_other k i)

-- a job with one unit fewer is due when it was
unit_since : (j_since j_left j_draw : ℕ) (b : Bool) (r u d v w : ℕ) → cond b (Closed j_since) (Open j_since v w) ≡ Open r u d → j_since ≡ r
unit_since s l w true r u d v x e = let z : ◌≡◌ {A = ℕ} 0 1 = cc in absurd (omega arith)
unit_since s l w false r u d v x e = cc

none_due_worked : (limit : ℕ) (ts : List Task) (ls : List Line) (v : Turn) → length ts ≤ length ls → CandidateStands ts ls (turn_job v) →
    NoneDueBefore limit ts ls → NoneDueBefore limit ts (worked (turn_said v) ls)
none_due_worked limit ts ls Idle sizes stands none = none
none_due_worked limit ts ls (Waits j) sizes stands none = none
none_due_worked limit ts ls (Runs j) sizes stands none =
    let listed = stands.listed in
    none_due_set limit ts ls j.index (unit_fewer (job_said j)) (omega arith) none
    (λ r u d e.
    let since : j.since ≡ r = unit_since j.since j.left j.draw (leb j.left 1) r u d _ _ e in
    subst (λ s. limit ≤ s + (get_or ts j.index no_task).deadline) since (none j.index listed j.since j.left j.draw stands.line))

-- after the unit of a turn, with the turn's own job as the first
pub worked_looks : (a b : Ahead) (ts : List Task) (ls ws : List Line) (v : Turn) → length ts ≤ length ls → CandidateStands ts ls (turn_job v) →
    BeginAt (length ts) (turn_job v) ls → LooksAhead a ts ls → b.first ≡ open_from (length ts) (turn_job v) → b.due ≡ a.due →
    ws ≡ worked (turn_said v) ls → LooksAhead b ts ws
worked_looks a b ts ls ws v sizes stands begin looks first limit after =
    let none = none_before_worked v (length ts) ls begin.1 in
    let later = none_due_worked a.due ts ls v sizes stands looks.2 in
    let here : NoneBefore b.first (worked (turn_said v) ls) = subst (λ i. NoneBefore i (worked (turn_said v) ls)) (sym first) none in
    let due_here : NoneDueBefore b.due ts (worked (turn_said v) ls) =
    subst (λ i. NoneDueBefore i ts (worked (turn_said v) ls)) (sym limit) later in (
      omega (arith, first, begin.0),
      subst (λ (x : List Line). NoneBefore b.first x) (sym after) here,
      subst (λ (x : List Line). NoneDueBefore b.due ts x) (sym after) due_here,
    )

-- A release

pub opened_looks : (a : Ahead) (ts : List Task) (ls : List Line) (i clock units draw : ℕ) → i < length ts → length ts ≤ length ls → LooksAhead a ts ls →
    (b : Ahead) → b.first ≡ min a.first i → b.due ≡ min a.due (clock + (get_or ts i no_task).deadline) →
    LooksAhead b ts (set ls i (Open clock units draw))
opened_looks a ts ls i clock units draw h sizes looks b first limit = (
  omega (arith, first, looks.0),
  λ k below r u d e.
      let ne : k ≢ i = omega (arith, first) in
      looks.1 k (omega (arith, first)) r u d (sym (get_or-set_other ls i k (Open clock units draw) Never ne) ∙ e),
  none_due_set b.due ts ls i (Open clock units draw) (omega arith)
      (λ k below r u d e. omega (arith, limit, looks.2 k below r u d e))
      (λ r u d e. let since : clock ≡ r = cc in subst (λ s. b.due ≤ s + (get_or ts i no_task).deadline) since (omega (arith, limit))),
)
