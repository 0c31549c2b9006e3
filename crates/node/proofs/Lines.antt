-- Steps of a walk over the lines of a node beside its tasks.
--   candidate_here    the walk for the most urgent open job ends at an open line
--   candidate_next    and passes one that is not open
--   candidate_from    it may start where the open jobs begin
--   candidate_end     past the last task or line there is none
--   candidate_beside  lines behind those of the tasks say nothing
--   none_before_worked   the unit of a turn opens no job before the turn's own
--   Walked            a walk that abandons each job that is due, up to a line
--   walked_by, walked_due   one line more, kept or shut
--   walked_from       a walk may start where the open jobs begin
use Rattle.std.proofs.Common.{◌≡◌, ℕ, zero, suc, ◌+◌, ◌<◌, ◌≤◌, true, false, cond, ◌≢◌, List, ◌∷◌, ◌++◌, length, min, get_or, take, drop, set, Some, None, ⊎_elim, [], sym, refl, ap, ◌∙◌, subst, append_assoc, add-one, arith, get_or-set_other}
use Rattle.std.proofs.lemmas.List.{take_more_set, drop_more, drop-set-lt, drop_all, set-get_or}
use Rattle.std.proofs.lemmas.Bool.{cases_lt}
use Rattle.model.specs.declared.task.Task.{Task}
use Rattle.model.specs.declared.state.Line.{Line}
use Rattle.model.specs.declared.state.Line.TheVariants.{Never, Closed, Open}
use Rattle.model.specs.Tasks.{no_task}
use Rattle.model.specs.Slots.{candidate, unit_fewer, worked, due, shut, expired, abandoned}
use Rattle.node.specs.declared.turn.Turn.{Turn}
use Rattle.node.specs.declared.turn.Turn.TheVariants.{Idle, Waits, Runs}
use Rattle.node.specs.Turns.{job_said, turn_said, open_from, turn_job}
use Rattle.node.specs.Ahead.{NoneBefore}

candidate_passes : (i : ℕ) (t : Task) (ts : List Task) (l : Line) (ls : List Line) → ((r u d : ℕ) → l ≡ Open r u d → ⊥) →
    candidate i (t ∷ ts) (l ∷ ls) ≡ candidate (suc i) ts ls
candidate_passes i t ts Never ls not = refl
candidate_passes i t ts (Closed r) ls not = refl
candidate_passes i t ts (Open r u d) ls not = absurd (not r u d refl)

module _ (ts : List Task) (ls : List Line) (i number : ℕ) (h : i < length ts) (k : i < length ls) where
  pub candidate_here : (r u d : ℕ) → get_or ls i Never ≡ Open r u d →
      candidate number (drop i ts) (drop i ls) ≡ Some (record { index = number; task = get_or ts i no_task; since = r; left = u; draw = d })
  candidate_here r u d e = rw (drop_more ts i no_task h, drop_more ls i Never k, e)

  pub candidate_next : ((r u d : ℕ) → get_or ls i Never ≡ Open r u d → ⊥) →
      candidate number (drop i ts) (drop i ls) ≡ candidate (suc number) (drop (i + 1) ts) (drop (i + 1) ls)
  candidate_next not =
      rw (drop_more ts i no_task h, drop_more ls i Never k)
      (candidate_passes number (get_or ts i no_task) (drop (i + 1) ts) (get_or ls i Never) (drop (i + 1) ls) not)

-- where no job is open below i, the search may start there
pub candidate_from : (ts : List Task) (ls : List Line) (i : ℕ) → i ≤ length ts → i ≤ length ls → NoneBefore i ls →
    candidate 0 ts ls ≡ candidate i (drop i ts) (drop i ls)
candidate_from ts ls zero h k none = refl
candidate_from ts ls (suc i) h k none =
    let before = candidate_from ts ls i (omega arith) (omega arith) (λ j below. none j (omega arith)) in
    subst (λ j. candidate 0 ts ls ≡ candidate (suc i) (drop j ts) (drop j ls)) (add-one i)
    (before ∙ candidate_next ts ls i i (omega arith) (omega arith) (none i (omega arith)))

-- only as many lines as tasks count
pub candidate_beside : (n number : ℕ) (ts : List Task) (ls : List Line) → length ts ≤ n → candidate number ts (take n ls) ≡ candidate number ts ls
candidate_beside n number [] ls h = refl
candidate_beside zero number (t ∷ ts) ls h = absurd (omega arith)
candidate_beside (suc n) number (t ∷ ts) [] h = refl
candidate_beside (suc n) number (t ∷ ts) (Never ∷ ls) h = candidate_beside n (suc number) ts ls (omega arith)
candidate_beside (suc n) number (t ∷ ts) (Closed r ∷ ls) h = candidate_beside n (suc number) ts ls (omega arith)
candidate_beside (suc n) number (t ∷ ts) (Open r u d ∷ ls) h = refl

no_line : (number : ℕ) (ts : List Task) → candidate number ts [] ≡ None
no_line number [] = refl
no_line number (t ∷ ts) = refl

pub candidate_end : (number : ℕ) (ts : List Task) (ls : List Line) (i : ℕ) → i ≡ min (length ts) (length ls) →
    candidate number (drop i ts) (drop i ls) ≡ None
candidate_end number ts ls i h =
    ⊎_elim
    (λ lt. rw (drop_all i ls (omega (arith, h))) (no_line number (drop i ts)))
    (λ le. rw (drop_all i ts (omega (arith, h))))
    (cases_lt (length ls) (length ts))

-- a line at i changes nothing below it
none_before_set : (i : ℕ) (ls : List Line) (x : Line) → NoneBefore i ls → NoneBefore i (set ls i x)
none_before_set i ls x none k below r u d e = let ne : k ≢ i = omega arith in none k below r u d (sym (get_or-set_other ls i k x Never ne) ∙ e)

-- the unit of a turn opens no job before the turn's own
pub none_before_worked : (v : Turn) (count : ℕ) (ls : List Line) → NoneBefore (open_from count (turn_job v)) ls →
    NoneBefore (open_from count (turn_job v)) (worked (turn_said v) ls)
none_before_worked Idle count ls none = none
none_before_worked (Waits j) count ls none = none
none_before_worked (Runs j) count ls none = none_before_set j.index ls (unit_fewer (job_said j)) none

-- a line that is not open is not due
pub shut_not_due : (clock : ℕ) (t : Task) (l : Line) → ((r u d : ℕ) → l ≡ Open r u d → ⊥) → due clock t l ≡ false
shut_not_due clock t Never not = refl
shut_not_due clock t (Closed r) not = refl
shut_not_due clock t (Open r u d) not = absurd (not r u d refl)

-- the lines below i are done and counted, and the others are as they were
abbrev pub Walked : ℕ → List Task → List Line → List Line → ℕ → ℕ → Type 0
Walked clock ts before ls i count =
    (expired clock ts before ≡ take i ls ++ expired clock (drop i ts) (drop i ls))
    × (abandoned clock ts before ≡ count + abandoned clock (drop i ts) (drop i ls))
    × (count ≤ i)

module _ (clock : ℕ) (ts : List Task) (ls : List Line) (i : ℕ) (h : i < length ts) (k : i < length ls) where
  expired_more : (x : Line) → x ≡ cond (due clock (get_or ts i no_task) (get_or ls i Never)) (shut (get_or ls i Never)) (get_or ls i Never) →
      take i ls ++ expired clock (drop i ts) (drop i ls)
      ≡ take (i + 1) (set ls i x) ++ expired clock (drop (i + 1) ts) (drop (i + 1) (set ls i x))
  expired_more x e =
      let a : i < i + 1 = omega arith in
      rw (take_more_set, drop-set-lt, append_assoc, drop_more ts i no_task h, drop_more ls i Never k, e)

  expired_same : due clock (get_or ts i no_task) (get_or ls i Never) ≡ false →
      take i ls ++ expired clock (drop i ts) (drop i ls) ≡ take (i + 1) ls ++ expired clock (drop (i + 1) ts) (drop (i + 1) ls)
  expired_same e =
      expired_more (get_or ls i Never) (rw e)
      ∙ ap (λ (r : List Line). take (i + 1) r ++ expired clock (drop (i + 1) ts) (drop (i + 1) r)) (set-get_or ls i Never)

  abandoned_more : abandoned clock (drop i ts) (drop i ls)
      ≡ cond (due clock (get_or ts i no_task) (get_or ls i Never)) 1 0 + abandoned clock (drop (i + 1) ts) (drop (i + 1) ls)
  abandoned_more = rw (drop_more ts i no_task h, drop_more ls i Never k)

  module _ (before : List Line) (count : ℕ) (w : Walked clock ts before ls i count) where
    pub walked_by : due clock (get_or ts i no_task) (get_or ls i Never) ≡ false → Walked clock ts before ls (i + 1) count
    walked_by e =
        let counted : abandoned clock (drop i ts) (drop i ls) ≡ 0 + abandoned clock (drop (i + 1) ts) (drop (i + 1) ls) = rw e at abandoned_more in
        (w.0 ∙ expired_same e, omega (arith, w.1, counted), omega (arith, w.2))

    pub walked_due : (x : Line) → due clock (get_or ts i no_task) (get_or ls i Never) ≡ true → x ≡ shut (get_or ls i Never) →
        Walked clock ts before (set ls i x) (i + 1) (count + 1)
    walked_due x e p =
        let counted : abandoned clock (drop i ts) (drop i ls) ≡ 1 + abandoned clock (drop (i + 1) ts) (drop (i + 1) ls) = rw e at abandoned_more in
        let rest = ap (λ r. abandoned clock (drop (i + 1) ts) r) (drop-set-lt (i + 1) ls i x (omega arith)) in
        (w.0 ∙ expired_more x (rw e p), omega (arith, w.1, counted, rest), omega (arith, w.2))

-- where no job is open below i, nothing is to be done there
pub walked_from : (clock : ℕ) (ts : List Task) (ls : List Line) (i : ℕ) → i ≤ length ts → i ≤ length ls → NoneBefore i ls → Walked clock ts ls ls i 0
walked_from clock ts ls zero h k none = (refl, omega arith, omega arith)
walked_from clock ts ls (suc i) h k none =
    let before = walked_from clock ts ls i (omega arith) (omega arith) (λ j below. none j (omega arith)) in
    let kept = shut_not_due clock (get_or ts i no_task) (get_or ls i Never) (none i (omega arith)) in
    subst (λ j. Walked clock ts ls ls j 0) (add-one i) (walked_by clock ts ls i (omega arith) (omega arith) ls 0 before kept)

-- the same for lines and a count that are known to be these
pub walked_as : (clock : ℕ) (ts : List Task) (before : List Line) (i : ℕ) {ls ms : List Line} {a b : ℕ} → ms ≡ ls → b ≡ a →
    Walked clock ts before ls i a → Walked clock ts before ms i b
walked_as clock ts before i {ls} {ms} {a} {b} p q w =
    subst (λ (x : List Line). Walked clock ts before x i b) (sym p) (subst (λ (x : ℕ). Walked clock ts before ls i x) (sym q) w)
