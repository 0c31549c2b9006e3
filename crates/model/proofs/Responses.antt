-- Where the open jobs of a task are always younger than a bound, no response of the task is longer.
use Rattle.std.proofs.Common.{◌≡◌, ℕ, zero, suc, ◌+◌, ◌-◌, ◌<◌, ◌≤◌, leb, List, [], ◌∷◌, get_or, set, replicate, Some, None, Option, refl, subst, arith}
use Rattle.std.proofs.lemmas.Bool.{cond_both}
use Rattle.model.specs.declared.refusal.Refusal.{Refusal}
use Rattle.model.specs.declared.state.Line.TheVariants.{Never}
use Rattle.model.specs.declared.state.State.{State}
use Rattle.model.specs.Setups.{Setup, LawfulSetup}
use Rattle.model.specs.Slots.{Job, Turn, turn_of, longer, noted}
use Rattle.model.specs.Releases.{refusal_at, opened_if, release_step}
use Rattle.model.specs.OnTime.{AtMost}
use Rattle.model.specs.HistoryLaws.{MostUrgent}
use Rattle.model.proofs.Rule.{Reached, begun, release, slot}
use Rattle.model.proofs.Sound.{Young}
use Rattle.model.proofs.Turns.{TurnSays, turn_says}

module _ (bound : ℕ) where
  none_at_most : (m i : ℕ) → AtMost bound (get_or (replicate m None) i None)
  none_at_most zero i = tt
  none_at_most (suc m) zero = tt
  none_at_most (suc m) (suc i) = none_at_most m i

  longer_at_most : (o : Option ℕ) (r : ℕ) → AtMost bound o → r ≤ bound → AtMost bound (longer o r)
  longer_at_most None r old le = le
  longer_at_most (Some q) r old le = omega arith

  set_at_most : (rs : List (Option ℕ)) (i index : ℕ) (o : Option ℕ) →
      AtMost bound (get_or rs index None) → (index ≡ i → AtMost bound o) → AtMost bound (get_or (set rs i o) index None)
  set_at_most [] i index o old one = old
  set_at_most (r ∷ rs) zero zero o old one = one refl
  set_at_most (r ∷ rs) zero (suc index) o old one = old
  set_at_most (r ∷ rs) (suc i) zero o old one = old
  set_at_most (r ∷ rs) (suc i) (suc index) o old one = set_at_most rs i index o old (λ e. one (omega arith))

  module _ (n : Setup) (index : ℕ) where
    -- a job that ends in a slot was open for less than the bound before it
    response_short : (s : State) (j : Job) → MostUrgent n s j → Young s.clock bound (get_or s.lines j.index Never) →
        s.clock + 1 - j.since ≤ bound
    response_short s j first young =
        let recent : s.clock < j.since + bound = subst (λ l. Young s.clock bound l) first.line young in omega arith

    noted_at_most : (s : State) (v : Turn) → TurnSays n s v → Young s.clock bound (get_or s.lines index Never) →
        AtMost bound (get_or s.longest index None) → AtMost bound (get_or (noted v s.clock s.longest) index None)
    noted_at_most s Turn.idle says young old = old
    noted_at_most s (Turn.waits j) says young old = old
    noted_at_most s (Turn.runs j) says young old =
        let response = s.clock + 1 - j.since in
        let short : index ≡ j.index → response ≤ bound
        = λ e. response_short s j says.0 (subst (λ i. Young s.clock bound (get_or s.lines i Never)) e young) in
        let longest : index ≡ j.index → AtMost bound (longer (get_or s.longest j.index None) response)
        = λ e. longer_at_most _ response (subst (λ i. AtMost bound (get_or s.longest i None)) e old) (short e) in
        cond_both (leb j.left 1) _ s.longest (λ rs. AtMost bound (get_or rs index None))
        (λ _. set_at_most s.longest j.index index _ old longest) (λ _. old)

    opened_at_most : (s : State) (i units draw : ℕ) (o : Option Refusal) →
        AtMost bound (get_or s.longest index None) → AtMost bound (get_or (opened_if o s i units draw).longest index None)
    opened_at_most s i units draw None old = old
    opened_at_most s i units draw (Some r) old = old

    release_at_most : (s : State) (task units draw : ℕ) →
        AtMost bound (get_or s.longest index None) → AtMost bound (get_or (release_step n s task units draw).longest index None)
    release_at_most s zero units draw old = old
    release_at_most s (suc i) units draw old = opened_at_most s i units draw (refusal_at n s i units draw) old

pub responses_within :
    (n : Setup) → LawfulSetup n → (index bound : ℕ) →
    ((promise : ℕ) (s : State) → Reached n promise s → Young s.clock bound (get_or s.lines index Never)) →
    (promise : ℕ) (s : State) → Reached n promise s → AtMost bound (get_or s.longest index None)
responses_within n lawful index bound young promise s (begun level law a b) = none_at_most bound 16 index
responses_within n lawful index bound young promise s (release x task units draw r) =
    release_at_most bound n index x task units draw (responses_within n lawful index bound young promise x r)
responses_within n lawful index bound young promise s (slot x harvest law room r) =
    noted_at_most bound n index x (turn_of n x) (turn_says n x) (young promise x r) (responses_within n lawful index bound young promise x r)
