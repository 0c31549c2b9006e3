-- What a run of orders leaves, and what it never marks.
--   driven_asks      the asks are as they were
--   driven_not_9     no mark is 9 where the harvester promises the rate
--   takes_append     takes one after the other
--   driven_more      one order more; driven_here, marks_more, with the amounts of its slots
use Rattle.std.proofs.Common.{◌≡◌, ℕ, zero, suc, ◌+◌, ◌<◌, ◌≤◌, Bool, true, false, cond, ltb, List, [], ◌∷◌, ◌++◌, length, get_or, take, drop, set, Some, None, Option, sym, refl, ap, ◌∙◌, subst, append_assoc, arith}
use Rattle.std.specs.List.{filter}
use Rattle.std.specs.Prelude.{◌==◌, not}
use Rattle.std.proofs.lemmas.List.{take_more_set, drop_more, drop-set-lt}
use Rattle.std.proofs.lemmas.Bool.{le-ltb}
use Rattle.model.specs.declared.refusal.Refusal.{Refusal}
use Rattle.model.specs.declared.refusal.Refusal.TheVariants.{PromiseTooLow, ClockEnd, NoSuchTask, OutsideTask, TooEarly}
use Rattle.model.specs.declared.order.Ask.{Ask}
use Rattle.model.specs.declared.order.Ask.TheVariants.{Release, Slots}
use Rattle.model.specs.declared.order.Order.{Order}
use Rattle.model.specs.declared.state.State.{State}
use Rattle.model.specs.declared.state.Line.TheVariants.{Never}
use Rattle.model.specs.Refusals.{mark_of}
use Rattle.model.specs.Tasks.{no_task}
use Rattle.model.specs.Setups.{Setup}
use Rattle.model.specs.Releases.{clock_end, job_fits, too_early, release_refusal}
use Rattle.model.specs.Orders.{slots_refusal, Slotted, done, denied, Obeyed, marked, Driven, stop, step}
use Rattle.model.specs.Amounts.{ObeyedBy, DrivenBy, step_by}
use Rattle.harvest.specs.Takes.{Takes}
use Rattle.node.specs.Marks.{refusals, Unmarked, no_order}

-- the tests of a release, each with its refusal
tests_not_9 : (a b c d : Bool) →
    mark_of (cond a (cond b (cond c (cond d (Some TooEarly) None) (Some ClockEnd)) (Some OutsideTask)) (Some NoSuchTask)) ≡ 9 → ⊥
tests_not_9 false b c d e = omega arith
tests_not_9 true false c d e = omega arith
tests_not_9 true true false d e = omega arith
tests_not_9 true true true true e = omega arith
tests_not_9 true true true false e = omega arith

module _ (n : Setup) where
  release_not_9 : (s : State) (task units draw : ℕ) → mark_of (release_refusal n s task units draw) ≡ 9 → ⊥
  release_not_9 s zero units draw e = omega arith
  release_not_9 s (suc k) units draw e =
      tests_not_9 (ltb k (length n.tasks)) (job_fits (get_or n.tasks k no_task) units draw) (ltb s.clock clock_end)
      (too_early s.clock (get_or n.tasks k no_task) (get_or s.lines k Never)) e

  late_not_9 : (b : Bool) → mark_of (cond b (Some ClockEnd) None) ≡ 9 → ⊥
  late_not_9 true e = omega arith
  late_not_9 false e = omega arith

module _ (n : Setup) (promise : ℕ) (enough : n.rate ≤ promise) where
  refusal_not_9 : (s : State) (count : ℕ) → mark_of (slots_refusal n promise s count) ≡ 9 → ⊥
  refusal_not_9 s zero e = omega arith
  refusal_not_9 s (suc k) e =
      let late = ltb clock_end (s.clock + suc k) in
      late_not_9 n late
      (subst (λ b. mark_of (cond b (Some PromiseTooLow) (cond late (Some ClockEnd) None)) ≡ 9) (le-ltb promise n.rate enough) e)

  slots_not_9 : (s : State) (count : ℕ) (o : Option Refusal) (t : State) → Slotted n promise count s o t → mark_of o ≡ 9 → ⊥
  slots_not_9 s count o t (done u p run) e = omega arith
  slots_not_9 s count o t (denied r p) e = refusal_not_9 s count (ap mark_of p ∙ e)

  obeyed_not_9 : (s : State) (a : Ask) (o : Option Refusal) (t : State) → Obeyed n promise s a o t → mark_of o ≡ 9 → ⊥
  obeyed_not_9 s (Release task units draw) o t h e = release_not_9 n s task units draw (sym (ap mark_of h.0) ∙ e)
  obeyed_not_9 s (Slots count) o t h e = slots_not_9 s count o t h e

  pub driven_not_9 : (s : State) (os ps : List Order) (t : State) → Driven n promise s os ps t → Unmarked 9 ps
  driven_not_9 s os ps t (stop r) = tt
  driven_not_9 s os ps t (step r v w o x os' ps' h rest) = (obeyed_not_9 r o.ask x v h, driven_not_9 v os' ps' w rest)

pub driven_asks : (n : Setup) (promise : ℕ) (s : State) (os ps : List Order) (t : State) → Driven n promise s os ps t →
    (k : ℕ) → (get_or ps k no_order).ask ≡ (get_or os k no_order).ask
driven_asks n promise s os ps t (stop r) k = refl
driven_asks n promise s os ps t (step r v w o x os' ps' h rest) zero = refl
driven_asks n promise s os ps t (step r v w o x os' ps' h rest) (suc k) = driven_asks n promise v os' ps' w rest k

-- takes one after the other are takes
pub takes_append : {H : Type 0} (coming : H → ℕ) (taken : H → H → Type 0) (xs ys : List ℕ) (h m g : H) → Takes coming taken h xs m →
    Takes coming taken m ys g → Takes coming taken h (xs ++ ys) g
takes_append coming taken [] ys h m g a b = subst (λ x. Takes coming taken x ys g) a b
takes_append coming taken (x ∷ xs) ys h m g a b = (a.0, a.1, a.2, takes_append coming taken xs ys a.1 m g a.3 b)

counted : (done : Bool) (o : Order) (rest : List Order) (k : ℕ) → length rest ≡ k → length (cond (not done) (o ∷ rest) rest) ≡ cond done 0 1 + k
counted true o rest k e = omega (arith, e)
counted false o rest k e = omega (arith, e)

-- the orders whose mark is not 0 are counted as refused
pub refusals_counted : (os : List Order) → length (filter (λ o. not (o.mark == 0)) os) ≡ refusals os
refusals_counted [] = refl
refusals_counted (o ∷ os) = counted (o.mark == 0) o (filter (λ p. not (p.mark == 0)) os) (refusals os) (refusals_counted os)

module _ (os₀ os : List Order) (i m : ℕ) (lt₀ : i < length os₀) (lt : i < length os) (same : drop i os ≡ drop i os₀) where
  order_same : get_or os i no_order ≡ get_or os₀ i no_order
  order_same = let a = drop_more os i no_order lt in let b = drop_more os₀ i no_order lt₀ in cc

  pub rest_more : drop (i + 1) (set os i (marked (get_or os i no_order) m)) ≡ drop (i + 1) os₀
  rest_more =
      let a = drop_more os i no_order lt in
      let b = drop_more os₀ i no_order lt₀ in
      let d = drop-set-lt (i + 1) os i (marked (get_or os i no_order) m) (omega arith) in
      cc

  pub driven_more : (n : Setup) (promise : ℕ) (s₀ s t : State) (x : Option Refusal) → m ≡ mark_of x →
      Obeyed n promise s (get_or os i no_order).ask x t →
      ((ps : List Order) (u : State) → Driven n promise s (drop i os₀) ps u → Driven n promise s₀ os₀ (take i os ++ ps) u) →
      (ps : List Order) (u : State) → Driven n promise t (drop (i + 1) os₀) ps u →
      Driven n promise s₀ os₀ (take (i + 1) (set os i (marked (get_or os i no_order) m)) ++ ps) u
  driven_more n promise s₀ s t x mark obeyed whole ps u rest =
      let o = get_or os i no_order in
      let here = step s t u o x (drop (i + 1) os₀) ps obeyed rest in
      let a : o ∷ drop (i + 1) os₀ ≡ drop i os₀ = ap (λ y. y ∷ drop (i + 1) os₀) order_same ∙ sym (drop_more os₀ i no_order lt₀) in
      let b : marked o (mark_of x) ∷ ps ≡ marked o m ∷ ps = ap (λ k. marked o k ∷ ps) (sym mark) in
      let first = subst (λ y. Driven n promise s y (marked o m ∷ ps) u) a (subst (λ y. Driven n promise s (o ∷ drop (i + 1) os₀) y u) b here) in
      rw (take_more_set, append_assoc) (whole (marked o m ∷ ps) u first)

  pub driven_here : (n : Setup) (promise : ℕ) (s t : State) (x : Option Refusal) (amounts : List ℕ) → m ≡ mark_of x →
      ObeyedBy n promise s (get_or os i no_order).ask x amounts t → (ps : List Order) (later : List ℕ) (u : State) →
      DrivenBy n promise t (drop (i + 1) os₀) ps later u →
      DrivenBy n promise s (drop i os₀) (marked (get_or os i no_order) m ∷ ps) (amounts ++ later) u
  driven_here n promise s t x amounts mark obeyed ps later u rest =
      let o = get_or os i no_order in
      let here = step_by s t u o x (drop (i + 1) os₀) ps amounts later obeyed rest in
      let a : o ∷ drop (i + 1) os₀ ≡ drop i os₀ = ap (λ y. y ∷ drop (i + 1) os₀) order_same ∙ sym (drop_more os₀ i no_order lt₀) in
      let b : marked o (mark_of x) ∷ ps ≡ marked o m ∷ ps = ap (λ k. marked o k ∷ ps) (sym mark) in
      subst (λ y. DrivenBy n promise s y (marked o m ∷ ps) (amounts ++ later) u) a
      (subst (λ y. DrivenBy n promise s (o ∷ drop (i + 1) os₀) y (amounts ++ later) u) b here)

  -- the marks so far with one more before the rest
  pub marks_more : (ps : List Order) →
      take i os ++ (marked (get_or os i no_order) m ∷ ps) ≡ take (i + 1) (set os i (marked (get_or os i no_order) m)) ++ ps
  marks_more ps = rw (take_more_set, append_assoc)
