-- A file loads as one outcome only.
use Rattle.std.proofs.Common.{◌≡◌, ℕ, ◌⊎◌, List, sym, refl, ap, ◌∙◌, subst, inl, inr}
use Rattle.model.specs.declared.refusal.Refusal.{Refusal}
use Rattle.model.specs.declared.refusal.Refusal.TheVariants.{WrongPlace, OutsideLimits}
use Rattle.table.specs.Contents.{Contents, bare, extended}
use Rattle.table.specs.Layout.{node, task}
use Rattle.table.specs.Laws.{OneLoad}
use Rattle.table.specs.Limits.{Allowed, TurnedAway, LawfulNode}
use Rattle.table.specs.Loading.{Loaded, full, refused, Tasks, stop, broken, second, unfit, more, Loads, empty, faulty, headless, outside, begins}
use Rattle.table.specs.Reading.{Step, step_at, end, got, bad}
use Rattle.table.proofs.Checks.{turned_away_once, allowed_not_turned_away}

-- What the tasks from a place on load as, by the step at that place.
abbrev Onward : List ℕ → Contents → Loaded → Step → Type 0
Onward file c res end = res ≡ full c
Onward file c res (bad r p) = res ≡ refused r p
Onward file c res (got (node rate floor top) p to) = res ≡ refused WrongPlace p
Onward file c res (got (task t name) p to) =
    (Allowed c t name × Tasks file to (extended c t name) res) ⊎ ((r : Refusal) × (TurnedAway c t name r × (res ≡ refused r p)))

onward : (file : List ℕ) (at : ℕ) (c : Contents) (res : Loaded) → Tasks file at c res → Onward file c res (step_at file at)
onward file at c res (stop _ _ e) = subst (Onward file c res) (sym e) refl
onward file at c res (broken _ _ r p e) = subst (Onward file c res) (sym e) refl
onward file at c res (second _ _ rate floor top p to e) = subst (Onward file c res) (sym e) refl
onward file at c res (unfit _ _ t name p to r e w) = subst (Onward file c res) (sym e) (inr (r, (w, refl)))
onward file at c res (more _ _ t name p to _ e a go) = subst (Onward file c res) (sym e) (inl (a, go))

refused_alike : (r s : Refusal) (p : ℕ) (b : Loaded) → r ≡ s → b ≡ refused s p → refused r p ≡ b
refused_alike r s p b e f = ap (λ x. refused x p) e ∙ sym f

one_tasks : (file : List ℕ) (at : ℕ) (c : Contents) (a b : Loaded) → Tasks file at c a → Tasks file at c b → a ≡ b
one_tasks file at c a b (stop _ _ e) q = sym (subst (Onward file c b) e (onward file at c b q))
one_tasks file at c a b (broken _ _ r p e) q = sym (subst (Onward file c b) e (onward file at c b q))
one_tasks file at c a b (second _ _ rate floor top p to e) q = sym (subst (Onward file c b) e (onward file at c b q))
one_tasks file at c a b (unfit _ _ t name p to r e w) q =
    elim (subst (Onward file c b) e (onward file at c b q)) [
      | inl x ↦ absurd (allowed_not_turned_away c t name r x.0 w)
      | inr y ↦ refused_alike r y.0 p b (turned_away_once c t name r y.0 w y.1.0) y.1.1
    ]
one_tasks file at c a b (more _ _ t name p to _ e al go) q =
    elim (subst (Onward file c b) e (onward file at c b q)) [
      | inl x ↦ one_tasks file to (extended c t name) a b go x.1
      | inr y ↦ absurd (allowed_not_turned_away c t name y.0 al y.1.0)
    ]

-- What a whole file loads as, by the step at its front.
abbrev Opening : List ℕ → Loaded → Step → Type 0
Opening file res end = res ≡ refused WrongPlace 0
Opening file res (bad r p) = res ≡ refused r p
Opening file res (got (task t name) p to) = res ≡ refused WrongPlace 0
Opening file res (got (node rate floor top) p to) =
    (LawfulNode rate floor top × Tasks file to (bare rate floor top) res) ⊎ ((LawfulNode rate floor top → ⊥) × (res ≡ refused OutsideLimits 0))

opening : (file : List ℕ) (res : Loaded) → Loads file res → Opening file res (step_at file 0)
opening file res (empty e) = subst (Opening file res) (sym e) refl
opening file res (faulty r p e) = subst (Opening file res) (sym e) refl
opening file res (headless t name p to e) = subst (Opening file res) (sym e) refl
opening file res (outside rate floor top p to e n) = subst (Opening file res) (sym e) (inr (n, refl))
opening file res (begins rate floor top p to _ e l go) = subst (Opening file res) (sym e) (inl (l, go))

pub one_load : OneLoad
one_load file a b (empty e) q = sym (subst (Opening file b) e (opening file b q))
one_load file a b (faulty r p e) q = sym (subst (Opening file b) e (opening file b q))
one_load file a b (headless t name p to e) q = sym (subst (Opening file b) e (opening file b q))
one_load file a b (outside rate floor top p to e n) q =
    elim (subst (Opening file b) e (opening file b q)) [ inl x ↦ absurd (n x.0) | inr y ↦ sym y.1 ]
one_load file a b (begins rate floor top p to _ e l go) q =
    elim (subst (Opening file b) e (opening file b q)) [
      | inl x ↦ one_tasks file to (bare rate floor top) a b go x.1
      | inr y ↦ absurd (y.0 l)
    ]

-- So whatever a file loads as is what it is known to load as.
pub no_other : (file : List ℕ) (res : Loaded) → Loads file res → (other : Loaded) → Loads file other → other ≡ res
no_other file res p other q = one_load file other res q p
