-- A task is allowed or turned away, and for one reason only: the limits are checked one after the other.
use Rattle.std.proofs.Common.{◌≡◌, ℕ, ◌<◌, ◌⊎◌, List, length, sym, refl, ◌∙◌, inl, inr, arith}
use Rattle.model.specs.declared.task.Task.{Task}
use Rattle.model.specs.Tasks.{Sized, Timed, Payable}
use Rattle.model.specs.declared.refusal.Refusal.{Refusal}
use Rattle.model.specs.declared.refusal.Refusal.TheVariants.{WrongLength, OutsideLimits, TooManyTasks, WrongName, DrawAboveRoom}
use Rattle.table.specs.Contents.{Contents, room}
use Rattle.table.specs.Limits.{Allowed, TurnedAway, unnamed, full, outside, unpayable, misnamed}
use Rattle.table.specs.Names.{Short, Graphic}

-- A check with its refusal, and the checks after it.
abbrev Check : Type 0 → Refusal → (Refusal → Type 0) → Refusal → Type 0
Check P r After s = ((P → ⊥) × (s ≡ r)) ⊎ (P × After s)

check_once : (P : Type 0) (r : Refusal) (After : Refusal → Type 0) → ((s u : Refusal) → After s → After u → s ≡ u) →
    (s u : Refusal) → Check P r After s → Check P r After u → s ≡ u
check_once P r After once s u (inl a) (inl b) = a.1 ∙ sym b.1
check_once P r After once s u (inl a) (inr b) = absurd (a.0 b.0)
check_once P r After once s u (inr a) (inl b) = absurd (b.0 a.0)
check_once P r After once s u (inr a) (inr b) = once s u a.1 b.1

check_passed : (P : Type 0) (r : Refusal) (After : Refusal → Type 0) (s : Refusal) → P → Check P r After s → After s
check_passed P r After s p (inl a) = absurd (a.0 p)
check_passed P r After s p (inr a) = a.1

module _ (c : Contents) (t : Task) (name : List ℕ) where
  abbrev Misnamed : Refusal → Type 0
  Misnamed = Check (Graphic name) WrongName (λ s. ⊥)

  abbrev Unpayable : Refusal → Type 0
  Unpayable = Check (Payable (room c) t) DrawAboveRoom Misnamed

  abbrev Outside : Refusal → Type 0
  Outside = Check (Sized t × Timed t) OutsideLimits Unpayable

  abbrev Crowded : Refusal → Type 0
  Crowded = Check (length c.tasks < 16) TooManyTasks Outside

  abbrev Unnamed : Refusal → Type 0
  Unnamed = Check (Short name) WrongLength Crowded

  in_order : (r : Refusal) → TurnedAway c t name r → Unnamed r
  in_order r (unnamed n) = inl (n, refl)
  in_order r (full s m) = inr (s, inl ((λ f. omega arith), refl))
  in_order r (outside s f n) = inr (s, inr (f, inl (n, refl)))
  in_order r (unpayable s f z d p) = inr (s, inr (f, inr ((z, d), inl ((λ q. omega arith), refl))))
  in_order r (misnamed s f z d p n) = inr (s, inr (f, inr ((z, d), inr (p, inl (n, refl)))))

  pub turned_away_once : (r s : Refusal) → TurnedAway c t name r → TurnedAway c t name s → r ≡ s
  turned_away_once r s p q =
      check_once (Short name) WrongLength Crowded
      (check_once (length c.tasks < 16) TooManyTasks Outside
      (check_once (Sized t × Timed t) OutsideLimits Unpayable
      (check_once (Payable (room c) t) DrawAboveRoom Misnamed
      (check_once (Graphic name) WrongName (λ u. ⊥) (λ u v x y. absurd x)))))
      r s (in_order r p) (in_order s q)

  pub allowed_not_turned_away : (r : Refusal) → Allowed c t name → TurnedAway c t name r → ⊥
  allowed_not_turned_away r a p =
      check_passed (Graphic name) WrongName (λ u. ⊥) r a.graphic
      (check_passed (Payable (room c) t) DrawAboveRoom Misnamed r a.payable
      (check_passed (Sized t × Timed t) OutsideLimits Unpayable r (a.sized, a.timed)
      (check_passed (length c.tasks < 16) TooManyTasks Outside r a.few
      (check_passed (Short name) WrongLength Crowded r a.short (in_order r p)))))
