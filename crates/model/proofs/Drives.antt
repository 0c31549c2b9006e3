-- Orders, and the amounts that their slots brought, settle the marks and the state.
--   run_one, slots_one, order_one   so it is for slots in turn, for slots by number, and for one order
--   one_drive                       and for a list of orders
use Rattle.std.proofs.Common.{◌≡◌, ℕ, List, [], ◌∷◌, ◌++◌, length, Option, sym, refl, ap, ◌∙◌, subst, arith}
use Rattle.model.specs.declared.refusal.Refusal.{Refusal}
use Rattle.model.specs.declared.order.Ask.{Ask}
use Rattle.model.specs.declared.order.Ask.TheVariants.{Release, Slots}
use Rattle.model.specs.declared.order.Order.{Order}
use Rattle.model.specs.declared.state.State.{State}
use Rattle.model.specs.Refusals.{mark_of}
use Rattle.model.specs.Setups.{Setup}
use Rattle.model.specs.Slots.{slot_step}
use Rattle.model.specs.Orders.{marked}
use Rattle.model.specs.Amounts.{RunBy, over_by, next_by, SlottedBy, done_by, denied_by, ObeyedBy, DrivenBy, stop_by, step_by}
use Rattle.model.specs.ScopeLaws.{OneDrive}

-- equal lists in two parts have equal parts, if the first ones are of one length
same_parts : (a b l m : List ℕ) → a ++ l ≡ b ++ m → length a ≡ length b → (a ≡ b) × (l ≡ m)
same_parts [] [] l m e n = (refl, e)
same_parts [] (y ∷ b) l m e n = absurd (omega arith)
same_parts (x ∷ a) [] l m e n = absurd (omega arith)
same_parts (x ∷ a) (y ∷ b) l m e n =
    let first : x ≡ y = cc in
    let rest : a ++ l ≡ b ++ m = cc in
    let parts = same_parts a b l m rest (omega arith) in
    (ap (λ z. z ∷ a) first ∙ ap (λ z. y ∷ z) parts.0, parts.1)

-- the outcome, the amounts and the state of one order, and the amounts of those behind it
pub record Same (o p : Option Refusal) (a b l m : List ℕ) (t u : State) : Type 0 where
  pub outcome : o ≡ p
  pub amounts : a ≡ b
  pub later : l ≡ m
  pub state : t ≡ u

module _ (n : Setup) (promise : ℕ) where
  run_one : (s t u : State) (a b : List ℕ) → RunBy n promise s a t → RunBy n promise s b u → a ≡ b → t ≡ u
  run_one s t u a b (over_by x) (over_by y) e = refl
  run_one s t u a b (over_by x) (next_by y h xs v law rest) e = let z : ◌≡◌ {A = ℕ} 0 1 = cc in absurd (omega arith)
  run_one s t u a b (next_by y h xs v law rest) (over_by x) e = let z : ◌≡◌ {A = ℕ} 0 1 = cc in absurd (omega arith)
  run_one s t u a b (next_by x h xs v law rest) (next_by y k ys w law' rest') e =
      let first : k ≡ h = cc in
      let tail : xs ≡ ys = cc in
      run_one (slot_step n x h) v w xs ys rest (subst (λ z. RunBy n promise (slot_step n x z) ys w) first rest') tail

  slots_one : (count : ℕ) (s t u : State) (o p : Option Refusal) (a b l m : List ℕ) →
      SlottedBy n promise count s o a t → SlottedBy n promise count s p b u → a ++ l ≡ b ++ m → Same o p a b l m t u
  slots_one count s t u o p a b l m (done_by xs v x many run) (done_by ys w y many' run') e =
      let parts = same_parts xs ys l m e (omega arith) in
      record { outcome = refl; amounts = parts.0; later = parts.1; state = run_one s v w xs ys run run' parts.0 }
  slots_one count s t u o p a b l m (done_by xs v x many run) (denied_by r y) e = let z : ◌≡◌ {A = ℕ} 0 1 = cc in absurd (omega arith)
  slots_one count s t u o p a b l m (denied_by r y) (done_by xs v x many run) e = let z : ◌≡◌ {A = ℕ} 0 1 = cc in absurd (omega arith)
  slots_one count s t u o p a b l m (denied_by r x) (denied_by q y) e = record { outcome = sym x ∙ y; amounts = refl; later = e; state = refl }

  order_one : (s t u : State) (ask : Ask) (o p : Option Refusal) (a b l m : List ℕ) →
      ObeyedBy n promise s ask o a t → ObeyedBy n promise s ask p b u → a ++ l ≡ b ++ m → Same o p a b l m t u
  order_one s t u (Release task units draw) o p a b l m f g e =
      let none = f.1 ∙ sym g.1 in
      record { outcome = f.0 ∙ sym g.0; amounts = none; later = (same_parts a b l m e (ap length none)).1; state = f.2 ∙ sym g.2 }
  order_one s t u (Slots count) o p a b l m f g e = slots_one count s t u o p a b l m f g e

  drives_one : (s t u : State) (os ps qs : List Order) (a b : List ℕ) →
      DrivenBy n promise s os ps a t → DrivenBy n promise s os qs b u → a ≡ b → (ps ≡ qs) × (t ≡ u)
  drives_one s t u os ps qs a b (stop_by x) (stop_by y) e = (refl, refl)
  drives_one s t u os ps qs a b (step_by x v t' o r os' ps' xs l f rest) (step_by y w u' o' q os'' qs' ys m g rest') e =
      let same = order_one x v w o.ask r q xs ys l m f g e in
      let both = drives_one v t' u' os' ps' qs' l m rest (subst (λ z. DrivenBy n promise z os' qs' m u') (sym same.state) rest') same.later in
      (ap (λ z. marked o (mark_of z) ∷ ps') same.outcome ∙ ap (λ z. marked o (mark_of q) ∷ z) both.0, both.1)

pub one_drive : OneDrive
one_drive n promise s t u os ps qs amounts f g = drives_one n promise s t u os ps qs amounts amounts f g refl
