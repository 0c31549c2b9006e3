-- Why a start is refused.
use Rattle.std.specs.Prelude.{◌≡◌, ℕ, ◌<◌, ◌≤◌}
use Rattle.model.specs.declared.refusal.Refusal.{Refusal}
use Rattle.model.specs.declared.refusal.Refusal.TheVariants.{PromiseTooLow, LevelOutside}
use Rattle.model.specs.Setups.{Setup}
use Rattle.model.specs.Energy.{LawfulLevel}

-- the first reason that holds
pub data IsNotStarted (n : Setup) (promise level : ℕ) : Refusal → Type 0 where
  short : promise < n.rate → IsNotStarted n promise level PromiseTooLow
  outside : n.rate ≤ promise → (LawfulLevel n level → ⊥) → IsNotStarted n promise level LevelOutside

-- a start is refused for one reason only
abbrev pub OneReason : Type 0
OneReason = (n : Setup) (promise level : ℕ) (a b : Refusal) → IsNotStarted n promise level a → IsNotStarted n promise level b → a ≡ b
