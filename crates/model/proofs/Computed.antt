-- Bounds of a table that is written out: one test, which is computed, over every window below the bound.
use Rattle.std.proofs.Common.{◌≡◌, ℕ, zero, suc, ◌<◌, Bool, true, ◌&&◌, ltb, leb, Some, None, Option, refl, arith}
use Rattle.std.proofs.lemmas.Bool.{and_parts, leb-true}
use Rattle.std.proofs.lemmas.Bool.Decides.{Decides-ltb, Decides-below_and}
use Rattle.model.specs.Windows.{LeastWindow}

-- the curve exceeds every window below n
abbrev pub exceeds_below : (ℕ → ℕ) → ℕ → Bool
exceeds_below curve zero = true
exceeds_below curve (suc n) = ltb n (curve n) && exceeds_below curve n

pub exceeds_below_tells : (curve : ℕ → ℕ) (n : ℕ) → exceeds_below curve n ≡ true → (v : ℕ) → v < n → v < curve v
exceeds_below_tells curve n passed =
    (Decides-below_and (λ v. ltb v (curve v)) (λ v. v < curve v) (exceeds_below curve) (λ v. Decides-ltb v (curve v)) refl (λ _. refl) n).0 passed

-- whether a bound is the least window up to a deadline
abbrev pub is_least : (ℕ → ℕ) → ℕ → Option ℕ → Bool
is_least curve deadline (Some w) = leb 1 w && (leb w deadline && (leb (curve w) w && exceeds_below curve w))
is_least curve deadline None = exceeds_below curve (suc deadline)

pub is_least_tells : (curve : ℕ → ℕ) (deadline : ℕ) (bound : Option ℕ) → is_least curve deadline bound ≡ true → LeastWindow curve deadline bound
is_least_tells curve deadline (Some w) passed =
    let a = and_parts (leb 1 w) (leb w deadline && (leb (curve w) w && exceeds_below curve w)) passed in
    let b = and_parts (leb w deadline) (leb (curve w) w && exceeds_below curve w) a.1 in
    let c = and_parts (leb (curve w) w) (exceeds_below curve w) b.1 in
    (leb-true 1 w a.0, leb-true w deadline b.0, leb-true (curve w) w c.0, λ v _ l. exceeds_below_tells curve w c.1 v l)
is_least_tells curve deadline None passed = λ v _ l. exceeds_below_tells curve (suc deadline) passed v (omega arith)
