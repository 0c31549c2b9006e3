use Rattle.std.proofs.Common.{◌≡◌, ◌↔◌, ℕ, zero, suc, ◌+◌, ◌-◌, ◌<◌, ◌≤◌, Bool, List, ◌++◌, length, get_or, take, drop, replicate, is_some, IsTrue, IsSome, All, Decides, refl, sym, subst, arith, length-take, rules}
use Rattle.std.proofs.Math.Seq.{take-append_seam}
use Rattle.std.proofs.lemmas.List.{get_or-append-add, get_or-drop}
use Rattle.std.proofs.lemmas.List.Elements.{All-get_or, All-from_get_or}
use Rattle.model.specs.declared.task.Task.{Task}
use Rattle.model.specs.Windows.{Fits}
use Rattle.model.proofs.Searches.{presence_decides}
use Rattle.analysis.specs.declared.verdict.TaskBounds.{TaskBounds}
use Rattle.analysis.specs.Verdicts.{AllBounds, BoundsOf, VerdictOf, no_bounds}
use Rattle.analysis.proofs.assess.assess_tasks.Goals as goal

abbrev Safe : TaskBounds → Type 0
Safe b = IsSome b.safe.window

-- the bounds of all tasks, and whether each has a safe one, are a verdict whatever stands behind them
verdict_of : (gain : ℕ) (ts : List Task) (bs rest : List TaskBounds) (all : Bool) → length bs ≡ length ts
    → ((k : ℕ) → k < length ts → BoundsOf gain ts k (get_or bs k no_bounds))
    → IsTrue all ↔ All Safe (take (length ts) (bs ++ rest))
    → VerdictOf gain ts (record { bounds = bs ++ rest; count = length ts; accepted = all })
verdict_of gain ts bs rest all count each told =
    let front : take (length ts) (bs ++ rest) ≡ bs = subst (λ n. take n (bs ++ rest) ≡ bs) count (take-append_seam bs rest) in
    let safe : IsTrue all ↔ All Safe bs = subst (λ x. IsTrue all ↔ All Safe x) front told in
    let here : (k : ℕ) → k < length ts → Decides (is_some (get_or bs k no_bounds).safe.window) ((w : ℕ) × Fits gain ts k w) =
    λ k h. presence_decides gain ts k _ (each k h).safe.0 in
    record {
      count = refl;
      bounds = subst (AllBounds gain ts) (sym front) (record { count = count; each = each });
      accepted = (
        (λ yes k h. (here k h).0 (All-get_or Safe bs k no_bounds (omega (arith, h, count)) (safe.0 yes))),
        (λ fits. safe.1 (All-from_get_or Safe bs no_bounds (λ k h. let at : k < length ts = omega (arith, h, count) in (here k at).1 (fits k at)))),
      );
    }

pub returns-clause-verdict : goal.returns-clause-verdict
returns-clause-verdict c =
    let ts = c.args.tasks.now in
    let bs = c.loop-index.place-items in
    let count : length bs ≡ length ts = omega (arith, c.requires.lawful.few, c.loop-index.auto.place-items, length-take {A = TaskBounds}) in
    verdict_of c.args.rate ts bs _ c.all_safe-accepted.result count (λ k h. c.loop-index.invariant k (omega arith)) c.all_safe-accepted.ensures

none_anywhere : (n k : ℕ) → get_or (replicate n no_bounds) k no_bounds ≡ no_bounds
none_anywhere zero k = refl
none_anywhere (suc n) zero = refl
none_anywhere (suc n) (suc k) = none_anywhere n k

-- behind the first bounds stand those that the places began with
none_behind : (bs : List TaskBounds) (n k : ℕ) (d : TaskBounds) → d ≡ no_bounds → length bs ≡ n → n ≤ k
    → get_or (bs ++ drop n (replicate 16 d)) k no_bounds ≡ no_bounds
none_behind bs n k d none count h =
    let at : k ≡ length bs + (k - length bs) = omega arith in
    rw (none, at, get_or-append-add, get_or-drop) (none_anywhere 16 _)

pub returns-clause-rest : goal.returns-clause-rest
returns-clause-rest c k h =
    let count : length c.loop-index.place-items ≡ length c.args.tasks.now = omega (arith, c.requires.lawful.few, c.loop-index.auto.place-items, length-take {A = TaskBounds}) in
    none_behind c.loop-index.place-items _ k _ (search rules) count h
