-- From what the reader said to the step of the file that a load goes by.
use Rattle.std.proofs.Common.{◌≡◌, ℕ, List, Some, None, Ok, Err, Option, Result, MatchResult, Bor, sym, refl, ap, ◌∙◌, subst}
use Rattle.std.specs.Result.{IsErrAnd}
use Rattle.model.specs.declared.task.Task.{Task}
use Rattle.model.specs.declared.refusal.Refusal.TheVariants.{WrongPlace}
use Rattle.table.specs.declared.read.Placed.{Placed}
use Rattle.table.specs.declared.read.Record.{Record}
use Rattle.table.specs.declared.read.Record.TheVariants as records
use Rattle.table.specs.Contents.{Contents}
use Rattle.table.specs.Loading.{Loaded, Tasks, Loads, refused, headless}
use Rattle.table.specs.Means.{step_said, entry_of}
use Rattle.table.specs.Reading.{Step, step_at, end, got}

pub end_seen : (f : List ℕ) (at to : ℕ) {o : Option Placed} → step_said (Ok o) to ≡ step_at f at → o ≡ None → step_at f at ≡ end
end_seen f at to e i = sym e ∙ ap (λ x. step_said (Ok x) to) i

pub record_seen : (f : List ℕ) (at to : ℕ) {o : Option Placed} {p : Placed} {r : Record} → step_said (Ok o) to ≡ step_at f at →
    o ≡ Some p → p.«record» ≡ r → step_at f at ≡ got (entry_of r) p.at to
record_seen f at to {p = p} e i k = sym e ∙ ap (λ x. step_said (Ok x) to) i ∙ ap (λ x. got (entry_of x) p.at to) k

-- A new reader stands at the front of the caller's file.
pub at_front : {f g : List ℕ} {s : Step} {at : ℕ} → s ≡ step_at f at → f ≡ g → at ≡ 0 → s ≡ step_at g 0
at_front {g = g} {at = at} e h z = e ∙ ap (λ x. step_at x at) h ∙ ap (step_at g) z

-- A task's record at the front is in the wrong place.
pub headless_seen : (f : List ℕ) (to : ℕ) {o : Option Placed} {p : Placed} {t : Task} {name : Bor (List ℕ)} → step_said (Ok o) to ≡ step_at f 0 →
    o ≡ Some p → p.«record» ≡ records.Task t name → Loads f (refused WrongPlace 0)
headless_seen f to e i k = headless _ _ _ _ (record_seen f 0 to e i k)

-- What the tasks from a place on give is told of the same file and contents under other names.
pub tasks_of : {f g : List ℕ} {at : ℕ} {c d : Contents} {res : Loaded} → f ≡ g → c ≡ d → Tasks f at c res → Tasks g at d res
tasks_of {f = f} {at = at} {d = d} {res = res} h e go = subst (λ x. Tasks x at d res) h (subst (λ x. Tasks f at x res) e go)

-- What `map_err` was given, by what it gives.
pub mapped_ok : {T E D : Type 0} (P : E → D → Type 0) (self : Result T E) {r : Result T D} (x : T) →
    MatchResult self (λ x. r ≡ Ok x) (λ e. IsErrAnd r (P e)) → r ≡ Ok x → self ≡ Ok x
mapped_ok P (Ok y) x h e = cc
mapped_ok P (Err y) x h e = absurd (rw e at h)

pub mapped_err : {T E D : Type 0} (P : E → D → Type 0) (self : Result T E) {r : Result T D} (d : D) →
    MatchResult self (λ x. r ≡ Ok x) (λ e. IsErrAnd r (P e)) → r ≡ Err d → (e : E) × (self ≡ Err e) × P e d
mapped_err P (Ok y) d h e = absurd (cc)
mapped_err P (Err y) d h e = (y, refl, rw e at h)
