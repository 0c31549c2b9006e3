-- A file has one text only: it loads as one outcome, and the bounds of its tasks are one.
use Rattle.std.proofs.Common.{◌≡◌, ℕ, ◌<◌, Bool, List, ◌++◌, length, drop, Ok, Err, Result, Decides, sym, refl, ap, ◌∙◌, subst, arith, ext_get_or}
use Rattle.std.proofs.lemmas.Bool.Decides.{same_from_decides}
use Rattle.model.specs.declared.task.Task.{Task}
use Rattle.model.specs.Windows.{Accepted}
use Rattle.model.proofs.Searches.{rounds_are_one}
use Rattle.model.specs.declared.refusal.Refusal.{Refusal}
use Rattle.table.specs.Contents.{Contents}
use Rattle.table.specs.Loading.{full, refused}
use Rattle.model.specs.Refusals.{number_of}
use Rattle.table.proofs.Once.{one_load}
use Rattle.analysis.specs.declared.verdict.Bound.{Bound}
use Rattle.analysis.specs.declared.verdict.TaskBounds.{TaskBounds}
use Rattle.analysis.specs.Verdicts.{BoundOf, BoundsOf, AllBounds, no_bounds}
use Rattle.listing.specs.declared.list.Listed.{Listed}
use Rattle.listing.specs.Laws.{OneListing, OnlyText}
use Rattle.listing.specs.Lines.{verdict_text, refused_text}
use Rattle.listing.specs.Listings.{of_table, of_refusal, ListedInto, lines_text}

one_bound : (curve : ℕ → ℕ) (deadline : ℕ) (a b : Bound) → BoundOf curve deadline a → BoundOf curve deadline b → a ≡ b
one_bound curve deadline a b p q =
    let same = rounds_are_one curve deadline 1 _ _ _ _ p.1 q.1 in
    λ i. record { window = same.0 i; rounds = same.1 i }

one_bounds : (gain : ℕ) (ts : List Task) (index : ℕ) (a b : TaskBounds) → BoundsOf gain ts index a → BoundsOf gain ts index b → a ≡ b
one_bounds gain ts index a b p q =
    let time = one_bound _ _ _ _ p.time q.time in
    let greater = one_bound _ _ _ _ p.greater q.greater in
    let safe = one_bound _ _ _ _ p.safe q.safe in
    λ i. record { time = time i; greater = greater i; safe = safe i }

all_bounds_are_one : (gain : ℕ) (ts : List Task) (fs bs : List TaskBounds) → AllBounds gain ts fs → AllBounds gain ts bs → fs ≡ bs
all_bounds_are_one gain ts fs bs p q =
    ext_get_or no_bounds fs bs (p.count ∙ sym q.count)
    (λ k h. let l : k < length ts = omega (arith, p.count) in one_bounds gain ts k _ _ (p.each k l) (q.each k l))

-- the parts of two listings of a file are equal where the file loads as the same
same_table : (c d : Contents) (fs bs : List TaskBounds) (x y : Bool) → c ≡ d →
    AllBounds c.rate c.tasks fs → AllBounds d.rate d.tasks bs →
    Decides x (Accepted c.rate c.tasks) → Decides y (Accepted d.rate d.tasks) →
    (lines_text c.names fs ++ verdict_text x ≡ lines_text d.names bs ++ verdict_text y) × (x ≡ y)
same_table c d fs bs x y e p q u v =
    let bounds : fs ≡ bs = all_bounds_are_one d.rate d.tasks fs bs (subst (λ z. AllBounds z.rate z.tasks fs) e p) q in
    let verdict : x ≡ y = same_from_decides x y (subst (λ z. Decides x (Accepted z.rate z.tasks)) e u) v in
    ((λ i. lines_text (e i).names (bounds i) ++ verdict_text (verdict i)), verdict)

pub one_listing : OneListing
one_listing file a b x y (of_table c fs _ l p u) (of_table d bs _ m q v) =
    let one : full c ≡ full d = one_load file (full c) (full d) l m in
    same_table c d fs bs x y (cc) p q u v
one_listing file a b x y (of_table c fs _ l p u) (of_refusal r at m) =
    let one : full c ≡ refused r at = one_load file (full c) (refused r at) l m in
    let never : ◌≡◌ {A = ℕ} 0 1 = cc in absurd (omega arith)
one_listing file a b x y (of_refusal r at l) (of_table c bs _ m q v) =
    let one : full c ≡ refused r at = one_load file (full c) (refused r at) m l in
    let never : ◌≡◌ {A = ℕ} 0 1 = cc in absurd (omega arith)
one_listing file a b x y (of_refusal r at l) (of_refusal s to m) =
    let one : refused r at ≡ refused s to = one_load file (refused r at) (refused s to) l m in
    let reason : r ≡ s = cc in
    let place : at ≡ to = cc in
    ((λ i. refused_text (number_of (reason i)) (place i)), refl)

-- So the listing that a call answers by is the only one.
pub only_listing : (file before after : List ℕ) (r : Result Listed Refusal) → ListedInto file before r after → OnlyText file before r after
only_listing file before after (Ok l) h =
    λ text accepted told. let same = one_listing file h.text text l.accepted accepted h.told told in (
      h.held ∙ ap (λ t. t ++ drop (length t) before) same.0,
      h.sized ∙ ap length same.0,
      same.1,
    )
only_listing file before after (Err e) h =
    λ text accepted told. let same = one_listing file h.text text h.accepted accepted h.told told in
    subst (λ t. length before < length t) same.0 h.short
