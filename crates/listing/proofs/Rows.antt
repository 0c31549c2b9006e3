-- The lines of a table: none without bounds, and the limits of what a line shows.
use Rattle.std.proofs.Common.{◌≡◌, ℕ, ◌<◌, ◌≤◌, List, [], ◌∷◌, length, get_or, Some, None, Option, All, refl, arith}
use Rattle.std.proofs.lemmas.List.Elements.{All-from_get_or}
use Rattle.model.specs.declared.task.Task.{Task}
use Rattle.model.specs.Tasks.{no_task, Sized, Timed, LawfulTasks}
use Rattle.model.specs.OnTime.{AtMost}
use Rattle.model.specs.Windows.{LeastWindow}
use Rattle.model.proofs.Searches.{few_rounds}
use Rattle.analysis.specs.declared.verdict.TaskBounds.{TaskBounds}
use Rattle.analysis.specs.Verdicts.{AllBounds, BoundsOf, no_bounds}
use Rattle.listing.specs.Listings.{lines_text, IsSmall}

pub lines_none : (names : List (List ℕ)) → lines_text names [] ≡ []
lines_none [] = refl
lines_none (n ∷ ns) = refl

least_at_most : (curve : ℕ → ℕ) (limit d : ℕ) (bound : Option ℕ) → d ≤ limit → LeastWindow curve d bound → AtMost limit bound
least_at_most curve limit d None le h = tt
least_at_most curve limit d (Some w) le h = omega (arith, h.1)

bounds_small : (gain : ℕ) (ts : List Task) (index : ℕ) (b : TaskBounds) → Sized (get_or ts index no_task) → Timed (get_or ts index no_task) →
    BoundsOf gain ts index b → IsSmall b
bounds_small gain ts index b s t h =
    let le : (get_or ts index no_task).deadline ≤ 100000 = omega arith in
    let some : 1 ≤ (get_or ts index no_task).deadline = omega arith in
    let few = few_rounds _ _ _ _ some h.safe.1 in
    record {
      time = least_at_most _ 100000 _ b.time.window le h.time.0;
      greater = least_at_most _ 100000 _ b.greater.window le h.greater.0;
      safe = least_at_most _ 100000 _ b.safe.window le h.safe.0;
      rounds = omega arith;
    }

pub all_small : (gain room : ℕ) (ts : List Task) (bs : List TaskBounds) → LawfulTasks room ts → AllBounds gain ts bs → All IsSmall bs
all_small gain room ts bs lawful h =
    All-from_get_or IsSmall bs no_bounds (λ k lt.
    let at : k < length ts = omega (arith, h.count) in bounds_small gain ts k _ (lawful.sized k at) (lawful.timed k at) (h.each k at))
