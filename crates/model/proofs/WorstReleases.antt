-- Full releases along the run that shows a task's longest response: they keep its lines in step, and what they add to the jobs' units
-- is what one slot more adds to the demand.
--   Released          what the releases at a clock leave
--   first_releases    at clock 0; later_releases, at every other one while the task's first job is open
use Rattle.std.proofs.Common.{◌≡◌, ℕ, zero, suc, ◌+◌, ◌*◌, ◌<◌, ◌≤◌, ltb, List, [], ◌∷◌, length, replicate, refl, ap, le_of_suc-le-suc, arith}
use Rattle.std.proofs.lemmas.Bool.{ltb-true, ltb-false, cond_both}
use Rattle.model.specs.declared.task.Task.{Task}
use Rattle.model.specs.declared.state.Line.{Line}
use Rattle.model.specs.declared.state.Line.TheVariants.{Never, Closed, Open}
use Rattle.model.specs.Tasks.{Sized, Timed, Each}
use Rattle.model.specs.Demand.{job_count, demand}
use Rattle.model.proofs.Sound.{LineSound, LinesSound}
use Rattle.model.proofs.Curves.{each_later}
use Rattle.model.proofs.JobCounts.{job_count_covers, first_job, no_job_more, one_job_more}
use Rattle.model.proofs.FullReleases.{renewed, renewed_lines}
use Rattle.model.proofs.WorstLines.{units_left, owed, EveryPeriod, FirstOpen, WorstLines}

-- what the jobs of a more urgent task demand of a window
abbrev all_jobs : (Task → ℕ) → Task → ℕ → ℕ
all_jobs weight t v = job_count t v * (t.units * weight t)

-- One more slot, for a more urgent task: its line after the releases at clock v

abbrev LineReleased : (Task → ℕ) → ℕ → Task → Line → Line → Type 0
LineReleased weight v t l m =
    EveryPeriod (suc v) t m × (all_jobs weight t (suc v) + units_left l * weight t ≡ all_jobs weight t v + units_left m * weight t)

module _ (weight : Task → ℕ) (v : ℕ) (t : Task) (sized : Sized t) (timed : Timed t) where
  -- too early: the line stays
  closed_stays : (r : ℕ) → v < r + t.period → EveryPeriod v t (Closed r) → LineReleased weight v t (Closed r) (Closed r)
  closed_stays r early each =
      let same : job_count t (suc v) ≡ job_count t v = no_job_more t v (omega arith) (omega arith) in
      rw same (each, refl)

  open_stays : (r u d : ℕ) → v < r + t.period → EveryPeriod v t (Open r u d) → LineReleased weight v t (Open r u d) (Open r u d)
  open_stays r u d early each =
      let same : job_count t (suc v) ≡ job_count t v = no_job_more t v (omega arith) (omega (arith, each.0)) in
      rw same (each, refl)

  -- a period has passed: the next full job
  closed_renewed :
      (r : ℕ) → r + t.period ≤ v → EveryPeriod v t (Closed r) → LineReleased weight v t (Closed r) (Open v t.units t.draw)
  closed_renewed r past each =
      let more : job_count t (suc v) ≡ suc (job_count t v) = one_job_more t v (omega arith) (omega arith) in
      let covers = job_count_covers t v (omega arith) in
      rw more ((omega arith, sized.0, refl), omega arith)

  line_released : (l : Line) → LineSound v t l → EveryPeriod v t l → LineReleased weight v t l (renewed v t l)
  line_released Never sound each = absurd each
  line_released (Closed r) sound each =
      cond_both (ltb v (r + t.period)) (Closed r) (Open v t.units t.draw) (LineReleased weight v t (Closed r))
      (λ e. closed_stays r (ltb-true v (r + t.period) e) each)
      (λ e. closed_renewed r (ltb-false v (r + t.period) e) each)
  line_released (Open r u d) sound each =
      cond_both (ltb v (r + t.period)) (Open r u d) (Open v t.units t.draw) (LineReleased weight v t (Open r u d))
      (λ e. open_stays r u d (ltb-true v (r + t.period) e) each)
      (λ e. absurd (omega (arith, ltb-false v (r + t.period) e, sound.1)))

-- The task at the index: its next release would be too early

abbrev OwnReleased : (Task → ℕ) → Task → Line → Line → Type 0
OwnReleased weight t l m = FirstOpen t m × (units_left m * weight t ≡ units_left l * weight t)

own_released :
    (weight : Task → ℕ) (v : ℕ) (t : Task) → Timed t → (l : Line) → LineSound v t l → FirstOpen t l → OwnReleased weight t l (renewed v t l)
own_released weight v t timed Never sound own = absurd own
own_released weight v t timed (Closed r) sound own = absurd own
own_released weight v t timed (Open r u d) sound own =
    cond_both (ltb v (r + t.period)) (Open r u d) (Open v t.units t.draw) (OwnReleased weight t (Open r u d))
    (λ e. (own, refl))
    (λ e. absurd (omega (arith, ltb-false v (r + t.period) e, sound.1)))

-- All tasks up to the index

pub record Released (weight : Task → ℕ) (v index : ℕ) (ts : List Task) (ls ms : List Line) : Type 0 where
  pub lines : WorstLines (suc v) ts ms index
  pub demanded : demand weight ts index (suc v) + owed weight ts ls index ≡ demand weight ts index v + owed weight ts ms index

pub later_releases :
    (weight : Task → ℕ) (v : ℕ) (ts : List Task) (ls : List Line) (index : ℕ) → Each Sized ts (length ts) → Each Timed ts (length ts) →
    LinesSound v ts ls → WorstLines v ts ls index → Released weight v index ts ls (renewed_lines v (suc index) ts ls)
later_releases weight v [] ls index sized timed sound w = absurd w
later_releases weight v (t ∷ ts) [] index sized timed sound w = absurd w
later_releases weight v (t ∷ ts) (l ∷ ls) zero sized timed sound w =
    let here = own_released weight v t (timed 0 (omega arith)) l sound.0 w in
    record { lines = here.0; demanded = omega (arith, here.1) }
later_releases weight v (t ∷ ts) (l ∷ ls) (suc index) sized timed sound w =
    let here = line_released weight v t (sized 0 (omega arith)) (timed 0 (omega arith)) l sound.0 w.0 in
    let rest = later_releases weight v ts ls index (each_later Sized t ts sized) (each_later Timed t ts timed) sound.1 w.1 in
    record { lines = (here.0, rest.lines); demanded = omega (arith, here.1, rest.demanded) }

-- At clock 0 every task up to the index gets its first job

pub record FirstReleased (weight : Task → ℕ) (index : ℕ) (ts : List Task) (ms : List Line) : Type 0 where
  pub lines : WorstLines 1 ts ms index
  pub demanded : demand weight ts index 1 ≡ owed weight ts ms index

pub first_releases :
    (weight : Task → ℕ) (ts : List Task) (wide index : ℕ) → Each Sized ts (length ts) → Each Timed ts (length ts) → length ts ≤ wide →
    index < length ts → FirstReleased weight index ts (renewed_lines 0 (suc index) ts (replicate wide Never))
first_releases weight [] wide index sized timed few within = absurd (omega arith)
first_releases weight (t ∷ ts) zero index sized timed few within = absurd (omega arith)
first_releases weight (t ∷ ts) (suc wide) zero sized timed few within =
    record { lines = (refl, (sized 0 (omega arith)).0, refl); demanded = refl }
first_releases weight (t ∷ ts) (suc wide) (suc index) sized timed few within =
    let here = sized 0 (omega arith) in
    let times = timed 0 (omega arith) in
    let one : job_count t 1 ≡ 1 = first_job t (omega arith) in
    let product : all_jobs weight t 1 ≡ 1 * (t.units * weight t) = ap (λ x. x * (t.units * weight t)) one in
    let period : job_count t 1 * t.period ≡ 1 * t.period = ap (λ x. x * t.period) one in
    let rest =
    first_releases weight ts wide index (each_later Sized t ts sized) (each_later Timed t ts timed) (le_of_suc-le-suc few) (le_of_suc-le-suc within) in
    record { lines = ((omega arith, here.0, refl), rest.lines); demanded = omega (arith, rest.demanded) }
