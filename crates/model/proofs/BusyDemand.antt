-- What runs in a busy window is within the demand of its width.
--   total_within   the weighted units run
--   next_within    these and one unit more of an open job
use Rattle.std.proofs.Common.{ℕ, suc, ◌+◌, ◌-◌, ◌*◌, ◌<◌, ◌≤◌, List, length, get_or, mul-le-mul_right, mul_assoc, lt_of_mul-lt-mul_right, arith}
use Rattle.std.proofs.lemmas.Nat.{le-div}
use Rattle.model.specs.declared.task.Task.{Task}
use Rattle.model.specs.declared.state.Line.{Line}
use Rattle.model.specs.declared.state.Line.TheVariants.{Never, Closed, Open}
use Rattle.model.specs.Tasks.{no_task, Each}
use Rattle.model.specs.Demand.{job_count, demand, safe_weight}
use Rattle.model.proofs.Curves.{Periodic, each_later}
use Rattle.model.proofs.Sound.{LineSound, LinesSound}
use Rattle.model.proofs.Busy.{Pending, open_here, open_later, Counted, Busy, alone, beside}

-- the arrivals of a window lie below its end, a period apart
counted_jobs : (start clock width : ℕ) (t : Task) (l : Line) (jobs run : ℕ) → LineSound clock t l → clock < start + width
    → Counted start t l jobs run → jobs * t.period ≤ width + t.period - 1
counted_jobs start clock width t Never jobs run sound inside (none, no_run) = rw none (omega arith)
counted_jobs start clock width t (Closed r) jobs run sound inside (apart, within) = omega arith
counted_jobs start clock width t (Open r u d) jobs run sound inside (apart, within, since) = omega arith

counted_run : (start : ℕ) (t : Task) (l : Line) (jobs run : ℕ) → Counted start t l jobs run → run ≤ jobs * t.units
counted_run start t Never jobs run (none, no_run) = omega arith
counted_run start t (Closed r) jobs run (apart, within) = within
counted_run start t (Open r u d) jobs run (apart, within, since) = omega arith

-- at most as many units as these jobs have, weighted
run_within : (jobs most units run weight : ℕ) → run ≤ jobs * units → jobs ≤ most → run * weight ≤ most * (units * weight)
run_within jobs most units run weight few less =
    let a : run * weight ≤ (jobs * units) * weight = mul-le-mul_right weight few in
    let b : jobs * (units * weight) ≤ most * (units * weight) = mul-le-mul_right (units * weight) less in
    omega (arith, mul_assoc jobs units weight)

module _ (gained start clock width : ℕ) (inside : clock < start + width) where
  jobs_many : (t : Task) (l : Line) (jobs run : ℕ) → Periodic t → LineSound clock t l → Counted start t l jobs run → jobs ≤ job_count t width
  jobs_many t l jobs run periodic sound c =
      le-div jobs (width + t.period - 1) t.period periodic (counted_jobs start clock width t l jobs run sound inside c)

  jobs_one : (t : Task) (l : Line) (jobs run : ℕ) → width ≤ t.period → Periodic t → LineSound clock t l → Counted start t l jobs run → jobs ≤ 1
  jobs_one t l jobs run narrow periodic sound c =
      let most : jobs * t.period < 2 * t.period = omega (arith, counted_jobs start clock width t l jobs run sound inside c) in
      omega (arith, lt_of_mul-lt-mul_right t.period most)

  pub total_within : (ts : List Task) (ls : List Line) (index total : ℕ) → Each Periodic ts (length ts) → width ≤ (get_or ts index no_task).period
      → LinesSound clock ts ls → Busy gained start ts ls index total → total ≤ demand (safe_weight gained) ts index width
  total_within ts ls index total periodic narrow sound (alone t us l ms jobs run _ c e) =
      omega (
        arith,
        run_within jobs 1 t.units run (safe_weight gained t) (counted_run start t l jobs run c)
            (jobs_one t l jobs run narrow (periodic 0 (omega arith)) sound.0 c),
      )
  total_within ts ls index total periodic narrow sound (beside t us l ms below jobs run rest _ c b e) =
      omega (
        arith,
        total_within us ms below rest (each_later Periodic t us periodic) narrow sound.1 b,
        run_within jobs (job_count t width) t.units run (safe_weight gained t) (counted_run start t l jobs run c)
            (jobs_many t l jobs run (periodic 0 (omega arith)) sound.0 c),
      )

  pub next_within : (ts : List Task) (ls : List Line) (k : Task) (index total : ℕ) → Each Periodic ts (length ts) → width ≤ (get_or ts index no_task).period
      → LinesSound clock ts ls → Pending ts ls k index → Busy gained start ts ls index total
      → total + safe_weight gained k ≤ demand (safe_weight gained) ts index width
  next_within ts ls k index total periodic narrow sound (open_here {r = r} {u = u} {d = d}) (alone t us l ms jobs run _ c e) =
      omega (
        arith,
        run_within jobs 1 t.units (suc run) (safe_weight gained t) (omega (arith, c, sound.0))
            (jobs_one t (Open r u d) jobs run narrow (periodic 0 (omega arith)) sound.0 c),
      )
  next_within ts ls k index total periodic narrow sound (open_here {r = r} {u = u} {d = d}) (beside t us l ms below jobs run rest _ c b e) =
      omega (
        arith,
        total_within us ms below rest (each_later Periodic t us periodic) narrow sound.1 b,
        run_within jobs (job_count t width) t.units (suc run) (safe_weight gained t) (omega (arith, c, sound.0))
            (jobs_many t (Open r u d) jobs run (periodic 0 (omega arith)) sound.0 c),
      )
  next_within ts ls k index total periodic narrow sound (open_later p) (beside t us l ms below jobs run rest _ c b e) =
      omega (
        arith,
        next_within us ms k below rest (each_later Periodic t us periodic) narrow sound.1 p b,
        run_within jobs (job_count t width) t.units run (safe_weight gained t) (counted_run start t l jobs run c)
            (jobs_many t l jobs run (periodic 0 (omega arith)) sound.0 c),
      )
