-- What a window counts and holds.
--   counts_jobs        the jobs whose release lies in a window
--   holds_if_brought   a window holds a demand whose energy its slots bring
--   bound_has_task     only a task has a bound
use Rattle.std.proofs.Common.{◌≡◌, ◌+◌, ◌*◌, ◌<◌, ◌≤◌, length, ap, ⊎_elim, mul-le-mul_right, lt_of_mul-lt-mul_right, arith}
use Rattle.std.proofs.lemmas.List.{get_or_past}
use Rattle.std.proofs.lemmas.Bool.{cases_lt}
use Rattle.model.specs.Tasks.{no_task}
use Rattle.model.specs.Demand.{job_count, demand, safe_weight}
use Rattle.model.specs.Windows.{largest_window}
use Rattle.model.specs.Laws.{window_limit, CountsJobs, HoldsIfBrought, BoundHasTask}
use Rattle.model.proofs.JobCounts.{job_count_covers, divide_up_at_most}
use Rattle.model.proofs.NeverLate.{divide_up_holds}

pub counts_jobs : CountsJobs
counts_jobs t window job pos =
    let covers = job_count_covers t window pos in
    let count = job_count t window in
    let one_more : job < count → (job + 1) * t.period ≤ count * t.period = λ below. mul-le-mul_right t.period (omega arith) in
    (λ below. omega (arith, covers, one_more below), λ inside. lt_of_mul-lt-mul_right t.period (omega (arith, covers, inside)))

pub holds_if_brought : HoldsIfBrought
holds_if_brought gain ts index window pos =
    let asked = demand (safe_weight gain) ts index window in
    (λ holds. divide_up_holds gain asked window pos holds, λ brought. divide_up_at_most gain asked window pos brought)

pub bound_has_task : BoundHasTask
bound_has_task curve ts index window least =
    let none : length ts ≤ index → window_limit ts index ≡ 0 = λ past. ap largest_window (get_or_past ts index no_task past) in
    ⊎_elim (λ below. below) (λ past. absurd (omega (arith, none past, least.0, least.1))) (cases_lt index (length ts))
