-- How the number of a task's jobs grows slot by slot, where each job is released one period after the one before.
--   divide_up_covers, divide_up_unique   what a quotient rounded up is
--   divide_up_at_most                    a demand that a window's energy covers has its curve within the window
--   first_job, no_job_more, one_job_more a window that grows by one slot
use Rattle.std.proofs.Common.{◌≡◌, ℕ, suc, ◌+◌, ◌-◌, ◌*◌, ◌<◌, ◌≤◌, div-mul-le_self, arith}
use native.Mathlib.Nat.{lt-div-mul-add, div-eq_of_lt-le}
use Rattle.std.proofs.lemmas.Nat.{div_below}
use Rattle.model.specs.declared.task.Task.{Task}
use Rattle.model.specs.Demand.{divide_up, job_count}
use Rattle.model.proofs.Curves.{Periodic}

pub divide_up_covers : (d n : ℕ) → 1 ≤ d → (n ≤ divide_up n d * d) × (divide_up n d * d < n + d)
divide_up_covers d n pos =
    let above : n + d - 1 < divide_up n d * d + d = lt-div-mul-add pos in
    (omega arith, omega (arith, div-mul-le_self (n + d - 1) d))

pub divide_up_unique : (d n k : ℕ) → 1 ≤ d → n ≤ k * d → k * d < n + d → divide_up n d ≡ k
divide_up_unique d n k pos low high = div-eq_of_lt-le d (omega arith) (omega arith)

pub divide_up_at_most : (d n k : ℕ) → 1 ≤ d → n ≤ k * d → divide_up n d ≤ k
divide_up_at_most d n k pos h =
    let below : divide_up n d < k + 1 = div_below (n + d - 1) d (k + 1) pos (omega arith) in
    omega arith

-- what is known of the number of jobs in a window
pub job_count_covers : (t : Task) (v : ℕ) → Periodic t → (v ≤ job_count t v * t.period) × (job_count t v * t.period < v + t.period)
job_count_covers t v = divide_up_covers t.period v

pub first_job : (t : Task) → Periodic t → job_count t 1 ≡ 1
first_job t pos = divide_up_unique t.period 1 1 pos (omega arith) (omega arith)

-- the periods of the jobs so far reach past the slot at clock v: no job is released there
pub no_job_more : (t : Task) (v : ℕ) → Periodic t → v < job_count t v * t.period → job_count t (suc v) ≡ job_count t v
no_job_more t v pos h =
    divide_up_unique t.period (suc v) (job_count t v) pos (omega arith) (omega (arith, job_count_covers t v pos))

-- they end at that slot: one job is released there
pub one_job_more : (t : Task) (v : ℕ) → Periodic t → job_count t v * t.period ≤ v → job_count t (suc v) ≡ suc (job_count t v)
one_job_more t v pos h =
    let covers = job_count_covers t v pos in
    divide_up_unique t.period (suc v) (suc (job_count t v)) pos (omega arith) (omega arith)
