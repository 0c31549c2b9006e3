-- The sum of a demand, one more urgent task at a time.
use Rattle.std.proofs.Common.{◌≡◌, ℕ, suc, ◌+◌, ◌-◌, ◌*◌, ◌<◌, ◌≤◌, List, length, get_or, take, drop, refl, mul-one, add-one, arith, length-take, drop-cons, get_or-take}
use Rattle.std.proofs.lemmas.Nat.{mul-le}
use Rattle.model.specs.declared.task.Task.{Task}
use Rattle.model.specs.Tasks.{no_task, LawfulTask}
use Rattle.model.specs.Demand.{job_count, demand, slot_weight}
use Rattle.model.proofs.Curves.{own_demand, job_count_within}
use Rattle.analysis.specs.declared.curve.Subject.{Subject}

pub urgent_below : (ts : List Task) (index i : ℕ) → i < length (take index ts) → i < index
urgent_below ts index i h = omega (arith, length-take index ts)

module _ (s : Subject) where
  -- the task that a turn reads is the one at its place, and lawful
  pub urgent_is : (i : ℕ) → i < length (take s.index s.tasks.now) → get_or (take s.index s.tasks.now) i no_task ≡ get_or s.tasks.now i no_task
  urgent_is i h = get_or-take s.index s.tasks.now i no_task (urgent_below s.tasks.now s.index i h)

  pub urgent_lawful : (i : ℕ) → i < length (take s.index s.tasks.now) → LawfulTask 8000000000 (get_or (take s.index s.tasks.now) i no_task)
  urgent_lawful i h =
      let at : i < length s.tasks.now = omega (arith, urgent_below s.tasks.now s.index i h, s.within.0) in
      rw (urgent_is i h) (s.sized i at, s.timed i at, s.payable i at)

-- what one job of a lawful task counts, and what all of its jobs in a window count
own_small : (t : Task) (u r : ℕ) → LawfulTask 8000000000 t → u ≡ t.units → r ≤ 8000000000 → u * r ≤ 4000000000000
own_small t u r law same small = mul-le u r 500 8000000000 (omega (arith, law)) small

pub jobs_small : (t : Task) (w j u r : ℕ) → LawfulTask 8000000000 t → w ≤ 100000 → j ≡ job_count t w → u ≡ t.units → r ≤ 8000000000
    → j * (u * r) ≤ 400000000000000000
jobs_small t w j u r law short counted same small =
    mul-le j (u * r) 100000 4000000000000
    (omega (arith, job_count_within t w (omega (arith, law))))
    (own_small t u r law same small)

-- demand, taken one task further
demand_more : (weight : Task → ℕ) (ts : List Task) (index i w : ℕ) → i < index → index < length ts
    → demand weight (drop i ts) (index - i) w
    ≡ job_count (get_or ts i no_task) w * own_demand weight (get_or ts i no_task) + demand weight (drop (i + 1) ts) (index - (i + 1)) w
demand_more weight ts index i w below within =
    let at : i < length ts = omega arith in
    let more : index - i ≡ suc (index - suc i) = omega arith in
    rw (add-one i, more, drop-cons ts i no_task)

-- the sum so far, with a turn's jobs, and what is left of the demand
pub turn_adds : (weight : Task → ℕ) (ts : List Task) (index i w : ℕ) (t : Task) (sum j u r total : ℕ) → i < index → index < length ts
    → t ≡ get_or ts i no_task → j ≡ job_count t w → u ≡ t.units → r ≡ weight t → sum + demand weight (drop i ts) (index - i) w ≡ total
    → sum + j * (u * r) + demand weight (drop (i + 1) ts) (index - (i + 1)) w ≡ total
turn_adds weight ts index i w t sum j u r total below within same jobs units counts before =
    rw (jobs, units, counts, same) (omega (arith, before, demand_more weight ts index i w below within))

-- The same for slots, where a unit counts 1.

pub slots_small : (t : Task) (w j u : ℕ) → LawfulTask 8000000000 t → w ≤ 100000 → j ≡ job_count t w → u ≡ t.units → j * u ≤ 50000000
slots_small t w j u law short counted same =
    mul-le j u 100000 500 (omega (arith, job_count_within t w (omega (arith, law)))) (omega (arith, law))

pub slot_turn_adds : (ts : List Task) (index i w : ℕ) (t : Task) (sum j u total : ℕ) → i < index → index < length ts
    → t ≡ get_or ts i no_task → j ≡ job_count t w → u ≡ t.units → sum + demand slot_weight (drop i ts) (index - i) w ≡ total
    → sum + j * u + demand slot_weight (drop (i + 1) ts) (index - (i + 1)) w ≡ total
slot_turn_adds ts index i w t sum j u total below within same jobs units before =
    rw mul-one at (turn_adds slot_weight ts index i w t sum j u 1 total below within same jobs units refl before)
