-- The laws of job counts, of demand and of the three curves.
--   job_count_rises, job_count_within       more jobs in a longer window, and never more jobs than slots
--   demand_rises, demand_positive           of any weight
--   time-, greater- and safe_curve_rises and -positive   of lawful tasks
use Rattle.std.proofs.Common.{◌≡◌, ℕ, zero, suc, ◌+◌, ◌-◌, ◌*◌, ◌<◌, ◌≤◌, List, [], ◌∷◌, length, get_or, refl, ap, le_trans, le_refl, le_of_suc-le-suc, add-le-add, mul-le-mul_right, mul-le-mul_left, div-mul-le_self, arith}
use native.Mathlib.Nat.{le-max_left, le-max_right, max-le}
use Rattle.std.proofs.lemmas.Nat.{le-div, div_below, mul-le}
use Rattle.model.specs.declared.task.Task.{Task}
use Rattle.model.specs.Tasks.{no_task, Sized, Timed, Each}
use Rattle.model.specs.Demand.{divide_up, job_count, demand, slot_weight, draw_weight, safe_weight, time_curve, greater_curve, safe_curve}
use Rattle.model.specs.Windows.{Rising, Positive}

-- Quotients rounded up

pub divide_up_rises : (d v w : ℕ) → 1 ≤ d → v ≤ w → divide_up v d ≤ divide_up w d
divide_up_rises d v w pos h = le-div (divide_up v d) (w + d - 1) d pos (omega (arith, div-mul-le_self (v + d - 1) d))

pub divide_up_within : (d n : ℕ) → 1 ≤ d → divide_up n d ≤ n
divide_up_within d n pos =
    let low : n * 1 ≤ n * d = mul-le-mul_left n pos in
    let below : divide_up n d < n + 1 = div_below (n + d - 1) d (n + 1) pos (omega arith) in
    omega arith

pub divide_up_positive : (d n : ℕ) → 1 ≤ d → 1 ≤ n → 1 ≤ divide_up n d
divide_up_positive d n pos h = le-div 1 (n + d - 1) d pos (omega arith)

-- Job counts

abbrev pub Periodic : Task → Type 0
Periodic t = 1 ≤ t.period

pub job_count_rises : (t : Task) (v w : ℕ) → Periodic t → v ≤ w → job_count t v ≤ job_count t w
job_count_rises t v w = divide_up_rises t.period v w

pub job_count_within : (t : Task) (w : ℕ) → Periodic t → job_count t w ≤ w
job_count_within t w = divide_up_within t.period w

-- Demand, of any weight

pub each_later : (P : Task → Type 0) (t : Task) (ts : List Task) → Each P (t ∷ ts) (length (t ∷ ts)) → Each P ts (length ts)
each_later P t ts each k h = each (suc k) (omega arith)

pub demand_rises : (weight : Task → ℕ) (ts : List Task) (index : ℕ) → Each Periodic ts (length ts) → Rising (demand weight ts index)
demand_rises weight [] index each v w h = le_refl 0
demand_rises weight (t ∷ ts) zero each v w h = le_refl (t.units * weight t)
demand_rises weight (t ∷ ts) (suc index) each v w h =
    let here : job_count t v ≤ job_count t w = job_count_rises t v w (each 0 (omega arith)) h in
    add-le-add (mul-le-mul_right (t.units * weight t) here) (demand_rises weight ts index (each_later Periodic t ts each) v w h)

-- weights that are equal for each task give equal demands
pub demand_same : (f g : Task → ℕ) → ((t : Task) → f t ≡ g t) → (ts : List Task) (index w : ℕ) → demand f ts index w ≡ demand g ts index w
demand_same f g same [] index w = refl
demand_same f g same (t ∷ ts) zero w = ap (λ n. t.units * n) (same t)
demand_same f g same (t ∷ ts) (suc index) w = rw (same t, demand_same f g same ts index w)

-- what one job of a task counts
abbrev pub own_demand : (Task → ℕ) → Task → ℕ
own_demand weight t = t.units * weight t

pub own_demand_within : (weight : Task → ℕ) (ts : List Task) (index : ℕ) → index < length ts
    → (w : ℕ) → own_demand weight (get_or ts index no_task) ≤ demand weight ts index w
own_demand_within weight [] index h w = absurd (omega arith)
own_demand_within weight (t ∷ ts) zero h w = le_refl (t.units * weight t)
own_demand_within weight (t ∷ ts) (suc index) h w = omega (arith, own_demand_within weight ts index (le_of_suc-le-suc h) w)

pub demand_positive : (weight : Task → ℕ) (ts : List Task) (index : ℕ) → index < length ts
    → 1 ≤ (get_or ts index no_task).units → 1 ≤ weight (get_or ts index no_task) → Positive (demand weight ts index)
demand_positive weight ts index h units heavy w =
    le_trans (mul-le 1 1 (get_or ts index no_task).units (weight (get_or ts index no_task)) units heavy) (own_demand_within weight ts index h w)

-- The three curves, of lawful tasks

module _ (ts : List Task) (index : ℕ) (within : index < length ts) (sized : Each Sized ts (length ts)) (timed : Each Timed ts (length ts)) where
  pub periodic : Each Periodic ts (length ts)
  periodic k h = omega (arith, sized k h, timed k h)

  pub time_curve_rises : Rising (time_curve ts index)
  time_curve_rises = demand_rises slot_weight ts index periodic

  pub time_curve_positive : Positive (time_curve ts index)
  time_curve_positive = demand_positive slot_weight ts index within (sized index within).0 (le_refl 1)

  module _ (gain : ℕ) (lawful : 1 ≤ gain) where
    pub greater_curve_rises : Rising (greater_curve gain ts index)
    greater_curve_rises v w h =
        max-le
        (le_trans (time_curve_rises v w h) (le-max_left _ _))
        (le_trans (divide_up_rises gain _ _ lawful (demand_rises draw_weight ts index periodic v w h)) (le-max_right _ _))

    pub greater_curve_positive : Positive (greater_curve gain ts index)
    greater_curve_positive w = le_trans (time_curve_positive w) (le-max_left _ _)

    pub safe_curve_rises : Rising (safe_curve gain ts index)
    safe_curve_rises v w h = divide_up_rises gain _ _ lawful (demand_rises (safe_weight gain) ts index periodic v w h)

    pub safe_curve_positive : Positive (safe_curve gain ts index)
    safe_curve_positive w =
        let heavy : 1 ≤ safe_weight gain (get_or ts index no_task) = le_trans lawful (le-max_right _ _) in
        divide_up_positive gain _ lawful (demand_positive (safe_weight gain) ts index within (sized index within).0 heavy w)
