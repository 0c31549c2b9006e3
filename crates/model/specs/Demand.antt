-- What the jobs of a task and of the more urgent ones ask of a window, and the three curves over it.
--   job_count      how many jobs of a task fall into a window
--   demand         the weighted units of one job of a task and of all more urgent jobs in a window
--   time_curve, greater_curve, safe_curve
use Rattle.std.specs.Prelude.{ℕ, zero, suc, ◌+◌, ◌-◌, ◌*◌, ◌/◌, max, List, [], ◌∷◌}
use Rattle.model.specs.declared.task.Task.{Task}

-- the quotient, rounded up
abbrev pub divide_up : ℕ → ℕ → ℕ
divide_up n d = (n + d - 1) / d

-- how many jobs of a task can be released in a window
abbrev pub job_count : Task → ℕ → ℕ
job_count t window = divide_up window t.period

-- One job of the task at an index and every job of the more urgent ones, each unit counted by its weight.
abbrev pub demand : (Task → ℕ) → List Task → ℕ → ℕ → ℕ
demand weight [] index window = 0
demand weight (t ∷ ts) zero window = t.units * weight t
demand weight (t ∷ ts) (suc index) window = job_count t window * (t.units * weight t) + demand weight ts index window

-- a unit takes one slot
abbrev pub slot_weight : Task → ℕ
slot_weight t = 1

-- a unit draws energy
abbrev pub draw_weight : Task → ℕ
draw_weight t = t.draw

-- a unit takes a slot, which surely brings a gain, and draws energy: the larger of both counts
abbrev pub safe_weight : ℕ → Task → ℕ
safe_weight gain t = max t.draw gain

abbrev pub time_curve : List Task → ℕ → ℕ → ℕ
time_curve ts index window = demand slot_weight ts index window

abbrev pub greater_curve : ℕ → List Task → ℕ → ℕ → ℕ
greater_curve gain ts index window = max (time_curve ts index window) (divide_up (demand draw_weight ts index window) gain)

abbrev pub safe_curve : ℕ → List Task → ℕ → ℕ → ℕ
safe_curve gain ts index window = divide_up (demand (safe_weight gain) ts index window) gain
