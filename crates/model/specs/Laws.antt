-- The bounds of a table's tasks, and what holds of every search for one.
--   SafeBound, TimeBound, GreaterBound   a task's bound by each curve
--   SafeSearch                             the rounds of the search for the safe bound
--   SearchFindsLeast, SearchEnds, FewRounds, OneSearch, OneBound   the laws of the search
--   AcceptedExactly, RefusedExactly       what the safe bounds say of a table
use Rattle.std.specs.Prelude.{◌≡◌, ℕ, ◌*◌, ◌<◌, ◌≤◌, ◌↔◌, List, length, Some, None, Option, slice_index_or}
use Rattle.model.specs.declared.task.Task.{Task}
use Rattle.model.specs.Tasks.{no_task}
use Rattle.model.specs.Demand.{job_count, demand, safe_weight, time_curve, greater_curve, safe_curve}
use Rattle.model.specs.Windows.{Rising, LeastWindow, Rounds, largest_window, Fits, Accepted}

-- the largest window of the task at an index
abbrev pub window_limit : List Task → ℕ → ℕ
window_limit ts index = largest_window (slice_index_or ts index no_task)

abbrev pub TimeBound : List Task → ℕ → Option ℕ → Type 0
TimeBound ts index bound = LeastWindow (time_curve ts index) (window_limit ts index) bound

abbrev pub GreaterBound : ℕ → List Task → ℕ → Option ℕ → Type 0
GreaterBound gain ts index bound = LeastWindow (greater_curve gain ts index) (window_limit ts index) bound

abbrev pub SafeBound : ℕ → List Task → ℕ → Option ℕ → Type 0
SafeBound gain ts index bound = LeastWindow (safe_curve gain ts index) (window_limit ts index) bound

-- the search for the safe bound starts at window 1
abbrev pub SafeSearch : ℕ → List Task → ℕ → Option ℕ → ℕ → Type 0
SafeSearch gain ts index bound rounds = Rounds (safe_curve gain ts index) (window_limit ts index) 1 bound rounds

-- from window 1, what the rounds give is the least window, or absent where there is none
abbrev pub SearchFindsLeast : Type 0
SearchFindsLeast = (curve : ℕ → ℕ) (deadline : ℕ) (bound : Option ℕ) (rounds : ℕ) →
    Rising curve → 1 ≤ deadline → Rounds curve deadline 1 bound rounds → LeastWindow curve deadline bound

-- every search comes to an end
abbrev pub SearchEnds : Type 0
SearchEnds = (curve : ℕ → ℕ) (deadline : ℕ) → (bound : Option ℕ) × (rounds : ℕ) × Rounds curve deadline 1 bound rounds

-- a search has at most as many rounds as the deadline has slots
abbrev pub FewRounds : Type 0
FewRounds = (curve : ℕ → ℕ) (deadline : ℕ) (bound : Option ℕ) (rounds : ℕ) →
    1 ≤ deadline → Rounds curve deadline 1 bound rounds → rounds ≤ deadline

-- two searches from one window agree in the bound and in the number of rounds
abbrev pub OneSearch : Type 0
OneSearch = (curve : ℕ → ℕ) (deadline window : ℕ) (a b : Option ℕ) (m n : ℕ) →
    Rounds curve deadline window a m → Rounds curve deadline window b n → (a ≡ b) × (m ≡ n)

abbrev pub OneBound : Type 0
OneBound = (curve : ℕ → ℕ) (deadline : ℕ) (a b : Option ℕ) → LeastWindow curve deadline a → LeastWindow curve deadline b → a ≡ b

-- of the jobs released one period after the other from a window's start on, those are counted whose release lies in the window
abbrev pub CountsJobs : Type 0
CountsJobs = (t : Task) (window job : ℕ) → 1 ≤ t.period → (job < job_count t window) ↔ (job * t.period < window)

-- a window is not exceeded exactly if its slots bring the demand's energy
abbrev pub HoldsIfBrought : Type 0
HoldsIfBrought = (gain : ℕ) (ts : List Task) (index window : ℕ) → 1 ≤ gain →
    (safe_curve gain ts index window ≤ window) ↔ (demand (safe_weight gain) ts index window ≤ window * gain)

-- past the last task no curve has a bound
abbrev pub BoundHasTask : Type 0
BoundHasTask = (curve : ℕ → ℕ) (ts : List Task) (index window : ℕ) → LeastWindow curve (window_limit ts index) (Some window) → index < length ts

-- every task's safe bound is present
abbrev pub EveryBoundPresent : ℕ → List Task → Type 0
EveryBoundPresent gain ts = (index : ℕ) → index < length ts → (window : ℕ) × SafeBound gain ts index (Some window)

abbrev pub AcceptedExactly : Type 0
AcceptedExactly = (gain : ℕ) (ts : List Task) → EveryBoundPresent gain ts ↔ Accepted gain ts

-- a task's safe bound is absent exactly when no window fits
abbrev pub RefusedExactly : Type 0
RefusedExactly = (gain : ℕ) (ts : List Task) (index : ℕ) → SafeBound gain ts index None ↔ ((window : ℕ) → Fits gain ts index window → ⊥)
