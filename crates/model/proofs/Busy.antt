-- The invariant of the deadline proof: what is known of a task's busy window, the more urgent tasks included.
--   Calm       no job of a task up to an index is open
--   Pending    a job of this task is open, and the task's index is at most the given one
--   Counted    a task's jobs released, and units run, since the window began, beside its line
--   Busy       that of every task up to an index, with the weighted units run
--   Watched    no job up to the task is open, or a window in which the task is busy
use Rattle.std.proofs.Common.{◌≡◌, ℕ, zero, suc, ◌+◌, ◌-◌, ◌*◌, ◌<◌, ◌≤◌, ◌⊎◌, List, [], ◌∷◌, length, get_or, refl, inl, inr, le_of_suc-le-suc, arith}
use Rattle.model.specs.declared.task.Task.{Task}
use Rattle.model.specs.declared.state.Line.{Line}
use Rattle.model.specs.declared.state.Line.TheVariants.{Never, Closed, Open}
use Rattle.model.specs.Demand.{safe_weight}
use Rattle.model.specs.Setups.{Setup, gain}
use Rattle.model.specs.HistoryLaws.{NotOpen}
use Rattle.model.proofs.Rule.{Quiet}
use Rattle.model.proofs.Sound.{Young, LinesSound}

abbrev pub Calm : List Task → List Line → ℕ → Type 0
Calm [] ls index = Unit {0}
Calm (t ∷ ts) [] index = Unit {0}
Calm (t ∷ ts) (l ∷ ls) zero = NotOpen l
Calm (t ∷ ts) (l ∷ ls) (suc index) = NotOpen l × Calm ts ls index

pub data Pending : List Task → List Line → Task → ℕ → Type 0 where
  open_here : {t : Task} {ts : List Task} {r u d : ℕ} {ls : List Line} {index : ℕ} → Pending (t ∷ ts) (Open r u d ∷ ls) t index
  open_later : {t : Task} {ts : List Task} {l : Line} {ls : List Line} {k : Task} {index : ℕ} → Pending ts ls k index
      → Pending (t ∷ ts) (l ∷ ls) k (suc index)

-- jobs released since the start, a period apart; each has at most the units of the task
abbrev pub Counted : ℕ → Task → Line → ℕ → ℕ → Type 0
Counted start t Never jobs run = (jobs ≡ 0) × (run ≡ 0)
Counted start t (Closed r) jobs run = (jobs * t.period ≤ r + t.period - start) × (run ≤ jobs * t.units)
Counted start t (Open r u d) jobs run = (jobs * t.period ≤ r + t.period - start) × (run + u ≤ jobs * t.units) × (start ≤ r)

pub data Busy (gained start : ℕ) : List Task → List Line → ℕ → ℕ → Type 0 where
  alone : (t : Task) (ts : List Task) (l : Line) (ls : List Line) (jobs run total : ℕ) → Counted start t l jobs run
      → total ≡ run * safe_weight gained t → Busy gained start (t ∷ ts) (l ∷ ls) zero total
  beside : (t : Task) (ts : List Task) (l : Line) (ls : List Line) (index jobs run rest total : ℕ) → Counted start t l jobs run
      → Busy gained start ts ls index rest → total ≡ run * safe_weight gained t + rest
      → Busy gained start (t ∷ ts) (l ∷ ls) (suc index) total

-- a window of some age: what ran and what is stored cover what was gained, and an open job's next unit would go beyond that
pub record Window (n : Setup) (clock level : ℕ) (ls : List Line) (index width : ℕ) : Type 0 where
  pub start : ℕ
  pub age : ℕ
  pub total : ℕ
  pub witness : Task
  pub at : start + age ≡ clock
  pub counts : Busy (gain n) start n.tasks ls index total
  pub covered : age * gain n + n.floor ≤ total + level
  pub waiting : Pending n.tasks ls witness index
  pub next : age * gain n < total + safe_weight (gain n) witness
  pub short : age < width

pub data Watched (n : Setup) (clock level : ℕ) (ls : List Line) (index width : ℕ) : Type 0 where
  calm : Calm n.tasks ls index → Watched n clock level ls index width
  busy : Window n clock level ls index width → Watched n clock level ls index width

-- Either nothing up to an index is open or something is.
abbrev pub SomePending : List Task → List Line → ℕ → Type 0
SomePending ts ls index = (k : Task) × Pending ts ls k index

calm_or_pending_later : (t : Task) (ts : List Task) (l : Line) (ls : List Line) (index : ℕ) → NotOpen l
    → Calm ts ls index ⊎ SomePending ts ls index → Calm (t ∷ ts) (l ∷ ls) (suc index) ⊎ SomePending (t ∷ ts) (l ∷ ls) (suc index)
calm_or_pending_later t ts l ls index shut (inl c) = inl (shut, c)
calm_or_pending_later t ts l ls index shut (inr p) = inr (p.0, open_later p.1)

pub calm_or_pending : (ts : List Task) (ls : List Line) (index : ℕ) → Calm ts ls index ⊎ SomePending ts ls index
calm_or_pending [] ls index = inl tt
calm_or_pending (t ∷ ts) [] index = inl tt
calm_or_pending (t ∷ ts) (Open r u d ∷ ls) index = inr (t, open_here)
calm_or_pending (t ∷ ts) (Never ∷ ls) zero = inl tt
calm_or_pending (t ∷ ts) (Closed r ∷ ls) zero = inl tt
calm_or_pending (t ∷ ts) (Never ∷ ls) (suc index) = calm_or_pending_later t ts Never ls index tt (calm_or_pending ts ls index)
calm_or_pending (t ∷ ts) (Closed r ∷ ls) (suc index) = calm_or_pending_later t ts (Closed r) ls index tt (calm_or_pending ts ls index)

pub quiet_calm : (ts : List Task) (ls : List Line) (index : ℕ) → Quiet ts ls → Calm ts ls index
quiet_calm [] ls index q = tt
quiet_calm (t ∷ ts) [] index q = tt
quiet_calm (t ∷ ts) (l ∷ ls) zero q = q.0
quiet_calm (t ∷ ts) (l ∷ ls) (suc index) q = (q.0, quiet_calm ts ls index q.1)

-- where nothing is open a window may begin, with nothing counted
counted_none : (start : ℕ) (t : Task) (l : Line) → NotOpen l → Counted start t l 0 0
counted_none start t Never shut = (refl, refl)
counted_none start t (Closed r) shut = (omega arith, omega arith)
counted_none start t (Open r u d) shut = absurd shut

pub window_begins : (gained start clock : ℕ) (ts : List Task) (ls : List Line) (index : ℕ) → index < length ts → LinesSound clock ts ls
    → Calm ts ls index → Busy gained start ts ls index 0
window_begins gained start clock [] ls index within sound c = absurd (omega arith)
window_begins gained start clock (t ∷ ts) [] index within sound c = absurd sound
window_begins gained start clock (t ∷ ts) (l ∷ ls) zero within sound c =
    alone t ts l ls 0 0 0 (counted_none start t l c) (omega arith)
window_begins gained start clock (t ∷ ts) (l ∷ ls) (suc index) within sound c =
    beside t ts l ls index 0 0 0 0 (counted_none start t l c.0)
    (window_begins gained start clock ts ls index (le_of_suc-le-suc within) sound.1 c.1) (omega arith)

-- The open job of a task was released in its window, which is shorter than the width.

shut_young : (clock bound : ℕ) (l : Line) → NotOpen l → Young clock bound l
shut_young clock bound Never shut = tt
shut_young clock bound (Closed r) shut = tt
shut_young clock bound (Open r u d) shut = absurd shut

calm_young : (clock bound : ℕ) (ts : List Task) (ls : List Line) (index : ℕ) → index < length ts → Calm ts ls index
    → Young clock bound (get_or ls index Never)
calm_young clock bound [] ls index within c = absurd (omega arith)
calm_young clock bound (t ∷ ts) [] index within c = tt
calm_young clock bound (t ∷ ts) (l ∷ ls) zero within c = shut_young clock bound l c
calm_young clock bound (t ∷ ts) (l ∷ ls) (suc index) within c = calm_young clock bound ts ls index (le_of_suc-le-suc within) c.1

counted_young : (start clock bound : ℕ) (t : Task) (l : Line) (jobs run : ℕ) → clock < start + bound → Counted start t l jobs run → Young clock bound l
counted_young start clock bound t Never jobs run short c = tt
counted_young start clock bound t (Closed r) jobs run short c = tt
counted_young start clock bound t (Open r u d) jobs run short c = omega arith

busy_young : (gained start clock bound : ℕ) (ts : List Task) (ls : List Line) (index total : ℕ) → clock < start + bound
    → Busy gained start ts ls index total → Young clock bound (get_or ls index Never)
busy_young gained start clock bound ts ls index total short (alone t us l ms jobs run _ c e) = counted_young start clock bound t l jobs run short c
busy_young gained start clock bound ts ls index total short (beside t us l ms below jobs run rest _ c b e) =
    busy_young gained start clock bound us ms below rest short b

pub watched_young : (n : Setup) (clock level : ℕ) (ls : List Line) (index width : ℕ) → index < length n.tasks
    → Watched n clock level ls index width → Young clock width (get_or ls index Never)
watched_young n clock level ls index width within (calm c) = calm_young clock width n.tasks ls index within c
watched_young n clock level ls index width within (busy w) =
    busy_young (gain n) w.start clock width n.tasks ls index w.total (omega (arith, w.at, w.short)) w.counts
