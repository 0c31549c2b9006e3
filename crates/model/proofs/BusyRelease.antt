-- A release keeps every task's busy window: one more job is counted, or nothing was open and a window begins at this clock.
use Rattle.std.proofs.Common.{◌≡◌, ℕ, zero, suc, ◌+◌, ◌<◌, ◌≤◌, ◌⊎◌, List, length, get_or, set, refl, inl, inr, arith}
use native.Mathlib.Nat.{le-max_right}
use Rattle.model.specs.declared.task.Task.{Task}
use Rattle.model.specs.declared.state.Line.{Line}
use Rattle.model.specs.declared.state.Line.TheVariants.{Never, Closed, Open}
use Rattle.model.specs.Tasks.{no_task}
use Rattle.model.specs.Setups.{Setup, gain}
use Rattle.model.proofs.Sound.{LinesSound}
use Rattle.model.proofs.Busy.{Calm, Pending, open_here, open_later, Counted, Busy, alone, beside, SomePending, calm_or_pending, window_begins}
use Rattle.model.proofs.Busy.{Watched, calm, busy}

-- at least a period has passed since the task's last release
abbrev pub Spaced : ℕ → Task → Line → Type 0
Spaced clock t Never = Unit {0}
Spaced clock t (Closed r) = r + t.period ≤ clock
Spaced clock t (Open r u d) = r + t.period ≤ clock

counted_one_more : (start clock : ℕ) (t : Task) (l : Line) (jobs run units draw : ℕ) → start ≤ clock → Spaced clock t l → units ≤ t.units
    → Counted start t l jobs run → Counted start t (Open clock units draw) (suc jobs) run
counted_one_more start clock t Never jobs run units draw begun spaced few (none, no_run) =
    rw none (omega arith, omega arith, begun)
counted_one_more start clock t (Closed r) jobs run units draw begun spaced few (apart, within) = (omega arith, omega arith, begun)
counted_one_more start clock t (Open r u d) jobs run units draw begun spaced few (apart, within, since) = (omega arith, omega arith, begun)

module _ (gained start clock units draw : ℕ) (begun : start ≤ clock) where
  pub release_busy : (ts : List Task) (ls : List Line) (index total job : ℕ) → Spaced clock (get_or ts job no_task) (get_or ls job Never)
      → units ≤ (get_or ts job no_task).units → Busy gained start ts ls index total → Busy gained start ts (set ls job (Open clock units draw)) index total
  release_busy ts ls index total zero spaced few (alone t us l ms jobs run _ c e) =
      alone t us (Open clock units draw) ms (suc jobs) run total (counted_one_more start clock t l jobs run units draw begun spaced few c) e
  release_busy ts ls index total (suc job) spaced few (alone t us l ms jobs run _ c e) =
      alone t us l (set ms job (Open clock units draw)) jobs run total c e
  release_busy ts ls index total zero spaced few (beside t us l ms below jobs run rest _ c b e) =
      beside t us (Open clock units draw) ms below (suc jobs) run rest total (counted_one_more start clock t l jobs run units draw begun spaced few c) b e
  release_busy ts ls index total (suc job) spaced few (beside t us l ms below jobs run rest _ c b e) =
      beside t us l (set ms job (Open clock units draw)) below jobs run rest total c (release_busy us ms below rest job spaced few b) e

-- what was open stays open
pub release_pending : (clock units draw : ℕ) {ts : List Task} {ls : List Line} {k : Task} {index : ℕ} (job : ℕ) → Pending ts ls k index
    → Pending ts (set ls job (Open clock units draw)) k index
release_pending clock units draw zero open_here = open_here
release_pending clock units draw (suc job) open_here = open_here
release_pending clock units draw zero (open_later p) = open_later p
release_pending clock units draw (suc job) (open_later p) = open_later (release_pending clock units draw job p)

module _
    (n : Setup) (clock level : ℕ) (ls : List Line) (job units draw : ℕ) (gains : 1 ≤ gain n) (floored : n.floor ≤ level)
    (sound : LinesSound clock n.tasks ls) (spaced : Spaced clock (get_or n.tasks job no_task) (get_or ls job Never))
    (few : units ≤ (get_or n.tasks job no_task).units) (index width : ℕ) (within : index < length n.tasks) (wide : 1 ≤ width) where
  -- nothing was open: the window begins here
  release_begins : (after : List Line) → after ≡ set ls job (Open clock units draw) → Calm n.tasks ls index
      → Calm n.tasks after index ⊎ SomePending n.tasks after index → Watched n clock level after index width
  release_begins after made c (inl still) = calm still
  release_begins after made c (inr p) = busy (record {
    start = clock;
    age = 0;
    total = 0;
    witness = p.0;
    at = omega arith;
    counts = rw made (release_busy (gain n) clock clock units draw (omega arith) n.tasks ls index 0 job spaced few
        (window_begins (gain n) clock clock n.tasks ls index within sound c));
    covered = omega arith;
    waiting = p.1;
    next = omega (arith, le-max_right p.0.draw (gain n));
    short = wide;
  })

  pub release_watched : Watched n clock level ls index width → Watched n clock level (set ls job (Open clock units draw)) index width
  release_watched (calm c) = release_begins _ refl c (calm_or_pending n.tasks (set ls job (Open clock units draw)) index)
  release_watched (busy w) = busy (record {
    start = w.start;
    age = w.age;
    total = w.total;
    witness = w.witness;
    at = w.at;
    counts = release_busy (gain n) w.start clock units draw (omega (arith, w.at)) n.tasks ls index w.total job spaced few w.counts;
    covered = w.covered;
    waiting = release_pending clock units draw job w.waiting;
    next = w.next;
    short = w.short;
  })
