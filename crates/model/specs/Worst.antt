-- A history that fills every window as far as it goes: start at the floor, the harvest always the rate, and at every clock a full
-- release of each task up to an index, the most urgent first; those that come too early are refused. On a one-sided table the first
-- job of the last of these tasks finishes, if in time, in a window that fits its demand.
use Rattle.std.specs.Prelude.{ℕ, zero, suc, slice_index_or}
use Rattle.model.specs.declared.state.State.{State}
use Rattle.model.specs.Tasks.{no_task}
use Rattle.model.specs.Setups.{Setup}
use Rattle.model.specs.Slots.{slot_step}
use Rattle.model.specs.Releases.{release_step}
use Rattle.model.specs.Histories.{fresh}

-- full releases of the first tasks
abbrev pub full_releases : Setup → ℕ → State → State
full_releases n zero s = s
full_releases n (suc k) s =
    release_step n (full_releases n k s) (suc k) (slice_index_or n.tasks k no_task).units (slice_index_or n.tasks k no_task).draw

-- the state at a clock, for the task at an index
abbrev pub worst_run : Setup → ℕ → ℕ → State
worst_run n index zero = fresh n.floor
worst_run n index (suc clock) = slot_step n (full_releases n (suc index) (worst_run n index clock)) n.rate
