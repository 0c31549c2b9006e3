-- Tables whose bounds and slots are known by hand, and what the definitions say of them.
--   case_rate                     the gain that every slot surely brings
--   acq_task, log_task, tx_task   the tasks
--   three_tasks, two_tasks        the tables, each by the deadline of tx
--   free_task, costly_task        a task that draws nothing, and one whose unit draws more than a slot brings
--   case_node, run_for            a node of a table, and some slots of it
--   activity_in                   what a slot is used for
--   together, apart               two tasks released at once, or one slot apart
--   pair_tasks, released_full     the free and the costly task, and a full release of one of them
--   WorkedCases                  the bounds, the rounds and the verdict of each table, and some of its slots
use Rattle.std.specs.Prelude.{◌≡◌, ℕ, zero, suc, List, [], ◌∷◌, Some, None, slice_index_or}
use Rattle.model.specs.declared.task.Task.{Task}
use Rattle.model.specs.declared.state.State.{State}
use Rattle.model.specs.declared.slot.Progress.TheVariants.{GoesOn, Finished}
use Rattle.model.specs.declared.slot.Activity.{Activity}
use Rattle.model.specs.declared.slot.Activity.TheVariants.{Waited, Ran}
use Rattle.model.specs.Tasks.{no_task}
use Rattle.model.specs.Windows.{Accepted}
use Rattle.model.specs.Laws.{TimeBound, GreaterBound, SafeBound, SafeSearch}
use Rattle.model.specs.Setups.{Setup}
use Rattle.model.specs.Energy.{put_level, scaled}
use Rattle.model.specs.Slots.{slot_step, slot_answer}
use Rattle.model.specs.Releases.{release_step}
use Rattle.model.specs.Histories.{fresh}

abbrev pub case_rate : ℕ
case_rate = 10

abbrev pub acq_task : Task
acq_task = record { units = 1; period = 8; deadline = 8; draw = 40 }

abbrev pub log_task : Task
log_task = record { units = 3; period = 12; deadline = 12; draw = 0 }

-- tx, due some slots after its release
abbrev pub tx_task : ℕ → Task
tx_task slots = record { units = 1; period = 30; deadline = slots; draw = 25 }

abbrev pub three_tasks : ℕ → List Task
three_tasks slots = acq_task ∷ log_task ∷ tx_task slots ∷ []

abbrev pub two_tasks : ℕ → List Task
two_tasks slots = acq_task ∷ tx_task slots ∷ []

abbrev pub free_task : Task
free_task = record { units = 1; period = 10; deadline = 10; draw = 0 }

abbrev pub costly_task : Task
costly_task = record { units = 2; period = 10; deadline = 10; draw = 15 }

abbrev pub pair_tasks : List Task
pair_tasks = free_task ∷ costly_task ∷ []

-- a node with room for 100
abbrev pub case_node : List Task → Setup
case_node ts = record { rate = case_rate; floor = 0; top = 100; tasks = ts }

-- a number of slots that all bring the same
abbrev pub run_for : Setup → ℕ → ℕ → State → State
run_for n harvest zero s = s
run_for n harvest (suc k) s = run_for n harvest k (slot_step n s harvest)

-- what the slot after so many others is used for, if each brings the rate
abbrev pub activity_in : List Task → State → ℕ → Activity
activity_in ts s k = (slot_answer (case_node ts) (run_for (case_node ts) case_rate k s) case_rate).activity

-- a full job of the task at an index is released
abbrev pub released_full : List Task → ℕ → State → State
released_full ts index s = release_step (case_node ts) s (suc index) (slice_index_or ts index no_task).units (slice_index_or ts index no_task).draw

-- the two most urgent tasks are released at an empty store
abbrev pub together : List Task → State
together ts = released_full ts 1 (released_full ts 0 (fresh 0))

-- the second task is released at an empty store, and the first one a slot later
abbrev pub apart : List Task → State
apart ts = released_full ts 0 (run_for (case_node ts) case_rate 1 (released_full ts 1 (fresh 0)))

pub record WorkedCases : Type 0 where
  -- acq, log and tx, due after 21 slots
  pub safe_bounds :
      SafeBound case_rate (three_tasks 21) 0 (Some 4) ×
      SafeBound case_rate (three_tasks 21) 1 (Some 7) ×
      SafeBound case_rate (three_tasks 21) 2 (Some 21)
  pub safe_rounds :
      SafeSearch case_rate (three_tasks 21) 0 (Some 4) 2 ×
      SafeSearch case_rate (three_tasks 21) 1 (Some 7) 2 ×
      SafeSearch case_rate (three_tasks 21) 2 (Some 21) 5
  pub time_bounds :
      TimeBound (three_tasks 21) 0 (Some 1) ×
      TimeBound (three_tasks 21) 1 (Some 4) ×
      TimeBound (three_tasks 21) 2 (Some 5)
  pub greater_bounds :
      GreaterBound case_rate (three_tasks 21) 0 (Some 4) ×
      GreaterBound case_rate (three_tasks 21) 1 (Some 4) ×
      GreaterBound case_rate (three_tasks 21) 2 (Some 7)
  pub accepted : Accepted case_rate (three_tasks 21)
  -- tx, due one slot earlier
  pub early_bound : SafeBound case_rate (three_tasks 20) 2 None
  pub early_rounds : SafeSearch case_rate (three_tasks 20) 2 None 4
  pub early_refused : Accepted case_rate (three_tasks 20) → ⊥
  -- acq and tx alone
  pub two_bound : SafeBound case_rate (two_tasks 21) 1 (Some 7)
  pub two_accepted_at_7 : Accepted case_rate (two_tasks 7)
  pub two_refused_at_6 : Accepted case_rate (two_tasks 6) → ⊥
  -- acq and log, released together at an empty store: three slots wait for acq, then it runs, then log
  pub acq_slots :
      (activity_in (three_tasks 21) (together (three_tasks 21)) 0 ≡ Waited 1) ×
      (activity_in (three_tasks 21) (together (three_tasks 21)) 1 ≡ Waited 1) ×
      (activity_in (three_tasks 21) (together (three_tasks 21)) 2 ≡ Waited 1) ×
      (activity_in (three_tasks 21) (together (three_tasks 21)) 3 ≡ Ran 1 (Finished 4))
  pub log_slots :
      (activity_in (three_tasks 21) (together (three_tasks 21)) 4 ≡ Ran 2 GoesOn) ×
      (activity_in (three_tasks 21) (together (three_tasks 21)) 5 ≡ Ran 2 GoesOn) ×
      (activity_in (three_tasks 21) (together (three_tasks 21)) 6 ≡ Ran 2 (Finished 7))
  -- the costly task's response is shorter where both tasks are released together
  pub together_slots :
      (activity_in pair_tasks (together pair_tasks) 0 ≡ Ran 1 (Finished 1)) ×
      (activity_in pair_tasks (together pair_tasks) 1 ≡ Ran 2 GoesOn) ×
      (activity_in pair_tasks (together pair_tasks) 2 ≡ Ran 2 (Finished 3))
  -- it is as long as the safe bound where the free task comes one slot later
  pub apart_slots :
      (activity_in pair_tasks (released_full pair_tasks 1 (fresh 0)) 0 ≡ Waited 2) ×
      (activity_in pair_tasks (apart pair_tasks) 0 ≡ Ran 1 (Finished 1)) ×
      (activity_in pair_tasks (apart pair_tasks) 1 ≡ Ran 2 GoesOn) ×
      (activity_in pair_tasks (apart pair_tasks) 2 ≡ Ran 2 (Finished 4))
  pub costly_bound : SafeBound case_rate pair_tasks 1 (Some 4)
  -- what is drawn is taken before the store is cut at its cap
  pub levels :
      (put_level (case_node []) 100 10 40 ≡ 70) ×
      (put_level (case_node []) 95 10 0 ≡ 100)
  -- half of 15, rounded down
  pub half_let_through : scaled 15 128 ≡ 7
