-- Releases, refusals, deadlines and orders that are known by hand, of the tables of the worked cases.
--   three_node, two_node   nodes of acq, log and tx, and of acq and tx, by the deadline of tx
--   after_acq, acq_again   a job of acq released at an empty store, and some slots later; then another one
--   both_out               acq and tx released at an empty store, and some slots later
--   at_clock               a node that has stood idle up to a clock
--   some_orders, marked_orders   orders, and how they are marked
--   RuleCases             what the rule says of them
use Rattle.std.specs.Prelude.{◌≡◌, ℕ, List, [], ◌∷◌, replicate, Some, None, slice_index_or}
use Rattle.model.specs.declared.refusal.Refusal.TheVariants.{PromiseTooLow, NoSuchTask, OutsideTask, TooEarly, ClockEnd}
use Rattle.model.specs.declared.order.Ask.TheVariants.{Release, Slots}
use Rattle.model.specs.declared.order.Order.{Order}
use Rattle.model.specs.declared.state.Line.TheVariants.{Never}
use Rattle.model.specs.declared.state.State.{State}
use Rattle.model.specs.declared.slot.Progress.TheVariants.{Finished}
use Rattle.model.specs.declared.slot.Activity.TheVariants.{Waited, Ran}
use Rattle.model.specs.Setups.{Setup, LawfulSetup, OneSided}
use Rattle.model.specs.Slots.{slot_answer}
use Rattle.model.specs.Releases.{release_refusal, release_step}
use Rattle.model.specs.Orders.{slots_refusal, report_of}
use Rattle.model.specs.Amounts.{DrivenBy}
use Rattle.model.specs.Histories.{fresh}
use Rattle.model.specs.Cases.{three_tasks, two_tasks, case_node, run_for, together}

abbrev pub three_node : Setup
three_node = case_node (three_tasks 21)

abbrev pub two_node : ℕ → Setup
two_node slots = case_node (two_tasks slots)

abbrev pub after_acq : ℕ → State
after_acq slots = run_for three_node 10 slots (release_step three_node (fresh 0) 1 1 40)

-- and once more, a period later
abbrev pub acq_again : State
acq_again = release_step three_node (after_acq 8) 1 1 40

-- tx is due after the first number of slots; the second number of slots has gone by
abbrev pub both_out : ℕ → ℕ → State
both_out due slots = run_for (two_node due) 10 slots (together (two_tasks due))

abbrev pub at_clock : ℕ → State
at_clock clock = record {
  clock = clock;
  level = 100;
  released = 0;
  closed = 0;
  finished = 0;
  lines = replicate 16 Never;
  longest = replicate 16 None;
}

-- two slots, a task that is not there, and no slots; the marks that they bring along have no part
abbrev pub some_orders : List Order
some_orders =
    record { ask = Slots 2; mark = 7 } ∷ record { ask = Release 9 1 0; mark = 0 } ∷ record { ask = Slots 0; mark = 15 } ∷ []

abbrev pub marked_orders : List Order
marked_orders =
    record { ask = Slots 2; mark = 0 } ∷ record { ask = Release 9 1 0; mark = 11 } ∷ record { ask = Slots 0; mark = 0 } ∷ []

pub record RuleCases : Type 0 where
  -- the limits of a table, and its sides of the rate
  pub lawful : LawfulSetup three_node
  pub one_sided : OneSided (two_node 7)
  pub not_one_sided : OneSided three_node → ⊥
  -- a release names a task, and keeps that task's limits
  pub no_task_0 : release_refusal three_node (fresh 0) 0 1 0 ≡ Some NoSuchTask
  pub no_task_4 : release_refusal three_node (fresh 0) 4 1 0 ≡ Some NoSuchTask
  pub task_3 : release_refusal three_node (fresh 0) 3 1 25 ≡ None
  pub no_units : release_refusal three_node (fresh 0) 2 0 0 ≡ Some OutsideTask
  pub all_units : release_refusal three_node (fresh 0) 2 3 0 ≡ None
  pub more_units : release_refusal three_node (fresh 0) 2 4 0 ≡ Some OutsideTask
  pub more_draw : release_refusal three_node (fresh 0) 1 1 41 ≡ Some OutsideTask
  -- acq comes again after 8 slots, and not after 7
  pub early : release_refusal three_node (after_acq 7) 1 1 40 ≡ Some TooEarly
  pub again : release_refusal three_node (after_acq 8) 1 1 40 ≡ None
  -- the clock's end
  pub last_release : release_refusal three_node (at_clock 3999999999) 1 1 40 ≡ None
  pub no_release : release_refusal three_node (at_clock 4000000000) 1 1 40 ≡ Some ClockEnd
  pub last_slot : slots_refusal three_node 10 (at_clock 3999999999) 1 ≡ None
  pub past_end : slots_refusal three_node 10 (at_clock 3999999999) 2 ≡ Some ClockEnd
  pub no_slots : slots_refusal three_node 9 (at_clock 4000000000) 0 ≡ None
  -- a promise below the rate comes before the clock's end
  pub too_low : slots_refusal three_node 9 (at_clock 4000000000) 1 ≡ Some PromiseTooLow
  -- due after 6 slots, tx is waited for to the end and abandoned
  pub given_up :
      ((slot_answer (two_node 6) (both_out 6 5) 10).activity ≡ Waited 2) ×
      ((slot_answer (two_node 6) (both_out 6 5) 10).abandoned ≡ 1)
  pub given_up_counts :
      ((report_of (both_out 6 6)).released ≡ 2) ×
      ((report_of (both_out 6 6)).closed ≡ 2) ×
      ((report_of (both_out 6 6)).finished ≡ 1)
  pub given_up_longest :
      (slice_index_or (report_of (both_out 6 6)).longest 0 None ≡ Some 4) ×
      (slice_index_or (report_of (both_out 6 6)).longest 1 None ≡ None)
  -- due after 7, it is finished in the slot that ends at its deadline
  pub just_in_time :
      ((slot_answer (two_node 7) (both_out 7 6) 10).activity ≡ Ran 2 (Finished 7)) ×
      ((slot_answer (two_node 7) (both_out 7 6) 10).abandoned ≡ 0) ×
      ((report_of (both_out 7 7)).finished ≡ 2)
  -- acq's second job responds in 1, and its longest response stays 4
  pub longest_kept :
      ((slot_answer three_node acq_again 10).activity ≡ Ran 1 (Finished 1)) ×
      (slice_index_or (report_of (run_for three_node 10 1 acq_again)).longest 0 None ≡ Some 4)
  -- a refused order leaves the orders behind it to be done
  pub orders : DrivenBy three_node 10 (fresh 0) some_orders marked_orders (10 ∷ 12 ∷ []) (run_for three_node 12 1 (run_for three_node 10 1 (fresh 0)))
