-- The worked cases: each bound by one computed test, each search by its rounds, each slot as it computes.
use Rattle.std.proofs.Common.{◌≡◌, ℕ, zero, suc, ◌<◌, true, List, length, Some, None, Option, refl, arith, lit<, lit≤}
use Rattle.model.specs.declared.task.Task.{Task}
use Rattle.model.specs.Demand.{time_curve, greater_curve, safe_curve}
use Rattle.model.specs.Windows.{found, above, again, Accepted}
use Rattle.model.specs.Laws.{TimeBound, GreaterBound, SafeBound, SafeSearch, window_limit}
use Rattle.model.specs.Cases.{case_rate, three_tasks, two_tasks, pair_tasks}
use Rattle.model.proofs.Searches.{present_fits, absent_fits_none}
use Rattle.model.proofs.Computed.{is_least, is_least_tells}
use Rattle.model.proofs.RuleCases.{rule_cases}
use Rattle.model.proofs.cases.worked_cases.Goals as goal

module _ (ts : List Task) (index : ℕ) (bound : Option ℕ) where
  safe : is_least (safe_curve case_rate ts index) (window_limit ts index) bound ≡ true → SafeBound case_rate ts index bound
  safe passed = is_least_tells (safe_curve case_rate ts index) (window_limit ts index) bound passed

  in_time : is_least (time_curve ts index) (window_limit ts index) bound ≡ true → TimeBound ts index bound
  in_time passed = is_least_tells (time_curve ts index) (window_limit ts index) bound passed

  greater : is_least (greater_curve case_rate ts index) (window_limit ts index) bound ≡ true → GreaterBound case_rate ts index bound
  greater passed = is_least_tells (greater_curve case_rate ts index) (window_limit ts index) bound passed

-- a table with a task whose safe bound is absent is refused
refused : (ts : List Task) (index : ℕ) → SafeBound case_rate ts index None → index < length ts → Accepted case_rate ts → ⊥
refused ts index absent h accepted = let fit = accepted index h in absent_fits_none case_rate ts index absent fit.0 fit.1

acq_safe : SafeBound case_rate (three_tasks 21) 0 (Some 4)
acq_safe = safe (three_tasks 21) 0 (Some 4) refl

log_safe : SafeBound case_rate (three_tasks 21) 1 (Some 7)
log_safe = safe (three_tasks 21) 1 (Some 7) refl

tx_safe : SafeBound case_rate (three_tasks 21) 2 (Some 21)
tx_safe = safe (three_tasks 21) 2 (Some 21) refl

acq_rounds : SafeSearch case_rate (three_tasks 21) 0 (Some 4) 2
acq_rounds = again 1 (Some 4) 1 (lit< tt) (lit≤ tt) (found 4 (lit≤ tt))

log_rounds : SafeSearch case_rate (three_tasks 21) 1 (Some 7) 2
log_rounds = again 1 (Some 7) 1 (lit< tt) (lit≤ tt) (found 7 (lit≤ tt))

-- the windows 1, 10, 14, 17 and 21
tx_rounds : SafeSearch case_rate (three_tasks 21) 2 (Some 21) 5
tx_rounds =
    again 1 (Some 21) 4 (lit< tt) (lit≤ tt)
    (again 10 (Some 21) 3 (lit< tt) (lit≤ tt) (again 14 (Some 21) 2 (lit< tt) (lit≤ tt) (again 17 (Some 21) 1 (lit< tt) (lit≤ tt) (found 21 (lit≤ tt)))))

-- the same windows up to 17, whose value is past the deadline
early_rounds : SafeSearch case_rate (three_tasks 20) 2 None 4
early_rounds =
    again 1 None 3 (lit< tt) (lit≤ tt) (again 10 None 2 (lit< tt) (lit≤ tt) (again 14 None 1 (lit< tt) (lit≤ tt) (above 17 (lit< tt) (lit< tt))))

three_accepted : Accepted case_rate (three_tasks 21)
three_accepted zero h = (4, present_fits case_rate (three_tasks 21) 0 4 acq_safe)
three_accepted (suc zero) h = (7, present_fits case_rate (three_tasks 21) 1 7 log_safe)
three_accepted (suc (suc zero)) h = (21, present_fits case_rate (three_tasks 21) 2 21 tx_safe)
three_accepted (suc (suc (suc k))) h = absurd (omega arith)

two_accepted : Accepted case_rate (two_tasks 7)
two_accepted zero h = (4, (lit≤ tt, lit≤ tt, lit≤ tt))
two_accepted (suc zero) h = (7, (lit≤ tt, lit≤ tt, lit≤ tt))
two_accepted (suc (suc k)) h = absurd (omega arith)

pub returns : goal.returns
returns c = record {
  worked = record {
    safe_bounds = (acq_safe, log_safe, tx_safe);
    safe_rounds = (acq_rounds, log_rounds, tx_rounds);
    time_bounds = (in_time (three_tasks 21) 0 (Some 1) refl, in_time (three_tasks 21) 1 (Some 4) refl, in_time (three_tasks 21) 2 (Some 5) refl);
    greater_bounds = (greater (three_tasks 21) 0 (Some 4) refl, greater (three_tasks 21) 1 (Some 4) refl, greater (three_tasks 21) 2 (Some 7) refl);
    accepted = three_accepted;
    early_bound = safe (three_tasks 20) 2 None refl;
    early_rounds = early_rounds;
    early_refused = refused (three_tasks 20) 2 (safe (three_tasks 20) 2 None refl) (lit< tt);
    two_bound = safe (two_tasks 21) 1 (Some 7) refl;
    two_accepted_at_7 = two_accepted;
    two_refused_at_6 = refused (two_tasks 6) 1 (safe (two_tasks 6) 1 None refl) (lit< tt);
    acq_slots = (refl, refl, refl, refl);
    log_slots = (refl, refl, refl);
    together_slots = (refl, refl, refl);
    apart_slots = (refl, refl, refl, refl);
    costly_bound = safe pair_tasks 1 (Some 4) refl;
    levels = (refl, refl);
    half_let_through = refl;
  };
  rule = rule_cases;
}
