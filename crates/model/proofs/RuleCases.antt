-- The worked cases of the rule, each as it computes.
use Rattle.std.proofs.Common.{zero, suc, ◌≤◌, [], ◌∷◌, Some, None, refl, inl, ⊎_elim, arith, lit<, lit≤}
use Rattle.model.specs.declared.refusal.Refusal.TheVariants.{NoSuchTask}
use Rattle.model.specs.Tasks.{Each, Sized, Timed, Payable}
use Rattle.model.specs.Setups.{gain, LawfulSetup, OneSided}
use Rattle.model.specs.Amounts.{DrivenBy, over_by, next_by, done_by, stop_by, step_by}
use Rattle.model.specs.Histories.{fresh}
use Rattle.model.specs.Cases.{run_for}
use Rattle.model.specs.RuleCases.{three_node, two_node, some_orders, marked_orders, RuleCases}

three_sized : Each Sized three_node.tasks 3
three_sized zero h = (lit≤ tt, lit≤ tt)
three_sized (suc zero) h = (lit≤ tt, lit≤ tt)
three_sized (suc (suc zero)) h = (lit≤ tt, lit≤ tt)
three_sized (suc (suc (suc k))) h = absurd (omega arith)

three_timed : Each Timed three_node.tasks 3
three_timed zero h = (lit≤ tt, lit≤ tt, lit≤ tt)
three_timed (suc zero) h = (lit≤ tt, lit≤ tt, lit≤ tt)
three_timed (suc (suc zero)) h = (lit≤ tt, lit≤ tt, lit≤ tt)
three_timed (suc (suc (suc k))) h = absurd (omega arith)

three_payable : Each (Payable 100) three_node.tasks 3
three_payable zero h = lit≤ tt
three_payable (suc zero) h = lit≤ tt
three_payable (suc (suc zero)) h = lit≤ tt
three_payable (suc (suc (suc k))) h = absurd (omega arith)

three_lawful : LawfulSetup three_node
three_lawful = record {
  rated = (lit≤ tt, lit≤ tt);
  stored = (lit≤ tt, lit≤ tt);
  tasked = record { few = lit≤ tt; sized = three_sized; timed = three_timed; payable = three_payable };
}

-- acq and tx draw more than the rate
two_above : Each (λ t. gain (two_node 7) ≤ t.draw) (two_node 7).tasks 2
two_above zero h = lit≤ tt
two_above (suc zero) h = lit≤ tt
two_above (suc (suc k)) h = absurd (omega arith)

-- log draws less than the rate, and acq more
three_mixed : OneSided three_node → ⊥
three_mixed side =
    ⊎_elim (λ above. let bad : 10 ≤ 0 = above 1 (lit< tt) in omega arith) (λ below. let bad : 40 ≤ 10 = below 0 (lit< tt) in omega arith) side

three_driven : DrivenBy three_node 10 (fresh 0) some_orders marked_orders (10 ∷ 12 ∷ []) (run_for three_node 12 1 (run_for three_node 10 1 (fresh 0)))
three_driven =
    let s = fresh 0 in
    let t = run_for three_node 10 1 s in
    let u = run_for three_node 12 1 t in
    let slots = next_by s 10 (12 ∷ []) u (lit≤ tt, lit≤ tt) (next_by t 12 [] u (lit≤ tt, lit≤ tt) (over_by u)) in
    step_by s u u _ None _ _ (10 ∷ 12 ∷ []) [] (done_by (10 ∷ 12 ∷ []) u refl refl slots)
    (step_by u u u _ (Some NoSuchTask) _ _ [] [] (refl, refl, refl) (step_by u u u _ None _ _ [] [] (done_by [] u refl refl (over_by u)) (stop_by u)))

pub rule_cases : RuleCases
rule_cases = record {
  lawful = three_lawful;
  one_sided = inl two_above;
  not_one_sided = three_mixed;
  no_task_0 = refl;
  no_task_4 = refl;
  task_3 = refl;
  no_units = refl;
  all_units = refl;
  more_units = refl;
  more_draw = refl;
  early = refl;
  again = refl;
  last_release = refl;
  no_release = refl;
  last_slot = refl;
  past_end = refl;
  no_slots = refl;
  too_low = refl;
  given_up = (refl, refl);
  given_up_counts = (refl, refl, refl);
  given_up_longest = (refl, refl);
  just_in_time = (refl, refl, refl);
  longest_kept = (refl, refl);
  orders = three_driven;
}
