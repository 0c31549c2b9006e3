use Rattle.std.proofs.Common.{[], refl, rules}
use Rattle.std.proofs.lemmas.Result.{err_from_is_err_and}
use Rattle.node.proofs.Running.{slots_done, slots_denied, slots_done_by, slots_denied_by}
use Rattle.node.proofs.node.Node.obey_slots.Goals as goal

pub returns-in_err-check_slots : goal.returns-in_err-check_slots
returns-in_err-check_slots g c =
    let told = err_from_is_err_and c.from_residual.result c.from_residual.ensures.1 in
    let why = c.in_err-check_slots.ensures in
    rw (told.1, told.2)
    (record {
      slotted = slots_denied _ _ _ _ c.in_err-check_slots.field-0.0 why;
      taking = ([], slots_denied_by _ _ _ _ c.in_err-check_slots.field-0.0 why, refl);
      table = refl;
      promise = refl;
    })

pub returns : goal.returns
returns g c =
    let run = c.run_slots.ensures.taking in
    record {
      slotted = slots_done _ _ _ _ _ (search rules) c.run_slots.ensures.run;
      taking = (run.0, slots_done_by _ _ _ _ _ _ (search rules) run.1.0 run.1.1, run.2);
      table = c.run_slots.ensures.table;
      promise = c.run_slots.ensures.promise;
    }
