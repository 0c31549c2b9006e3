use Rattle.std.proofs.Common.{◌≡◌, sym, rules}
use Rattle.std.proofs.lemmas.Result.{err_from_is_err_and}
use Rattle.table.specs.Loading.{stop, broken, second, unfit, more}
use Rattle.table.proofs.Walks.{end_seen, record_seen, tasks_of, mapped_ok, mapped_err}
use Rattle.table.proofs.load.load_tasks.Goals as goal

pub returns-in_err-record : goal.returns-in_err-record
returns-in_err-record c =
    let p = err_from_is_err_and c.from_residual.result c.from_residual.ensures.1 in
    rw (p.1, p.2) (c.loop-record.invariant _ (broken _ _ _ _ (sym c.in_err-record.ensures.said)))

pub returns-in_default-record : goal.returns-in_default-record
returns-in_default-record c =
    let e = record_seen c.loop-record.reader.file.now c.loop-record.reader.at _ c.in_ok-record.ensures.said c.in-Some.is c.in_default-record.is in
    c.loop-record.invariant _ (second _ _ _ _ _ _ _ e)

pub returns-in_err-table : goal.returns-in_err-table
returns-in_err-table c =
    let p = err_from_is_err_and c.from_residual-in_err-table.result c.from_residual-in_err-table.ensures.1 in
    let m = mapped_err _ c.with_task.result c.in_err-table.field-0.0 c.map_err.ensures.cases c.in_err-table.was in
    let told : c.in_err-table.field-0.0 ≡ record { refusal = m.0; at = c.in-Some.field-0.at } = search rules in
    let e = record_seen c.loop-record.reader.file.now c.loop-record.reader.at _ c.in_ok-record.ensures.said c.in-Some.is c.in-Task.is in
    rw (p.1, p.2, told) (c.loop-record.invariant _ (unfit _ _ _ _ _ _ _ e (rw m.1 at c.with_task.ensures)))

pub loop-record-preserved : goal.loop-record-preserved
loop-record-preserved c =
    let m = mapped_ok _ c.with_task.result c.in_ok-table.table c.map_err.ensures.cases c.in_ok-table.was in
    let told = rw m at c.with_task.ensures in
    let e = record_seen c.loop-record.reader.file.now c.loop-record.reader.at _ c.in_ok-record.ensures.said c.in-Some.is c.in-Task.is in
    λ res go. c.loop-record.invariant res (more _ _ _ _ _ _ res e told.0 (tasks_of c.next.ensures.file told.1 go))

pub returns : goal.returns
returns c = c.loop-record.invariant _ (stop _ _ (end_seen c.loop-record.reader.file.now c.loop-record.reader.at _ c.in_ok-record.ensures.said c.in_default.is))
