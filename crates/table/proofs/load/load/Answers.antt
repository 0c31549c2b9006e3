use Rattle.std.proofs.Common.{refl}
use Rattle.std.proofs.lemmas.Result.{err_from_is_err_and}
use Rattle.table.proofs.Files.{lent_bytes, file_of_its_table}
use Rattle.table.proofs.Once.{no_other}
use Rattle.table.proofs.load.load.Goals as goal

pub returns-in_err-table : goal.returns-in_err-table
returns-in_err-table c =
    let p = err_from_is_err_and c.from_residual.result c.from_residual.ensures.1 in
    rw (p.1, p.2) (record { loads = c.in_err-table.ensures; only = no_other _ _ c.in_err-table.ensures; laid = tt; same = refl })

pub returns : goal.returns
returns c =
    let done = c.in_ok-table.ensures in
    record { loads = done; only = no_other _ _ done; laid = (file_of_its_table _ _ (lent_bytes c.args.file.now c.type_inv.file) done).0; same = tt }
