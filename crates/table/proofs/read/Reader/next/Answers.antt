use Rattle.std.proofs.Common.{rules}
use Rattle.std.proofs.lemmas.Slice.{between_to_end}
use Rattle.table.proofs.read.Reader.next.Goals as goal

pub returns-in_err-part-clause-said : goal.returns-in_err-part-clause-said
returns-in_err-part-clause-said c = search (rules, between_to_end)

pub returns-in_default-clause-said : goal.returns-in_default-clause-said
returns-in_default-clause-said c = search (rules, between_to_end)

pub returns-clause-said : goal.returns-clause-said
returns-clause-said c = search (rules, between_to_end)
