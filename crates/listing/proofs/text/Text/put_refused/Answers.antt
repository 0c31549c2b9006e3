-- The reason's number has at most three digits, and the place at most twenty.
use Rattle.std.proofs.Common.{rules}
use Rattle.std.proofs.lemmas.Fmt.{length-decimal-le}
use Rattle.listing.proofs.text.Text.put_refused.Goals as goal

pub put_number-requires-2 : goal.put_number-requires-2
put_number-requires-2 c = search (rules, length-decimal-le 3, length-decimal-le 20)

pub put-requires-3 : goal.put-requires-3
put-requires-3 c = search (rules, length-decimal-le 3, length-decimal-le 20)
