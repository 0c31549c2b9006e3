-- The worked lines, from the digits of their numbers.
use Rattle.std.proofs.Common.{refl, rules}
use Rattle.std.proofs.lemmas.Fmt.{decimal_digit, decimal_step}
use Rattle.listing.proofs.cases.worked_lines.Goals as goal

pub returns : goal.returns
returns c = record {
  all_bounds = search (rules, decimal_digit);
  no_safe_bound = search (rules, decimal_digit);
  no_bounds = search (rules, decimal_step, decimal_digit);
  verdicts = (refl, refl);
  refused_at_0 = search (rules, decimal_digit);
  refused_at_1000 = search (rules, decimal_step, decimal_digit);
}
