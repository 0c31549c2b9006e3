-- The laws of the search, as proved of every curve.
use Rattle.model.proofs.Searches.{rounds_find, search_ends, few_rounds, rounds_are_one, least_is_one}
use Rattle.model.proofs.laws.search_laws.Goals as goal

pub returns : goal.returns
returns c = record { finds = rounds_find; ends = (search_ends, few_rounds); one = (rounds_are_one, least_is_one) }
