use Rattle.listing.proofs.Once.{one_listing}
use Rattle.listing.proofs.laws.listing_laws.Goals as goal

pub returns : goal.returns
returns c = one_listing
