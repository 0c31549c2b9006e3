use Rattle.std.proofs.Common.{Ok, rules}
use Rattle.listing.specs.Listings.{ListedInto}
use Rattle.listing.proofs.Once.{only_listing}
use Rattle.listing.proofs.list.listing.Goals as goal

pub returns-in_err-length : goal.returns-in_err-length
returns-in_err-length c =
    let listed : ListedInto c.args.file.now c.args.output.now c.from_residual.result c.copy_out.new.output = search rules in
    record { listed = listed; only = only_listing _ _ _ c.from_residual.result listed }

pub returns : goal.returns
returns c =
    let listed : ListedInto c.args.file.now c.args.output.now (Ok (record { length = c.in_ok-length.length; accepted = c.put_listing-accepted.result })) c.copy_out.new.output = search rules in
    record { listed = listed; only = only_listing _ _ _ (Ok _) listed }
