use Rattle.std.proofs.Common.{◌≡◌, false, sym, subst, rules}
use Rattle.model.specs.Refusals.{number_of}
use Rattle.listing.specs.Lines.{refused_text}
use Rattle.listing.specs.Listings.{Listing, of_refusal}
use Rattle.listing.proofs.text.Text.put_listing.Goals as goal

pub returns-in-Err : goal.returns-in-Err
returns-in-Err c =
    let fault = c.in-Err.fault in
    let text : c.put_refused.new.self ≡ refused_text (number_of fault.refusal) fault.at = search rules in
    subst (λ x. Listing c.args.file.now x false) (sym text) (of_refusal fault.refusal fault.at c.in-Err.ensures.0)
