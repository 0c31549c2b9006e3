use Rattle.std.proofs.Common.{◌≡◌, ◌++◌, sym, subst}
use Rattle.table.specs.Tables.{contents_of, name_list}
use Rattle.analysis.specs.Verdicts.{bounds_list}
use Rattle.listing.specs.Lines.{verdict_text}
use Rattle.listing.specs.Listings.{Listing, of_table, lines_text}
use Rattle.listing.proofs.text.Text.put_table.Goals as goal

pub returns : goal.returns
returns c =
    let v = c.assess-verdict.result in
    let t = c.load.new.table in
    let text : c.put_verdict.new.self ≡ lines_text (name_list t) (bounds_list v) ++ verdict_text v.accepted = cc in
    let told = of_table (contents_of t) (bounds_list v) v.accepted c.in_ok-load.ensures.loads
    c.assess-verdict.ensures.verdict.bounds c.assess-verdict.ensures.verdict.accepted in
    subst (λ x. Listing c.args.file.now x v.accepted) (sym text) told
