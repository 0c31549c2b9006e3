use Rattle.std.specs.List.{reduce}
use Rattle.std.proofs.Common.{◌≡◌, min, sym, ◌∙◌}
use Rattle.std.proofs.lemmas.Iterator.{YieldsList-from_slice}
use Rattle.std.proofs.lemmas.Iterator.Adapters.{option_map_id}
use Rattle.std.proofs.lemmas.Iterator.Consumers.{YieldsList-from_copied, min_from_yields_List}
use Rattle.harvest.proofs.Amounts.{least_reduced}
use Rattle.harvest.proofs.trace.lowest.Goals as goal

pub returns : goal.returns
returns c =
    let found : c.min.result ≡ reduce min c.args.samples.now =
    sym (option_map_id _) ∙ min_from_yields_List _ _ c.min.ensures.ran (YieldsList-from_copied (YieldsList-from_slice c.args.samples.now cc)) in
    let e = least_reduced c.args.samples.now in
    cc
