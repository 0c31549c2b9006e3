use Rattle.std.proofs.Common.{◌≡◌, [], ◌∷◌, length, refl, ap, ◌∙◌, subst, arith}
use Rattle.model.specs.Energy.{Harvest}
use Rattle.model.specs.Slots.{slot_step}
use Rattle.model.specs.Amounts.{RunBy, over_by, next_by}
use Rattle.model.proofs.Forgetting.{run_told}
use Rattle.table.specs.Tables.{setup_of}
use Rattle.node.proofs.Running.{run_at}
use Rattle.node.proofs.node.Node.run_slots.Goals as goal

pub each-preserved : goal.each-preserved
each-preserved g c =
    let inv = c.each.invariant in
    let did = c.step.ensures in
    let promise = g.H.Harvester.promised c.args.self.now.harvester in
    let amount = g.H.Harvester.coming c.each.self.harvester in
    let law = subst (λ p. Harvest p amount) inv.1 did.brought in
    let to = did.state ∙ ap (λ t. slot_step (setup_of t) c.each.self.state amount) inv.0 in (
      did.table ∙ inv.0,
      did.promise ∙ inv.1,
      omega (arith, ap (λ s. s.clock) to, inv.2),
      λ later t last run takes.
          let here = next_by c.each.self.state amount later t law (subst (λ s. RunBy (setup_of c.args.self.now.table) promise s later t) to run) in
          let whole = inv.3 (amount ∷ later) t last here (refl, _, did.once, takes) in
          (whole.0, (omega (arith, whole.1.0), whole.1.1), whole.2),
    )

pub returns : goal.returns
returns g c =
    let inv = c.each.invariant in
    let whole = inv.3 [] c.each.self.state c.each.self.harvester (over_by _) refl in
    let many : length whole.0 ≡ c.args.count = omega (arith, whole.1.0) in
    let n = setup_of c.args.self.now.table in
    let promise = g.H.Harvester.promised c.args.self.now.harvester in
    record {
      run = run_at n promise _ _ _ _ many (run_told n promise whole.1.1);
      taking = (whole.0, (many, whole.1.1), whole.2);
      table = inv.0;
      promise = inv.1;
    }
