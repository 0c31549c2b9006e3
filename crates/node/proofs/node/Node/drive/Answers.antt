use Rattle.std.proofs.Common.{◌≡◌, ◌<◌, [], length, get_or, take, drop, sym, refl, ◌∙◌, subst, append-nil, arith, rules}
use Rattle.std.proofs.lemmas.List.{take_all, drop_all}
use Rattle.model.specs.Amounts.{ObeyedBy, stop_by}
use Rattle.model.proofs.Forgetting.{drive_told}
use Rattle.table.specs.Tables.{setup_of}
use Rattle.node.specs.Marks.{no_order}
use Rattle.node.specs.Outcomes.{refusal_said}
use Rattle.node.proofs.Driving.{rest_more, refusals_counted, driven_here, marks_more, takes_append, driven_asks, driven_not_9}
use Rattle.node.proofs.node.Node.drive.Goals as goal

pub each-preserved : goal.each-preserved
each-preserved g c =
    let i = c.each.order-index in
    let os₀ = c.args.orders.now in
    let os = c.each.orders in
    let m = c.map_or-order.result in
    let x = refusal_said c.obey.result in
    let inv = c.each.invariant in
    let promised = g.H.Harvester.promised in
    let lt₀ : i < length os₀ = omega arith in
    let lt : i < length os = omega arith in
    let ask = (get_or os i no_order).ask in
    let to = c.obey.new.self.state in
    let did = c.obey.ensures.taking in
    let coming = g.H.Harvester.coming in
    let taken = g.H.Harvester.taken in
    let ob =
    subst (λ t. ObeyedBy (setup_of t) (promised c.args.self.now.harvester) c.each.self.state ask x did.0 to) inv.0
    (subst (λ p. ObeyedBy (setup_of c.each.self.table) p c.each.self.state ask x did.0 to) inv.1 did.1) in (
      c.obey.ensures.table ∙ inv.0,
      c.obey.ensures.promise ∙ inv.1,
      rest_more os₀ os i m lt₀ lt inv.2,
      λ ps later u last rest takes.
          let here = driven_here os₀ os i m lt₀ lt inv.2 _ _ _ _ x did.0 (search rules) ob ps later u rest in
          let whole = inv.3 _ _ u last here (takes_append coming taken did.0 later _ _ last did.2 takes) in
          rw (sym (marks_more os₀ os i m lt₀ lt inv.2 ps)) whole,
    )

pub returns-clause-driven : goal.returns-clause-driven
returns-clause-driven g c =
    let inv = c.each.invariant in
    let os₀ = c.args.orders.now in
    let os = c.each.orders in
    let all : take c.each.order-index os ≡ os = take_all _ os (omega arith) in
    let none : drop c.each.order-index os₀ ≡ [] = drop_all _ os₀ (omega arith) in
    let whole = inv.3 [] [] c.each.self.state c.each.self.harvester (rw none (stop_by c.each.self.state)) refl in
    let d = rw (all, append-nil) at whole in
    let told = drive_told _ _ d.1 in
    told

pub returns-clause-taking : goal.returns-clause-taking
returns-clause-taking g c =
    let inv = c.each.invariant in
    let os₀ = c.args.orders.now in
    let os = c.each.orders in
    let all : take c.each.order-index os ≡ os = take_all _ os (omega arith) in
    let none : drop c.each.order-index os₀ ≡ [] = drop_all _ os₀ (omega arith) in
    let whole = inv.3 [] [] c.each.self.state c.each.self.harvester (rw none (stop_by c.each.self.state)) refl in
    let d = rw (all, append-nil) at whole in
    let told = drive_told _ _ d.1 in
    d

pub returns-clause-asks : goal.returns-clause-asks
returns-clause-asks g c =
    let inv = c.each.invariant in
    let os₀ = c.args.orders.now in
    let os = c.each.orders in
    let all : take c.each.order-index os ≡ os = take_all _ os (omega arith) in
    let none : drop c.each.order-index os₀ ≡ [] = drop_all _ os₀ (omega arith) in
    let whole = inv.3 [] [] c.each.self.state c.each.self.harvester (rw none (stop_by c.each.self.state)) refl in
    let d = rw (all, append-nil) at whole in
    let told = drive_told _ _ d.1 in
    driven_asks _ _ _ _ _ _ told

pub returns-clause-paid : goal.returns-clause-paid
returns-clause-paid g c =
    let inv = c.each.invariant in
    let os₀ = c.args.orders.now in
    let os = c.each.orders in
    let all : take c.each.order-index os ≡ os = take_all _ os (omega arith) in
    let none : drop c.each.order-index os₀ ≡ [] = drop_all _ os₀ (omega arith) in
    let whole = inv.3 [] [] c.each.self.state c.each.self.harvester (rw none (stop_by c.each.self.state)) refl in
    let d = rw (all, append-nil) at whole in
    let told = drive_told _ _ d.1 in
    λ enough. driven_not_9 _ _ enough _ _ _ _ told

pub returns-clause-count : goal.returns-clause-count
returns-clause-count g c = c.refused.ensures ∙ refusals_counted _
