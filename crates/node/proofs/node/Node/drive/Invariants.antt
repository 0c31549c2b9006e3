use Rattle.std.proofs.Common.{◌≡◌, ℕ, List, ◌++◌, take, drop}
use Rattle.model.specs.declared.state.State.{State}
use Rattle.model.specs.declared.order.Order.{Order}
use Rattle.model.specs.Amounts.{DrivenBy}
use Rattle.harvest.specs.Takes.{Takes, Taking}
use Rattle.table.specs.Tables.{setup_of}
use Rattle.node.proofs.node.Node.drive.Given as goal

-- Whatever the orders that are left give from here, all the orders give from the start.
abbrev pub invariant-each : goal.invariant-each
invariant-each g l =
    (l.self.table ≡ l.initial.self.table)
    × (g.H.Harvester.promised l.self.harvester ≡ g.H.Harvester.promised l.initial.self.harvester)
    × (drop l.order-index l.orders ≡ drop l.order-index l.initial.orders)
    × ((ps : List Order) (later : List ℕ) (t : State) (last : g.row.H.Denot) →
    DrivenBy (setup_of l.initial.self.table) (g.H.Harvester.promised l.initial.self.harvester) l.self.state
    (drop l.order-index l.initial.orders) ps later t →
    Takes g.H.Harvester.coming g.H.Harvester.taken l.self.harvester later last →
    Taking g.H.Harvester.coming g.H.Harvester.taken l.initial.self.harvester last
    (λ amounts. DrivenBy (setup_of l.initial.self.table) (g.H.Harvester.promised l.initial.self.harvester) l.initial.self.state
    l.initial.orders (take l.order-index l.orders ++ ps) amounts t))
