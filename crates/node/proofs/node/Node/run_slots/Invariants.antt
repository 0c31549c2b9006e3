use Rattle.std.proofs.Common.{◌≡◌, ℕ, ◌+◌, List, length}
use Rattle.model.specs.declared.state.State.{State}
use Rattle.model.specs.Amounts.{RunBy}
use Rattle.harvest.specs.Takes.{Takes, Taking}
use Rattle.table.specs.Tables.{setup_of}
use Rattle.node.proofs.node.Node.run_slots.Given as goal

-- Whatever the slots that are left do from here, all the slots do from the start.
abbrev pub invariant-each : goal.invariant-each
invariant-each g l =
    (l.self.table ≡ l.initial.self.table)
    × (g.H.Harvester.promised l.self.harvester ≡ g.H.Harvester.promised l.initial.self.harvester)
    × (l.self.state.clock ≡ l.initial.self.state.clock + l.counter)
    × ((later : List ℕ) (t : State) (last : g.row.H.Denot) →
    RunBy (setup_of l.initial.self.table) (g.H.Harvester.promised l.initial.self.harvester) l.self.state later t →
    Takes g.H.Harvester.coming g.H.Harvester.taken l.self.harvester later last →
    Taking g.H.Harvester.coming g.H.Harvester.taken l.initial.self.harvester last
    (λ amounts. (length amounts ≡ l.counter + length later)
    × RunBy (setup_of l.initial.self.table) (g.H.Harvester.promised l.initial.self.harvester) l.initial.self.state amounts t))
