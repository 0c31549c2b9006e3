-- A drive of a node that was just started, told by what it was started with.
use Rattle.std.proofs.Common.{◌≡◌, ℕ, List, subst}
use Rattle.model.specs.declared.state.State.{State}
use Rattle.model.specs.declared.order.Order.{Order}
use Rattle.model.specs.declared.order.Report.{Report}
use Rattle.model.specs.Orders.{report_of}
use Rattle.model.specs.Amounts.{DrivenBy}
use Rattle.model.specs.Histories.{fresh}
use Rattle.harvest.specs.Takes.{Taking}
use Rattle.table.specs.declared.table.Table.{Table}
use Rattle.table.specs.Tables.{setup_of}
use Rattle.node.specs.Sessions.{Session}

module _ {H : Type 0} (coming promised : H → ℕ) (taken : H → H → Type 0) (before after : List Order) (end : State) (last : H) where
  pub session_of : (a b : Table) (s : State) (h k : H) (level : ℕ) (report : Report) → a ≡ b → s ≡ fresh level → h ≡ k → report ≡ report_of end →
      Taking coming taken h last (λ amounts. DrivenBy (setup_of a) (promised h) s before after amounts end) →
      Session coming taken (setup_of b) (promised k) k level before after report
  session_of a b s h k level report table state harvester told driven =
      let at_table = subst (λ t. Taking coming taken h last (λ amounts. DrivenBy (setup_of t) (promised h) s before after amounts end)) table driven in
      let at_state = subst (λ x. Taking coming taken h last (λ amounts. DrivenBy (setup_of b) (promised h) x before after amounts end)) state at_table in
      let at_harvester =
      subst (λ x. Taking coming taken x last (λ amounts. DrivenBy (setup_of b) (promised x) (fresh level) before after amounts end)) harvester at_state in
      (end, last, told, at_harvester)
