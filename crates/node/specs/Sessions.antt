-- A whole run of a new node: its orders and its report.
use Rattle.std.specs.Prelude.{◌≡◌, ℕ, List}
use Rattle.model.specs.declared.state.State.{State}
use Rattle.model.specs.declared.order.Order.{Order}
use Rattle.model.specs.declared.order.Report.{Report}
use Rattle.model.specs.Setups.{Setup}
use Rattle.model.specs.Orders.{report_of}
use Rattle.model.specs.Amounts.{DrivenBy}
use Rattle.model.specs.Histories.{fresh}
use Rattle.harvest.specs.Takes.{Taking}

-- the orders, driven from a fresh state over a harvester, lead to a state and to this report of it
abbrev pub Session : {H : Type 0} → (H → ℕ) → (H → H → Type 0) → Setup → ℕ → H → ℕ → List Order → List Order → Report → Type 0
Session {H} coming taken n promise harvester level before after report =
    (state : State) × (last : H) × (report ≡ report_of state)
    × Taking coming taken harvester last (λ amounts. DrivenBy n promise (fresh level) before after amounts state)
