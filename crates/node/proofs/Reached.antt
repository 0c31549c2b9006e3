-- What is true of a node's state, where the history that reached it is hidden, and how that history goes on.
--   started_at    a start at a lawful level
--   released_to, slotted_to   one call more
--   lines_of      there is a line for each task
--   met_of, within_of   each closed job of an accepted table was finished, within its task's safe bound
use Rattle.std.proofs.Common.{◌≡◌, ℕ, ◌<◌, ◌≤◌, length, get_or, Some, None, Option, arith}
use mathlib.Core.Logic.{∥∥₁_elim}
use mathlib.Core.HLevel.{Unit-prop}
use native.Mathlib.Bridge.{le_prop}
use native.Mathlib.Nat.{ℕ_set}
use Rattle.model.specs.declared.state.State.{State}
use Rattle.model.specs.Windows.{Accepted}
use Rattle.model.specs.Energy.{Harvest, LawfulLevel}
use Rattle.model.specs.Slots.{slot_step}
use Rattle.model.specs.Releases.{clock_end, release_step}
use Rattle.model.specs.Orders.{report_of}
use Rattle.model.specs.OnTime.{AtMost}
use Rattle.model.specs.Histories.{History, fresh, started}
use Rattle.model.proofs.Reached as go_on
use Rattle.model.proofs.Reached.{wide_of}
use Rattle.model.proofs.DeadlineTheorem.{accepted_never_late, accepted_within_bounds}
use Rattle.table.specs.declared.table.Table.{Table}
use Rattle.table.specs.Tables.{task_list, setup_of}
use Rattle.table.proofs.Setups.{setup_lawful}
use Rattle.node.specs.Reports.{ResponsesWithin}

pub started_at : (t : Table) (level : ℕ) → LawfulLevel (setup_of t) level → ∥ History (setup_of t) t.rate (fresh level) ∥₁
started_at t level law = ∣ started level law (omega arith) t.rated.1 ∣₁

at_most_prop : (limit : ℕ) (o : Option ℕ) → IsProp (AtMost limit o)
at_most_prop limit None = Unit-prop
at_most_prop limit (Some r) = le_prop

module _ (table : Table) (s : State) (e : ∥ History (setup_of table) table.rate s ∥₁) where
  pub released_to : (task units draw : ℕ) (t : State) → t ≡ release_step (setup_of table) s task units draw →
      ∥ History (setup_of table) table.rate t ∥₁
  released_to task units draw t p = go_on.released_to (setup_of table) table.rate s t e task units draw p

  pub slotted_to : (harvest : ℕ) (t : State) → s.clock < clock_end → Harvest table.rate harvest → t ≡ slot_step (setup_of table) s harvest →
      ∥ History (setup_of table) table.rate t ∥₁
  slotted_to harvest t room law p = go_on.slotted_to (setup_of table) table.rate s t e harvest law room p

  pub lines_of : length (task_list table) ≤ length s.lines
  lines_of = let lawful = setup_lawful table in omega (arith, wide_of (setup_of table) lawful table.rate s e, lawful.tasked.few)

  pub met_of : Accepted table.rate (task_list table) → s.closed ≡ s.finished
  met_of accepted =
      ∥∥₁_elim e (ℕ_set _ _) (λ h. accepted_never_late (setup_of table) (setup_lawful table) accepted table.rate s h)

  pub within_of : Accepted table.rate (task_list table) → ResponsesWithin table.rate (task_list table) (report_of s)
  within_of accepted index bound safe =
      ∥∥₁_elim e (at_most_prop bound (get_or s.longest index None))
      (λ h. accepted_within_bounds (setup_of table) (setup_lawful table) accepted table.rate s h index bound safe)
