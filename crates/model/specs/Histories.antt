-- Everything that can happen to one node of a table.
use Rattle.std.specs.Prelude.{ℕ, ◌≤◌, List, replicate, None, Option}
use Rattle.model.specs.declared.refusal.Refusal.{Refusal}
use Rattle.model.specs.declared.order.Order.{Order}
use Rattle.model.specs.declared.state.Line.TheVariants.{Never}
use Rattle.model.specs.declared.state.State.{State}
use Rattle.model.specs.Setups.{Setup}
use Rattle.model.specs.Energy.{LawfulLevel}
use Rattle.model.specs.Releases.{release_step}
use Rattle.model.specs.Orders.{Slotted, Driven}

-- a node that was just started
abbrev pub fresh : ℕ → State
fresh level = record {
  clock = 0;
  level = level;
  released = 0;
  closed = 0;
  finished = 0;
  lines = replicate 16 Never;
  longest = replicate 16 None;
}

-- A start at a lawful level over a harvester that promises the rate or more, then any calls in any order, done or refused.
pub data History (n : Setup) (promise : ℕ) : State → Type 0 where
  started : (level : ℕ) → LawfulLevel n level → n.rate ≤ promise → promise ≤ 1000000000 → History n promise (fresh level)
  released : (s : State) (task units draw : ℕ) → History n promise s → History n promise (release_step n s task units draw)
  slotted : (s t : State) (outcome : Option Refusal) → Slotted n promise 1 s outcome t → History n promise s → History n promise t
  driven : (s t : State) (before after : List Order) → Driven n promise s before after t → History n promise s → History n promise t
  reported : (s : State) → History n promise s → History n promise s
