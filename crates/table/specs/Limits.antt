-- Which task a table takes, and why it refuses another.
--   Allowed        every limit holds
--   TurnedAway    the first limit that does not, in the order of the checks
--   LawfulNode    a node's numbers hold their limits
use Rattle.std.specs.Prelude.{ℕ, ◌<◌, ◌≤◌, List, length}
use Rattle.model.specs.declared.task.Task.{Task}
use Rattle.model.specs.Tasks.{Sized, Timed, Payable, LawfulRate, LawfulStore}
use Rattle.model.specs.declared.refusal.Refusal.{Refusal}
use Rattle.model.specs.declared.refusal.Refusal.TheVariants.{WrongLength, OutsideLimits, TooManyTasks, WrongName, DrawAboveRoom}
use Rattle.table.specs.Contents.{Contents, room}
use Rattle.table.specs.Names.{Short, Graphic}

pub record Allowed (c : Contents) (t : Task) (name : List ℕ) : Type 0 where
  pub short : Short name
  pub few : length c.tasks < 16
  pub sized : Sized t
  pub timed : Timed t
  pub payable : Payable (room c) t
  pub graphic : Graphic name

pub data TurnedAway (c : Contents) (t : Task) (name : List ℕ) : Refusal → Type 0 where
  unnamed : (Short name → ⊥) → TurnedAway c t name WrongLength
  full : Short name → 16 ≤ length c.tasks → TurnedAway c t name TooManyTasks
  outside : Short name → length c.tasks < 16 → (Sized t × Timed t → ⊥) → TurnedAway c t name OutsideLimits
  unpayable : Short name → length c.tasks < 16 → Sized t → Timed t → room c < t.draw → TurnedAway c t name DrawAboveRoom
  misnamed : Short name → length c.tasks < 16 → Sized t → Timed t → Payable (room c) t → (Graphic name → ⊥) → TurnedAway c t name WrongName

abbrev pub LawfulNode : ℕ → ℕ → ℕ → Type 0
LawfulNode rate floor top = LawfulRate rate × LawfulStore floor top
