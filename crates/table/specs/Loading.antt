-- What a whole file loads as: a table's contents, or the first refusal with its place.
--   Loaded   the two outcomes
--   Tasks    the tasks from a place on, added to what has been read
--   Loads    a whole file
use Rattle.std.specs.Prelude.{◌≡◌, ℕ, List}
use Rattle.model.specs.declared.task.Task.{Task}
use Rattle.model.specs.declared.refusal.Refusal.{Refusal}
use Rattle.model.specs.declared.refusal.Refusal.TheVariants.{WrongPlace, OutsideLimits}
use Rattle.table.specs.Contents.{Contents, bare, extended}
use Rattle.table.specs.Layout.{node, task}
use Rattle.table.specs.Limits.{Allowed, TurnedAway, LawfulNode}
use Rattle.table.specs.Reading.{step_at, end, got, bad}

pub data Loaded : Type 0 where
  full : Contents → Loaded
  refused : Refusal → ℕ → Loaded

pub data Tasks (file : List ℕ) : ℕ → Contents → Loaded → Type 0 where
  stop : (at : ℕ) (c : Contents) → step_at file at ≡ end → Tasks file at c (full c)
  broken : (at : ℕ) (c : Contents) (r : Refusal) (p : ℕ) → step_at file at ≡ bad r p → Tasks file at c (refused r p)
  second : (at : ℕ) (c : Contents) (rate floor top p to : ℕ) → step_at file at ≡ got (node rate floor top) p to →
      Tasks file at c (refused WrongPlace p)
  unfit : (at : ℕ) (c : Contents) (t : Task) (name : List ℕ) (p to : ℕ) (r : Refusal) → step_at file at ≡ got (task t name) p to →
      TurnedAway c t name r → Tasks file at c (refused r p)
  more : (at : ℕ) (c : Contents) (t : Task) (name : List ℕ) (p to : ℕ) (res : Loaded) → step_at file at ≡ got (task t name) p to →
      Allowed c t name → Tasks file to (extended c t name) res → Tasks file at c res

pub data Loads (file : List ℕ) : Loaded → Type 0 where
  empty : step_at file 0 ≡ end → Loads file (refused WrongPlace 0)
  faulty : (r : Refusal) (p : ℕ) → step_at file 0 ≡ bad r p → Loads file (refused r p)
  headless : (t : Task) (name : List ℕ) (p to : ℕ) → step_at file 0 ≡ got (task t name) p to → Loads file (refused WrongPlace 0)
  outside : (rate floor top p to : ℕ) → step_at file 0 ≡ got (node rate floor top) p to → (LawfulNode rate floor top → ⊥) →
      Loads file (refused OutsideLimits 0)
  begins : (rate floor top p to : ℕ) (res : Loaded) → step_at file 0 ≡ got (node rate floor top) p to → LawfulNode rate floor top →
      Tasks file to (bare rate floor top) res → Loads file res
