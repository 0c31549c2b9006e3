-- The laws of one slot that the deadline proofs use, and nothing else of the slot's definition:
-- what the store keeps, the candidate rule and the waiting test. A change of the slot that keeps these laws leaves those proofs alone.
--   Quiet      no job of these tasks is open
--   First      the most urgent open job is one of this task
--   Runs       that job has one unit fewer
--   Leaves     what the store keeps of a slot
--   Used       what a slot is used for
--   Rule       all laws of a slot from one state to the next
--   Reached    the states of all histories, by single releases and single slots
use Rattle.std.proofs.Common.{◌≡◌, ℕ, ◌+◌, ◌-◌, ◌<◌, ◌≤◌, min, Bool, true, false, cond, List, [], ◌∷◌}
use Rattle.model.specs.declared.task.Task.{Task}
use Rattle.model.specs.declared.state.Line.{Line}
use Rattle.model.specs.declared.state.Line.TheVariants.{Closed, Open}
use Rattle.model.specs.declared.state.State.{State}
use Rattle.model.specs.Setups.{Setup, gain}
use Rattle.model.specs.Energy.{Harvest, LawfulLevel}
use Rattle.model.specs.Slots.{slot_step, expired, abandoned}
use Rattle.model.specs.Releases.{release_step, clock_end}
use Rattle.model.specs.Histories.{fresh}
use Rattle.model.specs.HistoryLaws.{NotOpen}

abbrev pub Quiet : List Task → List Line → Type 0
Quiet [] ls = Unit {0}
Quiet (t ∷ ts) [] = Unit {0}
Quiet (t ∷ ts) (l ∷ ls) = NotOpen l × Quiet ts ls

pub data First : List Task → List Line → Task → Type 0 where
  here : (t : Task) (ts : List Task) (r u d : ℕ) (ls : List Line) → First (t ∷ ts) (Open r u d ∷ ls) t
  later : (t : Task) (ts : List Task) (l : Line) (ls : List Line) (k : Task) → NotOpen l → First ts ls k → First (t ∷ ts) (l ∷ ls) k

-- the task whose job ran, what it drew, whether it ended, and the lines after
pub data Runs : List Task → List Line → Task → ℕ → Bool → List Line → Type 0 where
  goes_on : (t : Task) (ts : List Task) (r u d : ℕ) (ls : List Line) → 2 ≤ u →
      Runs (t ∷ ts) (Open r u d ∷ ls) t d false (Open r (u - 1) d ∷ ls)
  finishes : (t : Task) (ts : List Task) (r u d : ℕ) (ls : List Line) → u ≤ 1 → Runs (t ∷ ts) (Open r u d ∷ ls) t d true (Closed r ∷ ls)
  less_urgent : (t : Task) (ts : List Task) (l : Line) (ls ms : List Line) (k : Task) (d : ℕ) (e : Bool) → NotOpen l → Runs ts ls k d e ms →
      Runs (t ∷ ts) (l ∷ ls) k d e (l ∷ ms)

-- from a level, with a harvest, and something drawn: no less than the gain surely brings, and exactly that for a harvest of the gain
pub record Leaves (n : Setup) (level harvest draw after : ℕ) : Type 0 where
  pub most : after ≤ n.top
  pub least : min n.top (level + gain n - draw) ≤ after
  pub exact : harvest ≡ gain n → after ≡ min n.top (level + gain n - draw)

pub data Used (n : Setup) (level harvest after : ℕ) (ts : List Task) (ls : List Line) : Bool → List Line → Type 0 where
  rests : Quiet ts ls → Leaves n level harvest 0 after → Used n level harvest after ts ls false ls
  waits : (k : Task) → First ts ls k → level + gain n < k.draw + n.floor → Leaves n level harvest 0 after →
      Used n level harvest after ts ls false ls
  runs : (k : Task) (d : ℕ) (e : Bool) (ms : List Line) → Runs ts ls k d e ms → k.draw + n.floor ≤ level + gain n →
      Leaves n level harvest d after → Used n level harvest after ts ls e ms

pub record Rule (n : Setup) (s : State) (harvest : ℕ) (t : State) : Type 0 where
  pub ended : Bool
  pub mid : List Line
  pub used : Used n s.level harvest t.level n.tasks s.lines ended mid
  pub clock : t.clock ≡ s.clock + 1
  pub lines : t.lines ≡ expired (s.clock + 1) n.tasks mid
  pub closed : t.closed ≡ s.closed + cond ended 1 0 + abandoned (s.clock + 1) n.tasks mid
  pub finished : t.finished ≡ s.finished + cond ended 1 0

-- every history is made of a start, single releases and single slots
pub data Reached (n : Setup) (promise : ℕ) : State → Type 0 where
  begun : (level : ℕ) → LawfulLevel n level → n.rate ≤ promise → promise ≤ 1000000000 → Reached n promise (fresh level)
  release : (s : State) (task units draw : ℕ) → Reached n promise s → Reached n promise (release_step n s task units draw)
  slot : (s : State) (harvest : ℕ) → Harvest promise harvest → s.clock < clock_end → Reached n promise s →
      Reached n promise (slot_step n s harvest)

-- a state that is reached has a harvester that promises the rate
pub reached_promises : (n : Setup) {promise : ℕ} {s : State} → Reached n promise s → (n.rate ≤ promise) × (promise ≤ 1000000000)
reached_promises n (begun level law a b) = (a, b)
reached_promises n (release s task units draw r) = reached_promises n r
reached_promises n (slot s harvest law room r) = reached_promises n r
