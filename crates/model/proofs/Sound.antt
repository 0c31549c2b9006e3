-- What every state of a history keeps, accepted table or not.
--   LineSound    an open job was released, is not yet due, and lies within its task's limits
--   Sound         that of every line, with the level between floor and cap
--   Young         an open job has been open for less than a bound
use Rattle.std.proofs.Common.{◌≡◌, ℕ, ◌+◌, ◌<◌, ◌≤◌, Bool, List, [], ◌∷◌, length, arith}
use Rattle.model.specs.declared.task.Task.{Task}
use Rattle.model.specs.declared.state.Line.{Line}
use Rattle.model.specs.declared.state.Line.TheVariants.{Never, Closed, Open}
use Rattle.model.specs.declared.state.State.{State}
use Rattle.model.specs.Setups.{Setup}
use Rattle.model.specs.Energy.{LawfulLevel}
use Rattle.model.specs.Releases.{clock_end}
use Rattle.model.proofs.Rule.{Runs, goes_on, finishes, less_urgent}

abbrev pub LineSound : ℕ → Task → Line → Type 0
LineSound clock t Never = Unit {0}
LineSound clock t (Closed r) = r ≤ clock
LineSound clock t (Open r u d) = (r ≤ clock) × (clock < r + t.deadline) × (1 ≤ u) × (u ≤ t.units) × (d ≤ t.draw)

abbrev pub LinesSound : ℕ → List Task → List Line → Type 0
LinesSound clock [] ls = Unit {0}
LinesSound clock (t ∷ ts) [] = ⊥
LinesSound clock (t ∷ ts) (l ∷ ls) = LineSound clock t l × LinesSound clock ts ls

pub record Sound (n : Setup) (s : State) : Type 0 where
  pub level : LawfulLevel n s.level
  pub lines : LinesSound s.clock n.tasks s.lines
  pub wide : length s.lines ≡ 16
  pub noted : length s.longest ≡ 16
  pub clock : s.clock ≤ clock_end

abbrev pub Young : ℕ → ℕ → Line → Type 0
Young clock bound Never = Unit {0}
Young clock bound (Closed r) = Unit {0}
Young clock bound (Open r u d) = clock < r + bound

-- a unit that ran keeps the lines sound, and draws at most what the task does

pub runs_sound : (clock : ℕ) {ts : List Task} {ls ms : List Line} {k : Task} {d : ℕ} {e : Bool} →
    Runs ts ls k d e ms → LinesSound clock ts ls → LinesSound clock ts ms
runs_sound clock (goes_on t ts r u d ls two) all = ((all.0.0, all.0.1, omega arith, omega (arith, all.0.3), all.0.4), all.1)
runs_sound clock (finishes t ts r u d ls one) all = (all.0.0, all.1)
runs_sound clock (less_urgent t ts l ls ms k d e shut rest) all = (all.0, runs_sound clock rest all.1)

pub runs_payable : (clock : ℕ) {ts : List Task} {ls ms : List Line} {k : Task} {d : ℕ} {e : Bool} →
    Runs ts ls k d e ms → LinesSound clock ts ls → d ≤ k.draw
runs_payable clock (goes_on t ts r u d ls two) all = all.0.4
runs_payable clock (finishes t ts r u d ls one) all = all.0.4
runs_payable clock (less_urgent t ts l ls ms k d e shut rest) all = runs_payable clock rest all.1
