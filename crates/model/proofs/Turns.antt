-- What a slot is used for, as the lines and the level say it.
--   Stands       where a candidate stands among lines that are counted from a number
--   turn_says    a turn is idle only if no job is open; else it is about the most urgent open job, by whether a unit is paid
use Rattle.std.proofs.Common.{◌≡◌, ℕ, zero, suc, ◌+◌, ◌<◌, ◌≤◌, Bool, true, false, cond, leb, List, [], ◌∷◌, length, get_or, Some, None, Option, refl, subst, arith}
use Rattle.std.proofs.lemmas.Bool.{leb-true, leb-false}
use Rattle.model.specs.declared.task.Task.{Task}
use Rattle.model.specs.declared.state.Line.{Line}
use Rattle.model.specs.declared.state.Line.TheVariants.{Never, Closed, Open}
use Rattle.model.specs.declared.state.State.{State}
use Rattle.model.specs.Tasks.{no_task}
use Rattle.model.specs.Setups.{Setup, gain}
use Rattle.model.specs.Slots.{Job, candidate, Turn, turn_with, turn_of}
use Rattle.model.specs.HistoryLaws.{NotOpen, NoneOpen, MostUrgent}

pub record Stands (k : ℕ) (ts : List Task) (ls : List Line) (j : Job) : Type 0 where
  pub place : ℕ
  pub numbered : j.index ≡ k + place
  pub listed : place < length ts
  pub task : get_or ts place no_task ≡ j.task
  pub line : get_or ls place Never ≡ Open j.since j.left j.draw
  pub ahead : (i : ℕ) → i < place → NotOpen (get_or ls i Never)

abbrev StandsIf : ℕ → List Task → List Line → Option Job → Type 0
StandsIf k ts ls None = (i : ℕ) → i < length ts → NotOpen (get_or ls i Never)
StandsIf k ts ls (Some j) = Stands k ts ls j

ahead_past : (l : Line) (ls : List Line) (place : ℕ) → NotOpen l → ((i : ℕ) → i < place → NotOpen (get_or ls i Never)) →
    (i : ℕ) → i < suc place → NotOpen (get_or (l ∷ ls) i Never)
ahead_past l ls place shut ahead zero h = shut
ahead_past l ls place shut ahead (suc i) h = ahead i (omega arith)

stands_past : (k : ℕ) (t : Task) (ts : List Task) (l : Line) (ls : List Line) → NotOpen l →
    (o : Option Job) → StandsIf (suc k) ts ls o → StandsIf k (t ∷ ts) (l ∷ ls) o
stands_past k t ts l ls shut None none = ahead_past l ls (length ts) shut none
stands_past k t ts l ls shut (Some j) p = record {
  place = suc p.place;
  numbered = omega (arith, p.numbered);
  listed = omega (arith, p.listed);
  task = p.task;
  line = p.line;
  ahead = ahead_past l ls p.place shut p.ahead;
}

stands : (k : ℕ) (ts : List Task) (ls : List Line) → StandsIf k ts ls (candidate k ts ls)
stands k [] ls = λ i h. absurd (omega arith)
stands k (t ∷ ts) [] = λ i h. tt
stands k (t ∷ ts) (Never ∷ ls) = stands_past k t ts Never ls tt (candidate (suc k) ts ls) (stands (suc k) ts ls)
stands k (t ∷ ts) (Closed r ∷ ls) = stands_past k t ts (Closed r) ls tt (candidate (suc k) ts ls) (stands (suc k) ts ls)
stands k (t ∷ ts) (Open r u d ∷ ls) = record {
  place = 0;
  numbered = omega arith;
  listed = omega arith;
  task = refl;
  line = refl;
  ahead = λ i h. absurd (omega arith);
}

module _ (n : Setup) (s : State) where
  abbrev pub TurnSays : Turn → Type 0
  TurnSays Turn.idle = NoneOpen n s
  TurnSays (Turn.waits j) = MostUrgent n s j × (s.level + gain n < j.task.draw + n.floor)
  TurnSays (Turn.runs j) = MostUrgent n s j × (j.task.draw + n.floor ≤ s.level + gain n)

  stands_first : (j : Job) → Stands 0 n.tasks s.lines j → MostUrgent n s j
  stands_first j p =
      let placed : p.place ≡ j.index = omega (arith, p.numbered) in
      record {
        listed = omega (arith, p.listed);
        task = subst (λ i. get_or n.tasks i no_task ≡ j.task) placed p.task;
        line = subst (λ i. get_or s.lines i Never ≡ Open j.since j.left j.draw) placed p.line;
        ahead = λ i h. p.ahead i (omega arith);
      }

  says_if : (j : Job) → MostUrgent n s j → (b : Bool) → leb (j.task.draw + n.floor) (s.level + gain n) ≡ b →
      TurnSays (cond b (Turn.runs j) (Turn.waits j))
  says_if j first true e = (first, leb-true _ _ e)
  says_if j first false e = (first, leb-false _ _ e)

  says_with : (o : Option Job) → StandsIf 0 n.tasks s.lines o → TurnSays (turn_with n s.level o)
  says_with None none = none
  says_with (Some j) p = says_if j (stands_first j p) (leb (j.task.draw + n.floor) (s.level + gain n)) refl

  pub turn_says : TurnSays (turn_of n s)
  turn_says = says_with (candidate 0 n.tasks s.lines) (stands 0 n.tasks s.lines)
