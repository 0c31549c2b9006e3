-- The lines of the run that shows a task's longest response, and what their open jobs still owe.
--   owed            the weighted units left of the jobs of the tasks up to an index
--   WorstLines     how these lines stand while the first job of the task at the index is open
--   UnitRan        what a unit that runs changes: unit_ran
--   unexpired       where no job is abandoned, the deadlines change no line
use Rattle.std.proofs.Common.{◌≡◌, ℕ, zero, suc, ◌+◌, ◌-◌, ◌*◌, ◌≤◌, Bool, true, false, cond, ◌⊎◌, List, [], ◌∷◌, length, refl, ap, ◌∙◌, inl, inr, ⊎_elim, arith}
use Rattle.model.specs.declared.task.Task.{Task}
use Rattle.model.specs.declared.state.Line.{Line}
use Rattle.model.specs.declared.state.Line.TheVariants.{Never, Closed, Open}
use Rattle.model.specs.Tasks.{Each}
use Rattle.model.specs.Demand.{job_count}
use Rattle.model.specs.Slots.{due, shut, expired, abandoned}
use Rattle.model.specs.HistoryLaws.{NotOpen}
use Rattle.model.proofs.Rule.{Quiet, Runs, goes_on, finishes, less_urgent}
use Rattle.model.proofs.Curves.{each_later}

abbrev pub units_left : Line → ℕ
units_left Never = 0
units_left (Closed r) = 0
units_left (Open r u d) = u

abbrev pub owed : (Task → ℕ) → List Task → List Line → ℕ → ℕ
owed weight [] ls index = 0
owed weight (t ∷ ts) [] index = 0
owed weight (t ∷ ts) (l ∷ ls) zero = units_left l * weight t
owed weight (t ∷ ts) (l ∷ ls) (suc index) = units_left l * weight t + owed weight ts ls index

-- a more urgent task: a full job was released in every period that began before clock v
abbrev pub EveryPeriod : ℕ → Task → Line → Type 0
EveryPeriod v t Never = ⊥
EveryPeriod v t (Closed r) = r + t.period ≡ job_count t v * t.period
EveryPeriod v t (Open r u d) = (r + t.period ≡ job_count t v * t.period) × (1 ≤ u) × (d ≡ t.draw)

-- the task at the index: the full job that was released at clock 0 is still open
abbrev pub FirstOpen : Task → Line → Type 0
FirstOpen t Never = ⊥
FirstOpen t (Closed r) = ⊥
FirstOpen t (Open r u d) = (r ≡ 0) × (1 ≤ u) × (d ≡ t.draw)

abbrev pub WorstLines : ℕ → List Task → List Line → ℕ → Type 0
WorstLines v [] ls index = ⊥
WorstLines v (t ∷ ts) [] index = ⊥
WorstLines v (t ∷ ts) (l ∷ ls) zero = FirstOpen t l
WorstLines v (t ∷ ts) (l ∷ ls) (suc index) = EveryPeriod v t l × WorstLines v ts ls index

pub worst_lines_not_quiet : (v : ℕ) (ts : List Task) (ls : List Line) (index : ℕ) → WorstLines v ts ls index → Quiet ts ls → ⊥
worst_lines_not_quiet v [] ls index w q = w
worst_lines_not_quiet v (t ∷ ts) [] index w q = w
worst_lines_not_quiet v (t ∷ ts) (Never ∷ ls) zero w q = w
worst_lines_not_quiet v (t ∷ ts) (Closed r ∷ ls) zero w q = w
worst_lines_not_quiet v (t ∷ ts) (Open r u d ∷ ls) zero w q = q.0
worst_lines_not_quiet v (t ∷ ts) (l ∷ ls) (suc index) w q = worst_lines_not_quiet v ts ls index w.1 q.1

-- A unit that runs

shut_owes_none : (weight : Task → ℕ) (t : Task) (l : Line) → NotOpen l → units_left l * weight t ≡ 0
shut_owes_none weight t Never h = omega arith
shut_owes_none weight t (Closed r) h = omega arith
shut_owes_none weight t (Open r u d) h = absurd h

one_unit_fewer : (u w : ℕ) → 1 ≤ u → u * w ≡ w + (u - 1) * w
one_unit_fewer u w h =
    let e : u ≡ suc (u - 1) = omega arith in
    let product : u * w ≡ suc (u - 1) * w = ap (λ x. x * w) e in
    omega arith

last_unit : (u w : ℕ) → 1 ≤ u → u ≤ 1 → u * w ≡ w
last_unit u w h k =
    let e : u ≡ 1 = omega arith in
    let product : u * w ≡ 1 * w = ap (λ x. x * w) e in
    omega arith

-- a unit of a full job of task k ran, and paid its weight; the job of the task at the index is still open, or nothing is owed any more
pub record UnitRan (weight : Task → ℕ) (v index : ℕ) (ts : List Task) (ls ms : List Line) (k : Task) (d : ℕ) : Type 0 where
  pub full : d ≡ k.draw
  pub pays : owed weight ts ls index ≡ weight k + owed weight ts ms index
  pub outcome : WorstLines v ts ms index ⊎ (owed weight ts ms index ≡ 0)

unit_ran_later :
    (weight : Task → ℕ) (v index : ℕ) (t : Task) (ts : List Task) (l : Line) (ls ms : List Line) (k : Task) (d : ℕ) →
    NotOpen l → EveryPeriod v t l → UnitRan weight v index ts ls ms k d → UnitRan weight v (suc index) (t ∷ ts) (l ∷ ls) (l ∷ ms) k d
unit_ran_later weight v index t ts l ls ms k d shut each rest =
    let none = shut_owes_none weight t l shut in
    record {
      full = rest.full;
      pays = omega (arith, rest.pays);
      outcome = ⊎_elim (λ w. inl (each, w)) (λ e. inr (omega arith)) rest.outcome;
    }

pub unit_ran :
    (weight : Task → ℕ) (v : ℕ) {ts : List Task} {ls ms : List Line} {k : Task} {d : ℕ} {e : Bool} (index : ℕ) →
    Runs ts ls k d e ms → WorstLines v ts ls index → UnitRan weight v index ts ls ms k d
unit_ran weight v zero (goes_on t ts r u d ls two) w = record {
  full = w.2;
  pays = one_unit_fewer u (weight t) w.1;
  outcome = inl (w.0, omega arith, w.2);
}
unit_ran weight v (suc index) (goes_on t ts r u d ls two) w = record {
  full = w.0.2;
  pays = omega (arith, one_unit_fewer u (weight t) w.0.1);
  outcome = inl ((w.0.0, omega arith, w.0.2), w.1);
}
unit_ran weight v zero (finishes t ts r u d ls one) w = record {
  full = w.2;
  pays = omega (arith, last_unit u (weight t) w.1 one);
  outcome = inr (omega arith);
}
unit_ran weight v (suc index) (finishes t ts r u d ls one) w = record {
  full = w.0.2;
  pays = omega (arith, last_unit u (weight t) w.0.1 one);
  outcome = inl (w.0.0, w.1);
}
unit_ran weight v zero (less_urgent t ts Never ls ms k d e shut runs) w = absurd w
unit_ran weight v zero (less_urgent t ts (Closed r) ls ms k d e shut runs) w = absurd w
unit_ran weight v zero (less_urgent t ts (Open r u c) ls ms k d e shut runs) w = absurd shut
unit_ran weight v (suc index) (less_urgent t ts l ls ms k d e shut runs) w =
    unit_ran_later weight v index t ts l ls ms k d shut w.0 (unit_ran weight v index runs w.1)

-- the task of the unit that ran is one of the table
pub runs_one_of :
    (P : Task → Type 0) {ts : List Task} {ls ms : List Line} {k : Task} {d : ℕ} {e : Bool} →
    Runs ts ls k d e ms → Each P ts (length ts) → P k
runs_one_of P (goes_on t ts r u d ls two) each = each 0 (omega arith)
runs_one_of P (finishes t ts r u d ls one) each = each 0 (omega arith)
runs_one_of P (less_urgent t ts l ls ms k d e shut runs) each = runs_one_of P runs (each_later P t ts each)

-- No job is abandoned

kept_line : (b : Bool) (l : Line) (others : ℕ) → cond b 1 0 + others ≡ 0 → cond b (shut l) l ≡ l
kept_line true l others h = absurd (omega arith)
kept_line false l others h = refl

no_others : (b : Bool) (others : ℕ) → cond b 1 0 + others ≡ 0 → others ≡ 0
no_others true others h = absurd (omega arith)
no_others false others h = omega arith

pub unexpired : (clock : ℕ) (ts : List Task) (ls : List Line) → abandoned clock ts ls ≡ 0 → expired clock ts ls ≡ ls
unexpired clock [] ls h = refl
unexpired clock (t ∷ ts) [] h = refl
unexpired clock (t ∷ ts) (l ∷ ls) h =
    ap (λ (x : Line). x ∷ expired clock ts ls) (kept_line (due clock t l) l (abandoned clock ts ls) h)
    ∙ ap (λ (ms : List Line). l ∷ ms) (unexpired clock ts ls (no_others (due clock t l) (abandoned clock ts ls) h))
