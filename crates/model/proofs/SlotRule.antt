-- The slot as it is defined keeps the laws of a slot.
--   Picked           what the candidate is: the first open job, at a place in the lines
--   candidate_says   the candidate is absent exactly where no job is open
--   rule_of_slot     every slot whose harvest is at least the gain keeps the rule
use Rattle.std.proofs.Common.{◌≡◌, ℕ, suc, ◌+◌, ◌-◌, ◌≤◌, min, Bool, true, false, cond, leb, List, [], ◌∷◌, set, Some, None, Option, refl, ap, subst, arith}
use Rattle.std.proofs.lemmas.Bool.{leb-true, leb-false}
use Rattle.model.specs.declared.task.Task.{Task}
use Rattle.model.specs.declared.state.Line.{Line}
use Rattle.model.specs.declared.state.Line.TheVariants.{Never, Closed, Open}
use Rattle.model.specs.declared.state.State.{State}
use Rattle.model.specs.Setups.{Setup, gain}
use Rattle.model.specs.Energy.{put_level}
use Rattle.model.specs.Slots.{Job, Turn, candidate, turn_with, turn_of, drawn, ends, worked, unit_fewer, slot_step}
use Rattle.model.specs.HistoryLaws.{NotOpen}
use Rattle.model.proofs.Rule.{Quiet, First, here, later, Runs, goes_on, finishes, less_urgent, Leaves, Used, rests, waits, runs, Rule}

-- the candidate's place among these lines, whose first has the number k, and what one unit of it does
pub record Picked (k : ℕ) (ts : List Task) (ls : List Line) (j : Job) : Type 0 where
  pub place : ℕ
  pub numbered : j.index ≡ k + place
  pub first : First ts ls j.task
  pub works : Runs ts ls j.task j.draw (leb j.left 1) (set ls place (unit_fewer j))

abbrev pub Says : ℕ → List Task → List Line → Option Job → Type 0
Says k ts ls None = Quiet ts ls
Says k ts ls (Some j) = Picked k ts ls j

-- a line without an open job in front changes nothing but the number
says_past : (k : ℕ) (t : Task) (ts : List Task) (l : Line) (ls : List Line) → NotOpen l →
    (o : Option Job) → Says (suc k) ts ls o → Says k (t ∷ ts) (l ∷ ls) o
says_past k t ts l ls shut None quiet = (shut, quiet)
says_past k t ts l ls shut (Some j) p = record {
  place = suc p.place;
  numbered = omega (arith, p.numbered);
  first = later t ts l ls j.task shut p.first;
  works = less_urgent t ts l ls (set ls p.place (unit_fewer j)) j.task j.draw (leb j.left 1) shut p.works;
}

works_by : (t : Task) (ts : List Task) (r u d : ℕ) (ls : List Line) (b : Bool) → leb u 1 ≡ b →
    Runs (t ∷ ts) (Open r u d ∷ ls) t d b (cond b (Closed r) (Open r (u - 1) d) ∷ ls)
works_by t ts r u d ls true e = finishes t ts r u d ls (leb-true u 1 e)
works_by t ts r u d ls false e = goes_on t ts r u d ls (leb-false u 1 e)

pub candidate_says : (k : ℕ) (ts : List Task) (ls : List Line) → Says k ts ls (candidate k ts ls)
candidate_says k [] ls = tt
candidate_says k (t ∷ ts) [] = tt
candidate_says k (t ∷ ts) (Never ∷ ls) = says_past k t ts Never ls tt (candidate (suc k) ts ls) (candidate_says (suc k) ts ls)
candidate_says k (t ∷ ts) (Closed r ∷ ls) = says_past k t ts (Closed r) ls tt (candidate (suc k) ts ls) (candidate_says (suc k) ts ls)
candidate_says k (t ∷ ts) (Open r u d ∷ ls) = record {
  place = 0;
  numbered = omega arith;
  first = here t ts r u d ls;
  works = works_by t ts r u d ls (leb u 1) refl;
}

-- a harvest of at least the gain leaves at least what the gain would
pub leaves : (n : Setup) (level harvest draw : ℕ) → gain n ≤ harvest → Leaves n level harvest draw (put_level n level harvest draw)
leaves n level harvest draw le = record {
  most = omega arith;
  least = omega arith;
  exact = λ e. ap (λ x. min n.top (level + x - draw)) e;
}

module _ (n : Setup) (level harvest : ℕ) (ls : List Line) (enough : gain n ≤ harvest) where
  abbrev UsedBy : Turn → Type 0
  UsedBy v = Used n level harvest (put_level n level harvest (drawn v)) n.tasks ls (ends v) (worked v ls)

  -- by whether the level and the gain pay for a unit
  used_if : (j : Job) → Picked 0 n.tasks ls j → (b : Bool) → leb (j.task.draw + n.floor) (level + gain n) ≡ b →
      UsedBy (cond b (Turn.runs j) (Turn.waits j))
  used_if j p true e =
      let placed : p.place ≡ j.index = omega (arith, p.numbered) in
      let mid = worked (Turn.runs j) ls in
      let works = subst (λ i. Runs n.tasks ls j.task j.draw (leb j.left 1) (set ls i (unit_fewer j))) placed p.works in
      runs j.task j.draw (leb j.left 1) mid works (leb-true _ _ e) (leaves n level harvest j.draw enough)
  used_if j p false e = waits j.task p.first (leb-false _ _ e) (leaves n level harvest 0 enough)

  used_by : (o : Option Job) → Says 0 n.tasks ls o → UsedBy (turn_with n level o)
  used_by None quiet = rests quiet (leaves n level harvest 0 enough)
  used_by (Some j) p = used_if j p (leb (j.task.draw + n.floor) (level + gain n)) refl

pub rule_of_slot : (n : Setup) (s : State) (h : ℕ) → gain n ≤ h → Rule n s h (slot_step n s h)
rule_of_slot n s h enough = record {
  ended = ends (turn_of n s);
  mid = worked (turn_of n s) s.lines;
  used = used_by n s.level h s.lines enough (candidate 0 n.tasks s.lines) (candidate_says 0 n.tasks s.lines);
  clock = refl;
  lines = refl;
  closed = refl;
  finished = refl;
}
