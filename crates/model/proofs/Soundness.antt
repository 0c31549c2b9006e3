-- Every state that is reached is sound.
--   DoneRelease          what a release that is not refused met
--   expired_sound         so does one more slot, once each job that is due is abandoned
--   sound                 every state that is reached is sound
use Rattle.std.proofs.Common.{◌≡◌, ℕ, zero, suc, ◌+◌, ◌<◌, ◌≤◌, Bool, true, false, cond, ◌&&◌, ltb, leb, List, [], ◌∷◌, length, get_or, set, replicate, Some, None, Option, sym, refl, ap, ◌∙◌, subst, arith, length-set}
use Rattle.std.proofs.lemmas.Bool.{ltb-true, leb-true, eqb-false, and_parts, cond_both}
use Rattle.model.specs.declared.task.Task.{Task}
use Rattle.model.specs.declared.refusal.Refusal.{Refusal}
use Rattle.model.specs.declared.state.Line.{Line}
use Rattle.model.specs.declared.state.Line.TheVariants.{Never, Closed, Open}
use Rattle.model.specs.declared.state.State.{State}
use Rattle.model.specs.Tasks.{no_task}
use Rattle.model.specs.Setups.{Setup, gain, LawfulSetup}
use Rattle.model.specs.Energy.{LawfulLevel}
use Rattle.model.specs.Slots.{Turn, turn_of, due, shut, expired, noted, slot_step}
use Rattle.model.specs.Releases.{clock_end, job_fits, too_early, refusal_at, opened_if, release_step}
use Rattle.model.specs.Histories.{fresh}
use Rattle.model.proofs.Rule.{Runs, goes_on, finishes, less_urgent, Used, rests, waits, runs, Reached, begun, release, slot, reached_promises}
use Rattle.model.proofs.Sound.{LineSound, LinesSound, Sound, runs_sound, runs_payable}
use Rattle.model.proofs.SlotRule.{rule_of_slot}

-- Releases

pub record DoneRelease (n : Setup) (s : State) (index units draw : ℕ) : Type 0 where
  pub within : index < length n.tasks
  pub some : 1 ≤ units
  pub few : units ≤ (get_or n.tasks index no_task).units
  pub payable : draw ≤ (get_or n.tasks index no_task).draw
  pub before_end : s.clock < clock_end
  pub in_time : too_early s.clock (get_or n.tasks index no_task) (get_or s.lines index Never) ≡ false

-- a refusal that is none means that the test before it passed, and what is inside gave none
passed : (b : Bool) (o : Option Refusal) (r : Refusal) → cond b o (Some r) ≡ None → (b ≡ true) × (o ≡ None)
passed true o r e = (refl, e)
passed false o r e = let z : ◌≡◌ {A = ℕ} 0 1 = cc in absurd (omega arith)

failed : (b : Bool) (r : Refusal) → cond b (Some r) None ≡ None → b ≡ false
failed true r e = cc
failed false r e = refl

pub done_release : (n : Setup) (s : State) (index units draw : ℕ) → refusal_at n s index units draw ≡ None → DoneRelease n s index units draw
done_release n s index units draw e =
    let t = get_or n.tasks index no_task in
    let a = passed (ltb index (length n.tasks)) _ _ e in
    let b = passed (job_fits t units draw) _ _ a.1 in
    let c = passed (ltb s.clock clock_end) _ _ b.1 in
    let p = and_parts (leb 1 units) (leb units t.units && leb draw t.draw) b.0 in
    let q = and_parts (leb units t.units) (leb draw t.draw) p.1 in
    record {
      within = ltb-true _ _ a.0;
      some = leb-true _ _ p.0;
      few = leb-true _ _ q.0;
      payable = leb-true _ _ q.1;
      before_end = ltb-true _ _ c.0;
      in_time = failed _ _ c.1;
    }

-- Lines

pub never_sound : (clock : ℕ) (ts : List Task) (m : ℕ) → length ts ≤ m → LinesSound clock ts (replicate m Never)
never_sound clock [] m le = tt
never_sound clock (t ∷ ts) zero le = absurd (omega arith)
never_sound clock (t ∷ ts) (suc m) le = (tt, never_sound clock ts m (omega arith))

pub set_sound : (clock : ℕ) (ts : List Task) (ls : List Line) (index : ℕ) (l : Line) → index < length ts →
    LineSound clock (get_or ts index no_task) l → LinesSound clock ts ls → LinesSound clock ts (set ls index l)
set_sound clock [] ls index l lt one all = absurd (omega arith)
set_sound clock (t ∷ ts) [] index l lt one all = all
set_sound clock (t ∷ ts) (m ∷ ls) zero l lt one all = (one, all.1)
set_sound clock (t ∷ ts) (m ∷ ls) (suc index) l lt one all = (all.0, set_sound clock ts ls index l (omega arith) one all.1)

-- the line of a task is sound
pub line_sound_at : (clock : ℕ) (ts : List Task) (ls : List Line) (index : ℕ) → index < length ts →
    LinesSound clock ts ls → LineSound clock (get_or ts index no_task) (get_or ls index Never)
line_sound_at clock [] ls index lt all = absurd (omega arith)
line_sound_at clock (t ∷ ts) [] index lt all = absurd all
line_sound_at clock (t ∷ ts) (l ∷ ls) zero lt all = all.0
line_sound_at clock (t ∷ ts) (l ∷ ls) (suc index) lt all = line_sound_at clock ts ls index (omega arith) all.1

pub runs_wide : {ts : List Task} {ls ms : List Line} {k : Task} {d : ℕ} {e : Bool} → Runs ts ls k d e ms → length ms ≡ length ls
runs_wide (goes_on t ts r u d ls two) = refl
runs_wide (finishes t ts r u d ls one) = refl
runs_wide (less_urgent t ts l ls ms k d e shut rest) = ap suc (runs_wide rest)

module _ (n : Setup) (clock level harvest after : ℕ) where
  pub used_sound : {ts : List Task} {ls ms : List Line} {e : Bool} →
      Used n level harvest after ts ls e ms → LinesSound clock ts ls → LinesSound clock ts ms
  used_sound (rests quiet leave) all = all
  used_sound (waits k first low leave) all = all
  used_sound (runs k d e ms work high leave) all = runs_sound clock work all

  pub used_wide : {ts : List Task} {ls ms : List Line} {e : Bool} → Used n level harvest after ts ls e ms → length ms ≡ length ls
  used_wide (rests quiet leave) = refl
  used_wide (waits k first low leave) = refl
  used_wide (runs k d e ms work high leave) = runs_wide work

  -- a draw never goes below the floor
  pub used_level : {ts : List Task} {ls ms : List Line} {e : Bool} → n.floor ≤ n.top → n.floor ≤ level →
      Used n level harvest after ts ls e ms → LinesSound clock ts ls → LawfulLevel n after
  used_level store low (rests quiet leave) all = (omega (arith, leave.least), leave.most)
  used_level store low (waits k first short leave) all = (omega (arith, leave.least), leave.most)
  used_level store low (runs k d e ms work high leave) all = (omega (arith, leave.least, runs_payable clock work all), leave.most)

expired_line_sound : (clock : ℕ) (t : Task) (l : Line) → LineSound clock t l → (b : Bool) → due (clock + 1) t l ≡ b →
    LineSound (clock + 1) t (cond b (shut l) l)
expired_line_sound clock t Never one true e = tt
expired_line_sound clock t Never one false e = tt
expired_line_sound clock t (Closed r) one true e = omega arith
expired_line_sound clock t (Closed r) one false e = omega arith
expired_line_sound clock t (Open r u d) one true e = omega (arith, one.0)
expired_line_sound clock t (Open r u d) one false e =
    let apart = eqb-false (r + t.deadline) (clock + 1) e in
    (omega (arith, one.0), omega (arith, one.1, apart), one.2, one.3, one.4)

pub expired_sound : (clock : ℕ) (ts : List Task) (ls : List Line) → LinesSound clock ts ls → LinesSound (clock + 1) ts (expired (clock + 1) ts ls)
expired_sound clock [] ls all = tt
expired_sound clock (t ∷ ts) [] all = all
expired_sound clock (t ∷ ts) (l ∷ ls) all =
    (expired_line_sound clock t l all.0 (due (clock + 1) t l) refl, expired_sound clock ts ls all.1)

pub expired_wide : (clock : ℕ) (ts : List Task) (ls : List Line) → length (expired clock ts ls) ≡ length ls
expired_wide clock [] ls = refl
expired_wide clock (t ∷ ts) [] = refl
expired_wide clock (t ∷ ts) (l ∷ ls) = ap suc (expired_wide clock ts ls)

noted_wide : (v : Turn) (clock : ℕ) (rs : List (Option ℕ)) → length (noted v clock rs) ≡ length rs
noted_wide Turn.idle clock rs = refl
noted_wide (Turn.waits j) clock rs = refl
noted_wide (Turn.runs j) clock rs = cond_both (leb j.left 1) _ rs (λ x. length x ≡ length rs) (λ _. length-set rs j.index _) (λ _. refl)

-- States

module _ (n : Setup) (lawful : LawfulSetup n) where
  pub fresh_sound : (level : ℕ) → LawfulLevel n level → Sound n (fresh level)
  fresh_sound level law = record {
    level = law;
    lines = never_sound 0 n.tasks 16 lawful.tasked.few;
    wide = refl;
    noted = refl;
    clock = omega arith;
  }

  opened_sound : (s : State) (index units draw : ℕ) (o : Option Refusal) → refusal_at n s index units draw ≡ o →
      Sound n s → Sound n (opened_if o s index units draw)
  opened_sound s index units draw (Some r) e before = before
  opened_sound s index units draw None e before =
      let met = done_release n s index units draw e in
      let timed = lawful.tasked.timed index met.within in
      let deadline : s.clock < s.clock + (get_or n.tasks index no_task).deadline = omega (arith, timed.0, met.some, met.few) in
      record {
        level = before.level;
        lines = set_sound s.clock n.tasks s.lines index (Open s.clock units draw) met.within
            (omega arith, deadline, met.some, met.few, met.payable) before.lines;
        wide = length-set s.lines index (Open s.clock units draw) ∙ before.wide;
        noted = before.noted;
        clock = before.clock;
      }

  pub release_sound : (s : State) (task units draw : ℕ) → Sound n s → Sound n (release_step n s task units draw)
  release_sound s zero units draw before = before
  release_sound s (suc index) units draw before = opened_sound s index units draw (refusal_at n s index units draw) refl before

  pub slot_sound : (s : State) (harvest : ℕ) → gain n ≤ harvest → s.clock < clock_end → Sound n s → Sound n (slot_step n s harvest)
  slot_sound s harvest enough room before =
      let rule = rule_of_slot n s harvest enough in
      let mid = used_sound n s.clock s.level harvest _ rule.used before.lines in
      let wide = used_wide n s.clock s.level harvest _ rule.used ∙ before.wide in
      record {
        level = used_level n s.clock s.level harvest (slot_step n s harvest).level
            lawful.stored.0 before.level.0 rule.used before.lines;
        lines = subst (λ x. LinesSound (s.clock + 1) n.tasks x) (sym rule.lines) (expired_sound s.clock n.tasks rule.mid mid);
        wide = ap length rule.lines ∙ (expired_wide (s.clock + 1) n.tasks rule.mid ∙ wide);
        noted = noted_wide (turn_of n s) s.clock s.longest ∙ before.noted;
        clock = omega arith;
      }

  pub sound : (promise : ℕ) (s : State) → Reached n promise s → Sound n s
  sound promise s (begun level law a b) = fresh_sound level law
  sound promise s (release x task units draw r) = release_sound x task units draw (sound promise x r)
  sound promise s (slot x harvest law room r) =
      slot_sound x harvest (omega (arith, law.0, (reached_promises n r).0)) room (sound promise x r)
