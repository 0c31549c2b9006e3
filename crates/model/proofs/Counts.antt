-- How many jobs are open, and what releases and slots change of it.
--   not_open_if_done     a release that is done finds no open job of its task
--   opened_count         then there is one more
--   used_count           a job that ends is one fewer
--   expired_count        so is each job that is abandoned
--   closed_and_open      every job that was released is closed or open
--   finished_closed      every finished job is closed
use Rattle.std.proofs.Common.{◌≡◌, ℕ, zero, suc, ◌+◌, ◌<◌, ◌≤◌, Bool, true, false, cond, List, [], ◌∷◌, length, get_or, set, replicate, Some, None, Option, refl, ap, arith}
use Rattle.std.proofs.lemmas.Bool.{false≢true, ltb-false}
use Rattle.model.specs.declared.task.Task.{Task}
use Rattle.model.specs.declared.refusal.Refusal.{Refusal}
use Rattle.model.specs.declared.state.Line.{Line}
use Rattle.model.specs.declared.state.Line.TheVariants.{Never, Closed, Open}
use Rattle.model.specs.declared.state.State.{State}
use Rattle.model.specs.Tasks.{no_task}
use Rattle.model.specs.Setups.{Setup, gain, LawfulSetup}
use Rattle.model.specs.Slots.{due, shut, expired, abandoned, slot_step}
use Rattle.model.specs.Releases.{too_early, refusal_at, opened_if, release_step}
use Rattle.model.specs.HistoryLaws.{NotOpen, one_if_open, open_jobs}
use Rattle.model.proofs.Rule.{Runs, goes_on, finishes, less_urgent, Used, rests, waits, runs, Reached, begun, release, slot, reached_promises}
use Rattle.model.proofs.Sound.{LineSound, Sound}
use Rattle.model.proofs.SlotRule.{rule_of_slot}
use Rattle.model.proofs.Soundness.{done_release, line_sound_at, sound}

never_count : (ts : List Task) (m : ℕ) → open_jobs ts (replicate m Never) ≡ 0
never_count [] m = refl
never_count (t ∷ ts) zero = refl
never_count (t ∷ ts) (suc m) = omega (arith, never_count ts m)

-- a line with an open job is never a period old
not_open_after_period : (clock : ℕ) (t : Task) (l : Line) → t.deadline ≤ t.period → LineSound clock t l →
    too_early clock t l ≡ false → NotOpen l
not_open_after_period clock t Never timed one e = tt
not_open_after_period clock t (Closed r) timed one e = tt
not_open_after_period clock t (Open r u d) timed one e = omega (arith, one.1, ltb-false clock (r + t.period) e)

pub opened_count : (ts : List Task) (ls : List Line) (index r u d : ℕ) → index < length ts → index < length ls →
    NotOpen (get_or ls index Never) → open_jobs ts (set ls index (Open r u d)) ≡ open_jobs ts ls + 1
opened_count [] ls index r u d listed wide free = absurd (omega arith)
opened_count (t ∷ ts) [] index r u d listed wide free = absurd (omega arith)
opened_count (t ∷ ts) (Never ∷ ls) zero r u d listed wide free = omega arith
opened_count (t ∷ ts) (Closed q ∷ ls) zero r u d listed wide free = omega arith
opened_count (t ∷ ts) (Open q v e ∷ ls) zero r u d listed wide free = absurd free
opened_count (t ∷ ts) (l ∷ ls) (suc index) r u d listed wide free =
    omega (arith, opened_count ts ls index r u d (omega arith) (omega arith) free)

runs_count : {ts : List Task} {ls ms : List Line} {k : Task} {d : ℕ} {e : Bool} → Runs ts ls k d e ms →
    open_jobs ts ms + cond e 1 0 ≡ open_jobs ts ls
runs_count (goes_on t ts r u d ls two) = omega arith
runs_count (finishes t ts r u d ls one) = omega arith
runs_count (less_urgent t ts l ls ms k d e free rest) = omega (arith, runs_count rest)

pub used_count : (n : Setup) (level harvest after : ℕ) {ts : List Task} {ls ms : List Line} {e : Bool} →
    Used n level harvest after ts ls e ms → open_jobs ts ms + cond e 1 0 ≡ open_jobs ts ls
used_count n level harvest after (rests quiet leave) = omega arith
used_count n level harvest after (waits k first low leave) = omega arith
used_count n level harvest after (runs k d e ms work high leave) = runs_count work

expired_line_count : (clock : ℕ) (t : Task) (l : Line) (b : Bool) → due clock t l ≡ b →
    one_if_open (cond b (shut l) l) + cond b 1 0 ≡ one_if_open l
expired_line_count clock t l false e = omega arith
expired_line_count clock t Never true e = absurd (false≢true e)
expired_line_count clock t (Closed r) true e = absurd (false≢true e)
expired_line_count clock t (Open r u d) true e = omega arith

pub expired_count : (clock : ℕ) (ts : List Task) (ls : List Line) →
    open_jobs ts (expired clock ts ls) + abandoned clock ts ls ≡ open_jobs ts ls
expired_count clock [] ls = refl
expired_count clock (t ∷ ts) [] = refl
expired_count clock (t ∷ ts) (l ∷ ls) = omega (arith, expired_line_count clock t l (due clock t l) refl, expired_count clock ts ls)

module _ (n : Setup) (lawful : LawfulSetup n) where
  pub not_open_if_done : (s : State) (index units draw : ℕ) → Sound n s → refusal_at n s index units draw ≡ None →
      NotOpen (get_or s.lines index Never)
  not_open_if_done s index units draw before e =
      let met = done_release n s index units draw e in
      let one = line_sound_at s.clock n.tasks s.lines index met.within before.lines in
      not_open_after_period s.clock (get_or n.tasks index no_task) _ (lawful.tasked.timed index met.within).1 one met.in_time

  -- every job that was released is closed or open
  abbrev Counted : State → Type 0
  Counted s = s.released ≡ s.closed + open_jobs n.tasks s.lines

  opened_counted : (s : State) (index units draw : ℕ) (o : Option Refusal) → refusal_at n s index units draw ≡ o →
      Sound n s → Counted s → Counted (opened_if o s index units draw)
  opened_counted s index units draw (Some r) e before counted = counted
  opened_counted s index units draw None e before counted =
      let met = done_release n s index units draw e in
      let wide : index < length s.lines = omega (arith, met.within, lawful.tasked.few, before.wide) in
      let free = not_open_if_done s index units draw before e in
      omega (arith, counted, opened_count n.tasks s.lines index s.clock units draw met.within wide free)

  release_counted : (s : State) (task units draw : ℕ) → Sound n s → Counted s → Counted (release_step n s task units draw)
  release_counted s zero units draw before counted = counted
  release_counted s (suc index) units draw before counted = opened_counted s index units draw (refusal_at n s index units draw) refl before counted

  slot_counted : (s : State) (harvest : ℕ) → gain n ≤ harvest → Counted s → Counted (slot_step n s harvest)
  slot_counted s harvest enough counted =
      let rule = rule_of_slot n s harvest enough in
      let worked = used_count n s.level harvest _ rule.used in
      let left = expired_count (s.clock + 1) n.tasks rule.mid in
      let lines = ap (open_jobs n.tasks) rule.lines in
      omega (arith, counted, worked, left, lines, rule.closed)

  pub closed_and_open : (promise : ℕ) (s : State) → Reached n promise s → Counted s
  closed_and_open promise s (begun level law a b) = omega (arith, never_count n.tasks 16)
  closed_and_open promise s (release x task units draw r) =
      release_counted x task units draw (sound n lawful promise x r) (closed_and_open promise x r)
  closed_and_open promise s (slot x harvest law room r) =
      slot_counted x harvest (omega (arith, law.0, (reached_promises n r).0)) (closed_and_open promise x r)

  opened_finished : (s : State) (index units draw : ℕ) (o : Option Refusal) → s.finished ≤ s.closed →
      (opened_if o s index units draw).finished ≤ (opened_if o s index units draw).closed
  opened_finished s index units draw None le = le
  opened_finished s index units draw (Some r) le = le

  release_finished : (s : State) (task units draw : ℕ) → s.finished ≤ s.closed →
      (release_step n s task units draw).finished ≤ (release_step n s task units draw).closed
  release_finished s zero units draw le = le
  release_finished s (suc index) units draw le = opened_finished s index units draw (refusal_at n s index units draw) le

  pub finished_closed : (promise : ℕ) (s : State) → Reached n promise s → s.finished ≤ s.closed
  finished_closed promise s (begun level law a b) = omega arith
  finished_closed promise s (release x task units draw r) = release_finished x task units draw (finished_closed promise x r)
  finished_closed promise s (slot x harvest law room r) = omega (arith, finished_closed promise x r)
