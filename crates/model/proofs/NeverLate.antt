-- An accepted table misses no deadline, in any history: every task keeps its busy window through every release and every slot.
--   fits_demand      a window that fits holds the demand, without a quotient
--   OnTrack         every task is watched for each width that fits it, and whatever was closed was finished
--   never_late       closed and finished jobs are as many
--   young            an open job has been open for less than any width that fits its task
use Rattle.std.proofs.Common.{◌≡◌, ℕ, zero, suc, ◌+◌, ◌-◌, ◌*◌, ◌<◌, ◌≤◌, true, false, ◌&&◌, ltb, leb, List, [], ◌∷◌, length, get_or, replicate, Option, refl, ◌∙◌, le_trans, div-lt_iff_lt-mul, arith}
use Rattle.std.proofs.lemmas.Bool.{and_parts, leb-true, ltb-false, ne_eqb, cond_both}
use Rattle.model.specs.declared.task.Task.{Task}
use Rattle.model.specs.declared.refusal.Refusal.{Refusal}
use Rattle.model.specs.declared.state.Line.{Line}
use Rattle.model.specs.declared.state.Line.TheVariants.{Never, Closed, Open}
use Rattle.model.specs.declared.state.State.{State}
use Rattle.model.specs.Tasks.{no_task, Each}
use Rattle.model.specs.Demand.{divide_up, demand, safe_weight}
use Rattle.model.specs.Windows.{Fits, Accepted}
use Rattle.model.specs.Setups.{Setup, gain, LawfulSetup}
use Rattle.model.specs.Slots.{due, expired, abandoned, slot_step}
use Rattle.model.specs.Releases.{clock_end, job_fits, too_early, opened, opened_if, release_step}
use Rattle.model.proofs.Curves.{Periodic}
use Rattle.model.proofs.Rule.{Rule, Reached, begun, release, slot, reached_promises}
use Rattle.model.proofs.Sound.{Sound, Young}
use Rattle.model.proofs.Busy.{Calm, Watched, calm, watched_young}
use Rattle.model.proofs.BusyRelease.{Spaced, release_watched}
use Rattle.model.proofs.BusySlot.{slot_watched}

pub divide_up_holds : (d x w : ℕ) → 1 ≤ d → divide_up x d ≤ w → x ≤ w * d
divide_up_holds d x w pos h =
    let below : x + d - 1 < (w + 1) * d = (div-lt_iff_lt-mul pos).0 (omega arith) in
    omega arith

pub fits_demand : (gained : ℕ) (ts : List Task) (index w : ℕ) → 1 ≤ gained → Fits gained ts index w → demand (safe_weight gained) ts index w ≤ w * gained
fits_demand gained ts index w pos fits = divide_up_holds gained (demand (safe_weight gained) ts index w) w pos fits.2

-- Where no open job is due, the deadline step changes nothing.

abbrev pub AllYoung : ℕ → List Task → List Line → Type 0
AllYoung clock ts ls = (index : ℕ) → index < length ts → Young clock (get_or ts index no_task).deadline (get_or ls index Never)

young_longer : (clock v w : ℕ) (l : Line) → v ≤ w → Young clock v l → Young clock w l
young_longer clock v w Never h y = tt
young_longer clock v w (Closed r) h y = tt
young_longer clock v w (Open r u d) h y = omega arith

young_not_due : (clock : ℕ) (t : Task) (l : Line) → Young clock t.deadline l → due clock t l ≡ false
young_not_due clock t Never y = refl
young_not_due clock t (Closed r) y = refl
young_not_due clock t (Open r u d) y = ne_eqb (r + t.deadline) clock (λ e. omega arith)

pub nothing_expires : (clock : ℕ) (ts : List Task) (ls : List Line) → AllYoung clock ts ls → expired clock ts ls ≡ ls
nothing_expires clock [] ls young = refl
nothing_expires clock (t ∷ ts) [] young = refl
nothing_expires clock (t ∷ ts) (l ∷ ls) young =
    rw (young_not_due clock t l (young 0 (omega arith)), nothing_expires clock ts ls (λ k h. young (suc k) (omega arith)))

pub nothing_abandoned : (clock : ℕ) (ts : List Task) (ls : List Line) → AllYoung clock ts ls → abandoned clock ts ls ≡ 0
nothing_abandoned clock [] ls young = refl
nothing_abandoned clock (t ∷ ts) [] young = refl
nothing_abandoned clock (t ∷ ts) (l ∷ ls) young =
    rw (young_not_due clock t l (young 0 (omega arith)), nothing_abandoned clock ts ls (λ k h. young (suc k) (omega arith)))

-- a fresh node has no open job
fresh_calm : (count : ℕ) (ts : List Task) (index : ℕ) → Calm ts (replicate count Never) index
fresh_calm zero [] index = tt
fresh_calm zero (t ∷ ts) index = tt
fresh_calm (suc count) [] index = tt
fresh_calm (suc count) (t ∷ ts) zero = tt
fresh_calm (suc count) (t ∷ ts) (suc index) = (tt, fresh_calm count ts index)

not_early_spaced : (clock : ℕ) (t : Task) (l : Line) → too_early clock t l ≡ false → Spaced clock t l
not_early_spaced clock t Never h = tt
not_early_spaced clock t (Closed r) h = ltb-false clock (r + t.period) h
not_early_spaced clock t (Open r u d) h = ltb-false clock (r + t.period) h

job_fits_units : (t : Task) (units draw : ℕ) → job_fits t units draw ≡ true → units ≤ t.units
job_fits_units t units draw h =
    let some = and_parts (leb 1 units) (leb units t.units && leb draw t.draw) h in
    leb-true units t.units (and_parts (leb units t.units) (leb draw t.draw) some.1).0

pub record OnTrack (n : Setup) (s : State) : Type 0 where
  pub equal : s.closed ≡ s.finished
  pub watched : (index w : ℕ) → index < length n.tasks → Fits (gain n) n.tasks index w → Watched n s.clock s.level s.lines index w

module _ (n : Setup) (lawful : LawfulSetup n) where
  release_on_track : (s : State) (task units draw : ℕ) → Sound n s → OnTrack n s → OnTrack n (release_step n s task units draw)
  release_on_track s zero units draw sound track = track
  release_on_track s (suc job) units draw sound track =
      cond_both (ltb job (length n.tasks)) _ _ P (λ _.
      cond_both (job_fits t units draw) _ _ P (λ fit.
      cond_both (ltb s.clock clock_end) _ _ P (λ _.
      cond_both (too_early s.clock t (get_or s.lines job Never)) _ _ P (λ _. track) (λ spaced. done fit spaced))
      (λ _. track)) (λ _. track)) (λ _. track)
    where
      t : Task
      t = get_or n.tasks job no_task

      P : Option Refusal → Type 0
      P o = OnTrack n (opened_if o s job units draw)

      done : job_fits t units draw ≡ true → too_early s.clock t (get_or s.lines job Never) ≡ false → OnTrack n (opened s job units draw)
      done fit spaced = record {
        equal = track.equal;
        watched = λ index w within fits. release_watched n s.clock s.level s.lines job units draw lawful.rated.0 sound.level.0
            sound.lines (not_early_spaced s.clock t (get_or s.lines job Never) spaced) (job_fits_units t units draw fit) index w within fits.0
            (track.watched index w within fits);
      }

  periods : Each Periodic n.tasks (length n.tasks)
  periods k h = omega (arith, lawful.tasked.sized k h, lawful.tasked.timed k h)

  module _ (accepted : Accepted (gain n) n.tasks) where
    slot_on_track : (s t : State) (harvest : ℕ) → Rule n s harvest t → Sound n s → OnTrack n s → OnTrack n t
    slot_on_track s t harvest r sound track = record {
      equal = omega (arith, r.closed, r.finished, nothing_abandoned (s.clock + 1) n.tasks r.mid all_young, track.equal);
      watched = λ index w within fits. rw (r.clock, lines) (mid_watched index w within fits);
    }
      where
        mid_watched : (index w : ℕ) → index < length n.tasks → Fits (gain n) n.tasks index w
            → Watched n (s.clock + 1) t.level r.mid index w
        mid_watched index w within fits = slot_watched n s.clock s.level harvest t.level s.lines index w sound.level sound.lines
            periods lawful.tasked.payable (le_trans fits.1 (lawful.tasked.timed index within).1)
            (fits_demand (gain n) n.tasks index w lawful.rated.0 fits) r.used (track.watched index w within fits)

        all_young : AllYoung (s.clock + 1) n.tasks r.mid
        all_young index within =
            let f = accepted index within in
            young_longer (s.clock + 1) f.0 (get_or n.tasks index no_task).deadline (get_or r.mid index Never) f.1.1
            (watched_young n (s.clock + 1) t.level r.mid index f.0 within (mid_watched index f.0 within f.1))

        lines : t.lines ≡ r.mid
        lines = r.lines ∙ nothing_expires (s.clock + 1) n.tasks r.mid all_young

module _
    (n : Setup) (lawful : LawfulSetup n)
    (rule : (s : State) (h : ℕ) → gain n ≤ h → Rule n s h (slot_step n s h))
    (sound : (promise : ℕ) (s : State) → Reached n promise s → Sound n s) where
  on_track : Accepted (gain n) n.tasks → (promise : ℕ) (s : State) → Reached n promise s → OnTrack n s
  on_track accepted promise s (begun level l a b) = record {
    equal = refl;
    watched = λ index w within fits. calm (fresh_calm 16 n.tasks index);
  }
  on_track accepted promise _ (release s task units draw before) =
      release_on_track n lawful s task units draw (sound promise s before) (on_track accepted promise s before)
  on_track accepted promise _ (slot s harvest brought early before) =
      slot_on_track n lawful accepted s (slot_step n s harvest) harvest
      (rule s harvest (le_trans (reached_promises n before).0 brought.0))
      (sound promise s before) (on_track accepted promise s before)

  pub never_late : Accepted (gain n) n.tasks → (promise : ℕ) (s : State) → Reached n promise s → s.closed ≡ s.finished
  never_late accepted promise s reached = (on_track accepted promise s reached).equal

  pub young : Accepted (gain n) n.tasks → (index w : ℕ) → index < length n.tasks → Fits (gain n) n.tasks index w
      → (promise : ℕ) (s : State) → Reached n promise s → Young s.clock w (get_or s.lines index Never)
  young accepted index w within fits promise s reached =
      watched_young n s.clock s.level s.lines index w within ((on_track accepted promise s reached).watched index w within fits)
