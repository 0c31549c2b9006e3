-- A slot keeps every task's busy window, up to the deadline step: it rests, waits for the most urgent open job, or runs a unit of it.
--   runs_calm, runs_pending, runs_busy   what a unit that runs changes
--   slot_watched                         the window after the slot
use Rattle.std.proofs.Common.{◌≡◌, ℕ, zero, suc, ◌+◌, ◌-◌, ◌*◌, ◌<◌, ◌≤◌, Bool, ◌⊎◌, List, ◌∷◌, length, get_or, refl, inl, inr, ⊎_elim, arith}
use native.Mathlib.Nat.{le-max_left, le-max_right}
use Rattle.std.proofs.lemmas.Bool.{cases_lt}
use Rattle.model.specs.declared.task.Task.{Task}
use Rattle.model.specs.declared.state.Line.{Line}
use Rattle.model.specs.declared.state.Line.TheVariants.{Closed, Open}
use Rattle.model.specs.Tasks.{no_task, Each, Payable}
use Rattle.model.specs.Demand.{demand, safe_weight}
use Rattle.model.specs.Setups.{Setup, gain}
use Rattle.model.proofs.Curves.{Periodic, each_later}
use Rattle.model.proofs.Rule.{First, here, later, Runs, goes_on, finishes, less_urgent, Leaves, Used, rests, waits, runs}
use Rattle.model.proofs.Sound.{LinesSound, runs_sound, runs_payable}
use Rattle.model.proofs.Busy.{Calm, Pending, open_here, open_later, Busy, alone, beside, SomePending, calm_or_pending, quiet_calm}
use Rattle.model.proofs.Busy.{Window, Watched, calm, busy}
use Rattle.model.proofs.BusyDemand.{next_within}

-- the most urgent open job of all is one up to the index, if any of these is open
pub first_pending : {ts : List Task} {ls : List Line} {k j : Task} {index : ℕ} → First ts ls k → Pending ts ls j index → Pending ts ls k index
first_pending (here t us r u d ms) p = open_here
first_pending (later t us l ms k shut f) open_here = absurd shut
first_pending (later t us l ms k shut f) (open_later p) = open_later (first_pending f p)

-- a fact of every task holds of the most urgent one with an open job
pub first_each : (P : Task → Type 0) (ts : List Task) (ls : List Line) (k : Task) → Each P ts (length ts) → First ts ls k → P k
first_each P ts ls k each (here t us r u d ms) = each 0 (omega arith)
first_each P ts ls k each (later t us l ms _ shut f) = first_each P us ms k (each_later P t us each) f

-- Running a unit

pub runs_calm : {ts : List Task} {ls ms : List Line} {k : Task} {d : ℕ} {e : Bool} (index : ℕ) → Runs ts ls k d e ms → Calm ts ls index → Calm ts ms index
runs_calm zero (goes_on t ts r u d ls many) c = absurd c
runs_calm (suc index) (goes_on t ts r u d ls many) c = absurd c.0
runs_calm zero (finishes t ts r u d ls last) c = absurd c
runs_calm (suc index) (finishes t ts r u d ls last) c = absurd c.0
runs_calm zero (less_urgent t ts l ls ms k d e shut run) c = c
runs_calm (suc index) (less_urgent t ts l ls ms k d e shut run) c = (c.0, runs_calm index run c.1)

pending_later : {t : Task} {ts : List Task} {l : Line} {ls : List Line} {j k : Task} {index : ℕ}
    → Pending ts ls j index ⊎ (j ≡ k) → Pending (t ∷ ts) (l ∷ ls) j (suc index) ⊎ (j ≡ k)
pending_later (inl p) = inl (open_later p)
pending_later (inr e) = inr e

-- what was open still is, or it is the job that ran
pub runs_pending : {ts : List Task} {ls ms : List Line} {j k : Task} {d : ℕ} {e : Bool} {index : ℕ} → Runs ts ls k d e ms
    → Pending ts ls j index → Pending ts ms j index ⊎ (j ≡ k)
runs_pending (goes_on t ts r u d ls many) open_here = inr refl
runs_pending (goes_on t ts r u d ls many) (open_later p) = inl (open_later p)
runs_pending (finishes t ts r u d ls last) open_here = inr refl
runs_pending (finishes t ts r u d ls last) (open_later p) = inl (open_later p)
runs_pending (less_urgent t ts l ls ms k d e shut run) open_here = absurd shut
runs_pending (less_urgent t ts l ls ms k d e shut run) (open_later p) = pending_later (runs_pending run p)

-- one more unit is counted for the task whose job ran
pub runs_busy : (gained start clock : ℕ) {ts : List Task} {ls ms : List Line} {j k : Task} {d : ℕ} {e : Bool} {index total : ℕ} → Runs ts ls k d e ms
    → LinesSound clock ts ls → Pending ts ls j index → Busy gained start ts ls index total
    → Busy gained start ts ms index (total + safe_weight gained k)
runs_busy gained start clock (goes_on t ts r u d ls many) sound p (alone _ _ _ _ jobs run total c e) =
    alone t ts (Open r (u - 1) d) ls jobs (suc run) (total + safe_weight gained t) (c.0, omega (arith, c.1), c.2) (omega arith)
runs_busy gained start clock (goes_on t ts r u d ls many) sound p (beside _ _ _ _ below jobs run rest total c b e) =
    beside t ts (Open r (u - 1) d) ls below jobs (suc run) rest (total + safe_weight gained t) (c.0, omega (arith, c.1), c.2) b (omega arith)
runs_busy gained start clock (finishes t ts r u d ls last) sound p (alone _ _ _ _ jobs run total c e) =
    alone t ts (Closed r) ls jobs (suc run) (total + safe_weight gained t) (c.0, omega (arith, c.1, sound.0)) (omega arith)
runs_busy gained start clock (finishes t ts r u d ls last) sound p (beside _ _ _ _ below jobs run rest total c b e) =
    beside t ts (Closed r) ls below jobs (suc run) rest (total + safe_weight gained t) (c.0, omega (arith, c.1, sound.0)) b (omega arith)
runs_busy gained start clock (less_urgent t ts l ls ms k d e shut run) sound open_here b = absurd shut
runs_busy gained start clock (less_urgent t ts l ls ms k d e shut run) sound (open_later p) (beside _ _ _ _ below jobs ran rest total c b eq) =
    beside t ts l ms below jobs ran (rest + safe_weight gained k) (total + safe_weight gained k) c
    (runs_busy gained start clock run sound.1 p b) (omega arith)

-- One slot, for the task at an index with a width that holds its demand
module _
    (n : Setup) (clock level harvest after : ℕ) (ls : List Line) (index width : ℕ) (leveled : (n.floor ≤ level) × (level ≤ n.top))
    (sound : LinesSound clock n.tasks ls) (periodic : Each Periodic n.tasks (length n.tasks))
    (payable : Each (Payable (n.top - n.floor)) n.tasks (length n.tasks))
    (narrow : width ≤ (get_or n.tasks index no_task).period)
    (fits : demand (safe_weight (gain n)) n.tasks index width ≤ width * gain n) where
  -- a window at the next clock is shorter than its width, as the demand of the width would all have run
  stays_short : (ms : List Line) (k : Task) (start age total : ℕ) → start + age ≡ clock → age < width → LinesSound clock n.tasks ms
      → Pending n.tasks ms k index → Busy (gain n) start n.tasks ms index total → suc age * gain n < total + safe_weight (gain n) k → suc age < width
  stays_short ms k start age total at short sound' p b beyond = ⊎_elim (λ l. l) (λ full.
      let whole : suc age ≡ width = omega arith in
      let most : total + safe_weight (gain n) k ≤ demand (safe_weight (gain n)) n.tasks index width
      = next_within (gain n) start clock width (omega arith) n.tasks ms k index total periodic narrow sound' p b in
      let much : width * gain n < total + safe_weight (gain n) k = rw (← whole) beyond in
      absurd (omega arith))
      (cases_lt (suc age) width)

  -- the store cuts nothing while the node waits
  waits_window : (k : Task) → First n.tasks ls k → level + gain n < k.draw + n.floor → Leaves n level harvest 0 after
      → Window n clock level ls index width → Window n (clock + 1) after ls index width
  waits_window k first low leaves w =
      let pays : k.draw ≤ n.top - n.floor = first_each (Payable (n.top - n.floor)) n.tasks ls k payable first in
      let grown : level + gain n ≤ after = omega (arith, leaves.least) in
      let waiting : Pending n.tasks ls k index = first_pending first w.waiting in
      let beyond : suc w.age * gain n < w.total + safe_weight (gain n) k = omega (arith, w.covered, le-max_left k.draw (gain n)) in
      record {
        start = w.start;
        age = suc w.age;
        total = w.total;
        witness = k;
        at = omega (arith, w.at);
        counts = w.counts;
        covered = omega (arith, w.covered);
        waiting = waiting;
        next = beyond;
        short = stays_short ls k w.start w.age w.total w.at w.short sound waiting w.counts beyond;
      }

  module _ (k : Task) (d : ℕ) (e : Bool) (ms : List Line) (run : Runs n.tasks ls k d e ms) (paid : k.draw + n.floor ≤ level + gain n)
      (leaves : Leaves n level harvest d after) where
    -- a window after a unit ran, with an open job whose next unit would go beyond what was gained
    runs_window : (w : Window n clock level ls index width) (i : Task) → Pending n.tasks ms i index
        → suc w.age * gain n < w.total + safe_weight (gain n) k + safe_weight (gain n) i → Window n (clock + 1) after ms index width
    runs_window w i waiting beyond =
        let counts : Busy (gain n) w.start n.tasks ms index (w.total + safe_weight (gain n) k)
        = runs_busy (gain n) w.start clock run sound w.waiting w.counts in
        record {
          start = w.start;
          age = suc w.age;
          total = w.total + safe_weight (gain n) k;
          witness = i;
          at = omega (arith, w.at);
          counts = counts;
          covered = omega (arith, w.covered, leaves.least, runs_payable clock run sound, le-max_left k.draw (gain n), le-max_right k.draw (gain n));
          waiting = waiting;
          next = beyond;
          short = stays_short ms i w.start w.age (w.total + safe_weight (gain n) k) w.at w.short (runs_sound clock run sound)
              waiting counts beyond;
        }

    runs_witness : (w : Window n clock level ls index width) → Calm n.tasks ms index ⊎ SomePending n.tasks ms index
        → Pending n.tasks ms w.witness index ⊎ (w.witness ≡ k) → Watched n (clock + 1) after ms index width
    runs_witness w (inl c) still = calm c
    runs_witness w (inr p) (inl still) =
        busy (runs_window w w.witness still (omega (arith, w.next, le-max_right k.draw (gain n))))
    runs_witness w (inr p) (inr same) =
        let before : w.age * gain n < w.total + safe_weight (gain n) k = rw (← same) w.next in
        busy (runs_window w p.0 p.1 (omega (arith, before, le-max_right p.0.draw (gain n))))

    runs_watched : Watched n clock level ls index width → Watched n (clock + 1) after ms index width
    runs_watched (calm c) = calm (runs_calm index run c)
    runs_watched (busy w) = runs_witness w (calm_or_pending n.tasks ms index) (runs_pending run w.waiting)

  pub slot_watched : {e : Bool} {ms : List Line} → Used n level harvest after n.tasks ls e ms → Watched n clock level ls index width
      → Watched n (clock + 1) after ms index width
  slot_watched (rests quiet leaves) w = calm (quiet_calm n.tasks ls index quiet)
  slot_watched (waits k first low leaves) (calm c) = calm c
  slot_watched (waits k first low leaves) (busy w) = busy (waits_window k first low leaves w)
  slot_watched (runs k d e ms run paid leaves) w = runs_watched k d e ms run paid leaves w
