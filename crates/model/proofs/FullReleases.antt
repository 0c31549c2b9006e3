-- What full releases of the first tasks do to a state: they keep the clock and the level, and renew each line that is not too early.
--   renewed, renewed_lines     a line, and the first lines, after full releases were tried
--   full_releases_keep_clock, full_releases_keep_level, full_releases_renew
use Rattle.std.proofs.Common.{◌≡◌, ℕ, zero, suc, ◌<◌, ◌≤◌, Bool, true, false, cond, ◌&&◌, ltb, leb, List, [], ◌∷◌, length, get_or, set, Some, None, Option, sym, refl, ap, ◌∙◌, le_refl, le_of_suc-le-suc, arith}
use lib.Seq.{set-get_or}
use Rattle.std.proofs.lemmas.Bool.{lt-ltb, le-leb, and_from, cond-true}
use Rattle.model.specs.declared.task.Task.{Task}
use Rattle.model.specs.declared.refusal.Refusal.{Refusal}
use Rattle.model.specs.declared.refusal.Refusal.TheVariants.{TooEarly}
use Rattle.model.specs.declared.state.Line.{Line}
use Rattle.model.specs.declared.state.Line.TheVariants.{Never, Open}
use Rattle.model.specs.declared.state.State.{State}
use Rattle.model.specs.Tasks.{no_task, Sized, Each}
use Rattle.model.specs.Setups.{Setup}
use Rattle.model.specs.Releases.{clock_end, job_fits, too_early, refusal_at, opened_if, release_step}
use Rattle.model.specs.Worst.{full_releases}

abbrev pub renewed : ℕ → Task → Line → Line
renewed clock t l = cond (too_early clock t l) l (Open clock t.units t.draw)

abbrev pub renewed_lines : ℕ → ℕ → List Task → List Line → List Line
renewed_lines clock zero ts ls = ls
renewed_lines clock (suc k) [] ls = ls
renewed_lines clock (suc k) (t ∷ ts) [] = []
renewed_lines clock (suc k) (t ∷ ts) (l ∷ ls) = renewed clock t l ∷ renewed_lines clock k ts ls

-- one task more is one line more
pub renewed_one_more :
    (clock k : ℕ) (ts : List Task) (ls : List Line) → k < length ts → length ts ≤ length ls →
    renewed_lines clock (suc k) ts ls
    ≡ set (renewed_lines clock k ts ls) k (renewed clock (get_or ts k no_task) (get_or (renewed_lines clock k ts ls) k Never))
renewed_one_more clock k [] ls h wide = absurd (omega arith)
renewed_one_more clock k (t ∷ ts) [] h wide = absurd (omega arith)
renewed_one_more clock zero (t ∷ ts) (l ∷ ls) h wide = refl
renewed_one_more clock (suc k) (t ∷ ts) (l ∷ ls) h wide =
    ap (λ (ms : List Line). renewed clock t l ∷ ms) (renewed_one_more clock k ts ls (le_of_suc-le-suc h) (le_of_suc-le-suc wide))

-- Of one release

opened_if_keeps_clock : (o : Option Refusal) (s : State) (index units draw : ℕ) → (opened_if o s index units draw).clock ≡ s.clock
opened_if_keeps_clock None s index units draw = refl
opened_if_keeps_clock (Some r) s index units draw = refl

opened_if_keeps_level : (o : Option Refusal) (s : State) (index units draw : ℕ) → (opened_if o s index units draw).level ≡ s.level
opened_if_keeps_level None s index units draw = refl
opened_if_keeps_level (Some r) s index units draw = refl

-- a release that only its earliness can refuse
opened_unless_early :
    (early : Bool) (s : State) (index units draw : ℕ) →
    (opened_if (cond early (Some TooEarly) None) s index units draw).lines
    ≡ set s.lines index (cond early (get_or s.lines index Never) (Open s.clock units draw))
opened_unless_early true s index units draw = sym (set-get_or s.lines index Never)
opened_unless_early false s index units draw = refl

full_job_fits : (t : Task) → 1 ≤ t.units → job_fits t t.units t.draw ≡ true
full_job_fits t h =
    and_from (leb 1 t.units) (leb t.units t.units && leb t.draw t.draw) (le-leb 1 t.units h)
    (and_from (leb t.units t.units) (leb t.draw t.draw) (le-leb _ _ (le_refl t.units)) (le-leb _ _ (le_refl t.draw)))

module _ (n : Setup) where
  abbrev task_at : ℕ → Task
  task_at k = get_or n.tasks k no_task

  full_release_refusal :
      (s : State) (k : ℕ) → k < length n.tasks → 1 ≤ (task_at k).units → s.clock < clock_end →
      refusal_at n s k (task_at k).units (task_at k).draw ≡ cond (too_early s.clock (task_at k) (get_or s.lines k Never)) (Some TooEarly) None
  full_release_refusal s k h units before =
      cond-true (ltb k (length n.tasks)) _ _ (lt-ltb k (length n.tasks) h)
      ∙ cond-true (job_fits (task_at k) (task_at k).units (task_at k).draw) _ _ (full_job_fits (task_at k) units)
      ∙ cond-true (ltb s.clock clock_end) _ _ (lt-ltb s.clock clock_end before)

  full_release_renews :
      (s : State) (k : ℕ) → k < length n.tasks → 1 ≤ (task_at k).units → s.clock < clock_end →
      (release_step n s (suc k) (task_at k).units (task_at k).draw).lines
      ≡ set s.lines k (renewed s.clock (task_at k) (get_or s.lines k Never))
  full_release_renews s k h units before =
      ap (λ o. (opened_if o s k (task_at k).units (task_at k).draw).lines) (full_release_refusal s k h units before)
      ∙ opened_unless_early (too_early s.clock (task_at k) (get_or s.lines k Never)) s k (task_at k).units (task_at k).draw

  -- Of the releases of the first tasks

  pub full_releases_keep_clock : (k : ℕ) (s : State) → (full_releases n k s).clock ≡ s.clock
  full_releases_keep_clock zero s = refl
  full_releases_keep_clock (suc k) s = opened_if_keeps_clock _ (full_releases n k s) k _ _ ∙ full_releases_keep_clock k s

  pub full_releases_keep_level : (k : ℕ) (s : State) → (full_releases n k s).level ≡ s.level
  full_releases_keep_level zero s = refl
  full_releases_keep_level (suc k) s = opened_if_keeps_level _ (full_releases n k s) k _ _ ∙ full_releases_keep_level k s

  pub full_releases_renew :
      Each Sized n.tasks (length n.tasks) → (k : ℕ) (s : State) → k ≤ length n.tasks → length n.tasks ≤ length s.lines →
      s.clock < clock_end → (full_releases n k s).lines ≡ renewed_lines s.clock k n.tasks s.lines
  full_releases_renew sized zero s h wide before = refl
  full_releases_renew sized (suc k) s h wide before =
      let mid = full_releases n k s in
      let clock : mid.clock ≡ s.clock = full_releases_keep_clock k s in
      let lines : mid.lines ≡ renewed_lines s.clock k n.tasks s.lines = full_releases_renew sized k s (omega arith) wide before in
      full_release_renews mid k h (sized k h).0 (omega arith)
      ∙ ap (λ c. set mid.lines k (renewed c (task_at k) (get_or mid.lines k Never))) clock
      ∙ ap (λ ls. set ls k (renewed s.clock (task_at k) (get_or ls k Never))) lines
      ∙ sym (renewed_one_more s.clock k n.tasks s.lines h wide)
