-- A one-sided table that meets its deadlines is accepted: the run that shows a task's longest response ends at a window that fits the task.
--   fits_if_on_time      the window; on_time_accepted, of all tasks
use Rattle.std.proofs.Common.{◌≡◌, ℕ, zero, suc, ◌+◌, ◌<◌, ◌≤◌, length, get_or, sym, ◌∙◌, subst, ⊎_elim, le_refl, arith}
use Rattle.model.specs.declared.state.State.{State}
use Rattle.model.specs.Tasks.{no_task}
use Rattle.model.specs.Windows.{Fits, Accepted}
use Rattle.model.specs.Setups.{Setup, gain, LawfulSetup, OneSided}
use Rattle.model.specs.Slots.{slot_step}
use Rattle.model.specs.Releases.{clock_end}
use Rattle.model.specs.Histories.{History}
use Rattle.model.specs.OnTime.{MeetsDeadlines}
use Rattle.model.specs.Worst.{full_releases, worst_run}
use Rattle.model.proofs.Rule.{Rule}
use Rattle.model.proofs.Sound.{LinesSound, Sound}
use Rattle.model.proofs.FullReleases.{renewed_lines, full_releases_keep_clock, full_releases_keep_level, full_releases_renew}
use Rattle.model.proofs.WorstHistory.{worst_run_clock, worst_is_history, worst_releases_are_history}
use Rattle.model.proofs.WorstSlots.{not_due, Standing, SlotLeft, slot_leaves, first_standing, next_standing, covered_fits}

module _
    (n : Setup) (lawful : LawfulSetup n)
    (rule : (s : State) (h : ℕ) → gain n ≤ h → Rule n s h (slot_step n s h))
    (sound : (promise : ℕ) (s : State) → History n promise s → Sound n s)
    (side : OneSided n) (meets : MeetsDeadlines n) (index : ℕ) (within : index < length n.tasks)
  where
    abbrev deadline : ℕ
    deadline = (get_or n.tasks index no_task).deadline

    short : deadline < clock_end
    short = omega (arith, lawful.tasked.timed index within)

    -- the run at a clock, before and after the releases there
    abbrev run : ℕ → State
    run clock = worst_run n index clock

    abbrev loaded : ℕ → State
    loaded clock = full_releases n (suc index) (run clock)

    run_history : (clock : ℕ) → clock ≤ deadline → History n n.rate (run clock)
    run_history clock h = worst_is_history n lawful rule index clock (omega (arith, short))

    loaded_history : (clock : ℕ) → clock ≤ deadline → History n n.rate (loaded clock)
    loaded_history clock h = worst_releases_are_history n lawful rule index clock (suc index) (omega (arith, short))

    run_sound : (clock : ℕ) → clock ≤ deadline → Sound n (run clock)
    run_sound clock h = sound n.rate (run clock) (run_history clock h)

    run_lines_sound : (clock : ℕ) → clock ≤ deadline → LinesSound clock n.tasks (run clock).lines
    run_lines_sound clock h =
        subst (λ c. LinesSound c n.tasks (run clock).lines) (worst_run_clock n lawful rule index clock) (run_sound clock h).lines

    loaded_clock : (clock : ℕ) → (loaded clock).clock ≡ clock
    loaded_clock clock = full_releases_keep_clock n (suc index) (run clock) ∙ worst_run_clock n lawful rule index clock

    loaded_lines_sound : (clock : ℕ) → clock ≤ deadline → LinesSound clock n.tasks (loaded clock).lines
    loaded_lines_sound clock h =
        subst (λ c. LinesSound c n.tasks (loaded clock).lines) (loaded_clock clock) (sound n.rate (loaded clock) (loaded_history clock h)).lines

    loaded_lines : (clock : ℕ) → clock ≤ deadline → (loaded clock).lines ≡ renewed_lines clock (suc index) n.tasks (run clock).lines
    loaded_lines clock h =
        let at = worst_run_clock n lawful rule index clock in
        let wide : length n.tasks ≤ length (run clock).lines = omega (arith, lawful.tasked.few, (run_sound clock h).wide) in
        subst (λ c. (loaded clock).lines ≡ renewed_lines c (suc index) n.tasks (run clock).lines) at
        (full_releases_renew n lawful.tasked.sized (suc index) (run clock) within wide (omega (arith, short)))

    abbrev Stands : ℕ → Type 0
    Stands clock = Standing n side index clock (loaded clock).level (loaded clock).lines

    -- what holds of the renewed lines and the level kept holds of the state after the releases
    stands_after_releases :
        (clock : ℕ) → clock ≤ deadline →
        Standing n side index clock (run clock).level (renewed_lines clock (suc index) n.tasks (run clock).lines) → Stands clock
    stands_after_releases clock h s =
        subst (λ level. Standing n side index clock level (loaded clock).lines) (sym (full_releases_keep_level n (suc index) (run clock)))
        (subst (λ ls. Standing n side index clock (run clock).level ls) (sym (loaded_lines clock h)) s)

    stands_young : (clock : ℕ) → clock ≤ deadline → Stands clock → clock < deadline
    stands_young clock h s = not_due clock (suc clock) n.tasks (loaded clock).lines index (loaded_lines_sound clock h) s.lines

    slot_left : (clock : ℕ) → clock < deadline → Stands clock → SlotLeft n side index clock (run (suc clock)).level (run (suc clock)).lines
    slot_left clock h s =
        slot_leaves n side index clock (loaded clock) (run (suc clock)) (rule (loaded clock) n.rate (le_refl n.rate))
        (meets n.rate (loaded clock) (loaded_history clock (omega arith))) (meets n.rate (run (suc clock)) (run_history (suc clock) h)) s

    fits_from : (left clock : ℕ) → clock + left ≡ deadline → Stands clock → (w : ℕ) × Fits (gain n) n.tasks index w
    fits_from zero clock h s = absurd (omega (arith, stands_young clock (omega arith) s))
    fits_from (suc left) clock h s =
        let early : clock < deadline = omega arith in
        let slot = slot_left clock early s in
        let after = run (suc clock) in
        ⊎_elim
        (λ w. fits_from left (suc clock) (omega arith) (stands_after_releases (suc clock) early
        (next_standing n side index lawful clock after.level after.lines (run_lines_sound (suc clock) early) w slot.covered)))
        (λ none. (
          suc clock,
          covered_fits n side index lawful clock after.level after.lines early (run_sound (suc clock) early).level.0 none slot.covered,
        ))
        slot.outcome

    window_if_on_time : (w : ℕ) × Fits (gain n) n.tasks index w
    window_if_on_time = fits_from deadline 0 (omega arith) (stands_after_releases 0 (omega arith) (first_standing n side index lawful within))

module _
    (n : Setup) (lawful : LawfulSetup n)
    (rule : (s : State) (h : ℕ) → gain n ≤ h → Rule n s h (slot_step n s h))
    (sound : (promise : ℕ) (s : State) → History n promise s → Sound n s)
  where
    pub fits_if_on_time :
        OneSided n → MeetsDeadlines n → (index : ℕ) → index < length n.tasks → (w : ℕ) × Fits (gain n) n.tasks index w
    fits_if_on_time side meets index within = window_if_on_time n lawful rule sound side meets index within

    pub on_time_accepted : OneSided n → MeetsDeadlines n → Accepted (gain n) n.tasks
    on_time_accepted side meets index within = fits_if_on_time side meets index within
