-- One clock of the run that shows a task's longest response, over any state with these lines and any slot that keeps the slot's laws.
--   Standing, SlotLeft    before a slot, the releases done, and after it
--   first_standing, next_standing, slot_leaves    how one leads to the other
--   covered_fits           a slot that leaves nothing owed ends a window that fits
use Rattle.std.proofs.Common.{◌≡◌, ℕ, zero, suc, ◌+◌, ◌<◌, ◌≤◌, Bool, ◌⊎◌, List, [], ◌∷◌, length, get_or, replicate, sym, ◌∙◌, subst, inl, arith}
use Rattle.model.specs.declared.task.Task.{Task}
use Rattle.model.specs.declared.state.Line.{Line}
use Rattle.model.specs.declared.state.Line.TheVariants.{Never, Closed, Open}
use Rattle.model.specs.declared.state.State.{State}
use Rattle.model.specs.Tasks.{no_task}
use Rattle.model.specs.Demand.{demand, safe_weight}
use Rattle.model.specs.Windows.{Fits}
use Rattle.model.specs.Setups.{Setup, gain, LawfulSetup, OneSided}
use Rattle.model.specs.Slots.{abandoned}
use Rattle.model.proofs.Rule.{Rule, Used, rests, waits, runs}
use Rattle.model.proofs.Sound.{LinesSound}
use Rattle.model.proofs.JobCounts.{divide_up_at_most}
use Rattle.model.proofs.FullReleases.{renewed_lines}
use Rattle.model.proofs.WorstLines.{owed, WorstLines, worst_lines_not_quiet, unit_ran, unexpired}
use Rattle.model.proofs.WorstReleases.{later_releases, first_releases}
use Rattle.model.proofs.Covered.{Covered, covered_first, covered_released, covered_waited, covered_ran, covered_all}

-- the open first job of the task at the index is not due
pub not_due :
    (clock v : ℕ) (ts : List Task) (ls : List Line) (index : ℕ) → LinesSound clock ts ls → WorstLines v ts ls index →
    clock < (get_or ts index no_task).deadline
not_due clock v [] ls index sound w = absurd w
not_due clock v (t ∷ ts) [] index sound w = absurd w
not_due clock v (t ∷ ts) (Never ∷ ls) zero sound w = absurd w
not_due clock v (t ∷ ts) (Closed r ∷ ls) zero sound w = absurd w
not_due clock v (t ∷ ts) (Open r u d ∷ ls) zero sound w = omega (arith, sound.0.1, w.0)
not_due clock v (t ∷ ts) (l ∷ ls) (suc index) sound w = not_due clock v ts ls index sound.1 w.1

module _ (n : Setup) (side : OneSided n) (index : ℕ) where
  abbrev asked : ℕ → ℕ
  asked v = demand (safe_weight (gain n)) n.tasks index v

  abbrev owing : List Line → ℕ
  owing ls = owed (safe_weight (gain n)) n.tasks ls index

  -- before the slot at a clock, its releases done: the task's first job is open
  pub record Standing (clock level : ℕ) (ls : List Line) : Type 0 where
    pub lines : WorstLines (suc clock) n.tasks ls index
    pub covered : Covered n side clock level (asked (suc clock)) (owing ls)

  -- after that slot: the job is still open, or nothing is owed
  pub record SlotLeft (clock level : ℕ) (ls : List Line) : Type 0 where
    pub covered : Covered n side (suc clock) level (asked (suc clock)) (owing ls)
    pub outcome : WorstLines (suc clock) n.tasks ls index ⊎ (owing ls ≡ 0)

  unit_or_wait :
      (clock level after : ℕ) {ls ms : List Line} {e : Bool} → Used n level n.rate after n.tasks ls e ms →
      Standing clock level ls → SlotLeft clock after ms
  unit_or_wait clock level after {ls} (rests quiet leaves) s = absurd (worst_lines_not_quiet (suc clock) n.tasks ls index s.lines quiet)
  unit_or_wait clock level after {ls} (waits k first short leaves) s =
      record { covered = covered_waited n side clock level after _ _ leaves s.covered; outcome = inl s.lines }
  unit_or_wait clock level after (runs k d e ms ran enough leaves) s =
      let unit = unit_ran (safe_weight (gain n)) (suc clock) index ran s.lines in
      record { covered = covered_ran n side clock level after _ _ _ ran unit.full enough leaves unit.pays s.covered; outcome = unit.outcome }

  -- with no job abandoned, the lines after a slot are those that the unit left
  pub slot_leaves :
      (clock : ℕ) (s t : State) → Rule n s n.rate t → s.closed ≡ s.finished → t.closed ≡ t.finished →
      Standing clock s.level s.lines → SlotLeft clock t.level t.lines
  slot_leaves clock s t r before after standing =
      let none : abandoned (s.clock + 1) n.tasks r.mid ≡ 0 = omega (arith, r.closed, r.finished) in
      let kept : t.lines ≡ r.mid = r.lines ∙ unexpired (s.clock + 1) n.tasks r.mid none in
      subst (λ ls. SlotLeft clock t.level ls) (sym kept) (unit_or_wait clock s.level t.level r.used standing)

  module _ (lawful : LawfulSetup n) where
    pub first_standing : index < length n.tasks → Standing 0 n.floor (renewed_lines 0 (suc index) n.tasks (replicate 16 Never))
    first_standing within =
        let first = first_releases (safe_weight (gain n)) n.tasks 16 index lawful.tasked.sized lawful.tasked.timed lawful.tasked.few within in
        record { lines = first.lines; covered = covered_first n side _ _ first.demanded }

    pub next_standing :
        (clock level : ℕ) (ls : List Line) → LinesSound (suc clock) n.tasks ls → WorstLines (suc clock) n.tasks ls index →
        Covered n side (suc clock) level (asked (suc clock)) (owing ls) →
        Standing (suc clock) level (renewed_lines (suc clock) (suc index) n.tasks ls)
    next_standing clock level ls sound w covered =
        let next = later_releases (safe_weight (gain n)) (suc clock) n.tasks ls index lawful.tasked.sized lawful.tasked.timed sound w in
        record { lines = next.lines; covered = covered_released n side (suc clock) level _ _ _ _ next.demanded covered }

    -- the curve is at most a window whose slots cover the demand
    pub covered_fits :
        (clock level : ℕ) (ls : List Line) → clock < (get_or n.tasks index no_task).deadline → n.floor ≤ level → owing ls ≡ 0 →
        Covered n side (suc clock) level (asked (suc clock)) (owing ls) → Fits (gain n) n.tasks index (suc clock)
    covered_fits clock level ls h low none covered =
        let paid = covered_all n side (suc clock) level (asked (suc clock)) (owing ls) low none covered in
        (omega arith, h, divide_up_at_most (gain n) (asked (suc clock)) (suc clock) lawful.rated.0 paid)
