-- How far the counters of a node can get: each slot closes at most one job for each task and the one that ran.
--   one_at_most      a test counts for at most one
--   abandoned_few    a slot abandons at most one job for each task
--   open_few         at most one job for each task is open
--   closed_few       at most 17 jobs are closed in a slot
--   released_few     at most 16 jobs are open besides
use Rattle.std.proofs.Common.{ℕ, zero, suc, ◌+◌, ◌*◌, ◌≤◌, Bool, true, false, cond, List, [], ◌∷◌, length, Some, None, Option, arith}
use Rattle.model.specs.declared.task.Task.{Task}
use Rattle.model.specs.declared.refusal.Refusal.{Refusal}
use Rattle.model.specs.declared.state.Line.{Line}
use Rattle.model.specs.declared.state.Line.TheVariants.{Never, Closed, Open}
use Rattle.model.specs.declared.state.State.{State}
use Rattle.model.specs.Setups.{Setup, LawfulSetup}
use Rattle.model.specs.Slots.{turn_of, worked, ends, due, abandoned, slot_step}
use Rattle.model.specs.Releases.{refusal_at, opened_if, release_step}
use Rattle.model.specs.HistoryLaws.{one_if_open, open_jobs}
use Rattle.model.proofs.Rule.{Reached, begun, release, slot}
use Rattle.model.proofs.Counts.{closed_and_open}

pub one_at_most : (b : Bool) → cond b 1 0 ≤ 1
one_at_most true = omega arith
one_at_most false = omega arith

pub abandoned_few : (clock : ℕ) (ts : List Task) (ls : List Line) → abandoned clock ts ls ≤ length ts
abandoned_few clock [] ls = omega arith
abandoned_few clock (t ∷ ts) [] = omega arith
abandoned_few clock (t ∷ ts) (l ∷ ls) = omega (arith, one_at_most (due clock t l), abandoned_few clock ts ls)

open_one : (l : Line) → one_if_open l ≤ 1
open_one Never = omega arith
open_one (Closed r) = omega arith
open_one (Open r u d) = omega arith

pub open_few : (ts : List Task) (ls : List Line) → open_jobs ts ls ≤ length ts
open_few [] ls = omega arith
open_few (t ∷ ts) [] = omega arith
open_few (t ∷ ts) (l ∷ ls) = omega (arith, open_one l, open_few ts ls)

module _ (n : Setup) (lawful : LawfulSetup n) where
  opened_closed : (s : State) (index units draw : ℕ) (o : Option Refusal) → s.closed ≤ 17 * s.clock →
      (opened_if o s index units draw).closed ≤ 17 * (opened_if o s index units draw).clock
  opened_closed s index units draw None le = le
  opened_closed s index units draw (Some r) le = le

  release_closed : (s : State) (task units draw : ℕ) → s.closed ≤ 17 * s.clock →
      (release_step n s task units draw).closed ≤ 17 * (release_step n s task units draw).clock
  release_closed s zero units draw le = le
  release_closed s (suc index) units draw le = opened_closed s index units draw (refusal_at n s index units draw) le

  slot_closed : (s : State) (harvest : ℕ) → s.closed ≤ 17 * s.clock → (slot_step n s harvest).closed ≤ 17 * (slot_step n s harvest).clock
  slot_closed s harvest le =
      let few = abandoned_few (s.clock + 1) n.tasks (worked (turn_of n s) s.lines) in
      omega (arith, le, few, one_at_most (ends (turn_of n s)), lawful.tasked.few)

  pub closed_few : (promise : ℕ) (s : State) → Reached n promise s → s.closed ≤ 17 * s.clock
  closed_few promise s (begun level law a b) = omega arith
  closed_few promise s (release x task units draw r) = release_closed x task units draw (closed_few promise x r)
  closed_few promise s (slot x harvest law room r) = slot_closed x harvest (closed_few promise x r)

  pub released_few : (promise : ℕ) (s : State) → Reached n promise s → s.released ≤ s.closed + 16
  released_few promise s r = omega (arith, closed_and_open n lawful promise s r, open_few n.tasks s.lines, lawful.tasked.few)
