-- The laws of every history, each from what every reached state keeps.
use Rattle.std.proofs.Common.{◌≡◌, ℕ, zero, suc, ◌+◌, ◌<◌, ◌≤◌, false, ltb, length, get_or, refl, subst, ⊎_elim, le_refl, arith}
use Rattle.std.proofs.lemmas.Bool.{le-ltb}
use Rattle.model.specs.declared.state.Line.{Line}
use Rattle.model.specs.declared.state.Line.TheVariants.{Never, Closed, Open}
use Rattle.model.specs.declared.state.State.{State}
use Rattle.model.specs.declared.task.Task.{Task}
use Rattle.model.specs.Tasks.{no_task}
use Rattle.model.specs.Setups.{Setup, gain, LawfulSetup}
use Rattle.model.specs.Slots.{Turn, turn_of, drawn}
use Rattle.model.specs.Releases.{clock_end}
use Rattle.model.specs.Histories.{started}
use Rattle.model.specs.ScopeLaws.{SomeHistory, SlotsGoOn, RoomForTasks}
use Rattle.model.specs.HistoryLaws.{InEveryHistory, NotOpen, LevelKept, DrawsCovered, MostUrgentFirst}
use Rattle.model.specs.HistoryLaws.{WaitsOnlyIfShort, RunsOnlyIfPaid, IdleOnlyIfNone, OpenInTime, OneOpenJob}
use Rattle.model.specs.HistoryLaws.{ReleasedIsClosedAndOpen, FinishedAreClosed, ResponsesByDeadline, NeverShort}
use Rattle.model.proofs.Sound.{LineSound, Sound, Young}
use Rattle.model.proofs.Rule.{Reached}
use Rattle.model.proofs.Reaching.{reached, promises, never_short}
use Rattle.model.proofs.Soundness.{line_sound_at, sound}
use Rattle.model.proofs.Turns.{TurnSays, turn_says}
use Rattle.model.proofs.Responses.{responses_within}
use Rattle.model.proofs.Counts.{not_open_if_done, closed_and_open, finished_closed}

-- every history leads to a sound state
always_sound : InEveryHistory (λ n promise s. Sound n s)
always_sound n lawful promise s h = sound n lawful promise s (reached n promise s h)

-- Histories

pub some_history : SomeHistory
some_history n lawful level law = started level law (le_refl n.rate) lawful.rated.1

pub slots_go_on : SlotsGoOn
slots_go_on n lawful promise s h zero room = refl
slots_go_on n lawful promise s h (suc k) room =
    let enough : ltb promise n.rate ≡ false = le-ltb promise n.rate (promises n promise h).0 in
    let before : ltb clock_end (s.clock + suc k) ≡ false = le-ltb clock_end (s.clock + suc k) room in
    rw (enough, before)

pub room_for_tasks : RoomForTasks
room_for_tasks n lawful promise s h =
    let before = always_sound n lawful promise s h in
    (omega (arith, before.wide, lawful.tasked.few), omega (arith, before.noted, lawful.tasked.few))

-- The store

pub level_kept : LevelKept
level_kept n lawful promise s h = (always_sound n lawful promise s h).level

-- a job draws at most what its task does
draw_payable : (n : Setup) (s : State) → Sound n s → (index since left draw : ℕ) → index < length n.tasks →
    get_or s.lines index Never ≡ Open since left draw → draw ≤ (get_or n.tasks index no_task).draw
draw_payable n s before index since left draw listed line =
    let one = line_sound_at s.clock n.tasks s.lines index listed before.lines in
    (subst (λ l. LineSound s.clock (get_or n.tasks index no_task) l) line one).4

covered : (n : Setup) (s : State) → Sound n s → (harvest : ℕ) → gain n ≤ harvest → (v : Turn) → TurnSays n s v →
    n.floor + drawn v ≤ s.level + harvest
covered n s before harvest enough Turn.idle says = omega (arith, before.level.0)
covered n s before harvest enough (Turn.waits j) says = omega (arith, before.level.0)
covered n s before harvest enough (Turn.runs j) says =
    let first = says.0 in
    let draw = draw_payable n s before j.index j.since j.left j.draw first.listed first.line in
    let paid : j.draw ≤ j.task.draw = subst (λ t. j.draw ≤ t.draw) first.task draw in
    omega (arith, says.1)

pub draws_covered : DrawsCovered
draws_covered n lawful promise s h harvest law =
    covered n s (always_sound n lawful promise s h) harvest (omega (arith, law.0, (promises n promise h).0)) (turn_of n s) (turn_says n s)

-- The slot

-- what a turn says, of a turn that is known
says : (n : Setup) (s : State) (v : Turn) → turn_of n s ≡ v → TurnSays n s v
says n s v e = subst (λ x. TurnSays n s x) e (turn_says n s)

pub most_urgent_first : MostUrgentFirst
most_urgent_first n lawful promise s h j either =
    ⊎_elim (λ e. (says n s (Turn.runs j) e).0) (λ e. (says n s (Turn.waits j) e).0) either

pub waits_only_if_short : WaitsOnlyIfShort
waits_only_if_short n lawful promise s h j e = (says n s (Turn.waits j) e).1

pub runs_only_if_paid : RunsOnlyIfPaid
runs_only_if_paid n lawful promise s h j e = (says n s (Turn.runs j) e).1

pub idle_only_if_none : IdleOnlyIfNone
idle_only_if_none n lawful promise s h e = says n s Turn.idle e

-- The jobs

pub open_in_time : OpenInTime
open_in_time n lawful promise s h index since left draw listed line =
    let before = always_sound n lawful promise s h in
    let one = line_sound_at s.clock n.tasks s.lines index listed before.lines in
    let job = subst (λ l. LineSound s.clock (get_or n.tasks index no_task) l) line one in
    record { released = job.0; in_time = job.1; some = job.2; few = job.3; payable = job.4 }

pub one_open_job : OneOpenJob
one_open_job n lawful promise s h index r u d units draw line e =
    subst (λ l. NotOpen l) line (not_open_if_done n lawful s index units draw (always_sound n lawful promise s h) e)

pub released_is_closed_and_open : ReleasedIsClosedAndOpen
released_is_closed_and_open n lawful promise s h = closed_and_open n lawful promise s (reached n promise s h)

pub finished_are_closed : FinishedAreClosed
finished_are_closed n lawful promise s h = finished_closed n lawful promise s (reached n promise s h)

-- The responses and the promise

young_by_deadline : (clock : ℕ) (t : Task) (l : Line) → LineSound clock t l → Young clock t.deadline l
young_by_deadline clock t Never one = tt
young_by_deadline clock t (Closed r) one = tt
young_by_deadline clock t (Open r u d) one = one.1

-- the line of a task in a reached state, by the task's deadline
young_line : (n : Setup) → LawfulSetup n → (index : ℕ) → index < length n.tasks → (promise : ℕ) (s : State) → Reached n promise s →
    Young s.clock (get_or n.tasks index no_task).deadline (get_or s.lines index Never)
young_line n lawful index listed promise s r =
    young_by_deadline s.clock (get_or n.tasks index no_task) (get_or s.lines index Never)
    (line_sound_at s.clock n.tasks s.lines index listed (sound n lawful promise s r).lines)

pub responses_by_deadline : ResponsesByDeadline
responses_by_deadline n lawful promise s h index listed =
    responses_within n lawful index _ (young_line n lawful index listed) promise s (reached n promise s h)

pub never_refused_short : NeverShort
never_refused_short n lawful promise s h = never_short n promise h
