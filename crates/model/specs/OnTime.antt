-- The deadline theorem: what the verdict on a table says of every history.
--   MeetsDeadlines     no history has a job that was closed and not finished by its deadline
--   NeverLate          an accepted table meets its deadlines
--   Exact               a one-sided table is accepted exactly if it does
--   WithinBounds       every response of an accepted table's task is at most its safe bound
use Rattle.std.specs.Prelude.{◌≡◌, ℕ, ◌≤◌, ◌↔◌, Some, None, Option, slice_index_or}
use Rattle.model.specs.declared.state.State.{State}
use Rattle.model.specs.Windows.{Accepted}
use Rattle.model.specs.Laws.{SafeBound}
use Rattle.model.specs.Setups.{Setup, gain, LawfulSetup, OneSided}
use Rattle.model.specs.Histories.{History}

abbrev pub MeetsDeadlines : Setup → Type 0
MeetsDeadlines n = (promise : ℕ) (s : State) → History n promise s → s.closed ≡ s.finished

abbrev pub NeverLate : Setup → Type 0
NeverLate n = Accepted (gain n) n.tasks → MeetsDeadlines n

abbrev pub Exact : Setup → Type 0
Exact n = OneSided n → Accepted (gain n) n.tasks ↔ MeetsDeadlines n

-- a response or a bound, where there is one, is at most a limit
abbrev pub AtMost : ℕ → Option ℕ → Type 0
AtMost limit None = Unit {0}
AtMost limit (Some r) = r ≤ limit

abbrev pub WithinBounds : Setup → Type 0
WithinBounds n = Accepted (gain n) n.tasks → (promise : ℕ) (s : State) → History n promise s →
    (index bound : ℕ) → SafeBound (gain n) n.tasks index (Some bound) → AtMost bound (slice_index_or s.longest index None)

abbrev pub DeadlineTheorem : Type 0
DeadlineTheorem = (n : Setup) → LawfulSetup n → NeverLate n × Exact n × WithinBounds n
