-- Where the open jobs begin, and before which clock none of them is due.
--   NoneBefore       no job is open at an index below another
--   NoneDueBefore   no open job is due before a clock
--   LooksAhead       what a node keeps says no more than its lines bear out
use Rattle.std.specs.Prelude.{◌≡◌, ℕ, ◌+◌, ◌<◌, ◌≤◌, List, length, get_or, ◌≢◌, slice_index_or}
use Rattle.model.specs.declared.task.Task.{Task}
use Rattle.model.specs.declared.state.Line.{Line}
use Rattle.model.specs.declared.state.Line.TheVariants.{Never, Open}
use Rattle.model.specs.Tasks.{no_task}
use Rattle.node.specs.declared.ahead.Ahead.{Ahead}

abbrev pub NoneBefore : ℕ → List Line → Type 0
NoneBefore i ls = (k : ℕ) → k < i → (since left draw : ℕ) → slice_index_or ls k Never ≢ Open since left draw

abbrev pub NoneDueBefore : ℕ → List Task → List Line → Type 0
NoneDueBefore clock ts ls =
    (k : ℕ) → k < length ts → (since left draw : ℕ) → slice_index_or ls k Never ≡ Open since left draw → clock ≤ since + (get_or ts k no_task).deadline

abbrev pub LooksAhead : Ahead → List Task → List Line → Type 0
LooksAhead a ts ls = (a.first ≤ length ts) × NoneBefore a.first ls × NoneDueBefore a.due ts ls
