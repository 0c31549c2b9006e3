-- A slot, put together from its parts.
use Rattle.std.proofs.Common.{◌≡◌, ℕ, ◌+◌, List}
use Rattle.model.specs.declared.task.Task.{Task}
use Rattle.model.specs.declared.state.Line.{Line}
use Rattle.model.specs.declared.state.State.{State}
use Rattle.model.specs.Setups.{Setup}
use Rattle.model.specs.Energy.{put_level}
use Rattle.model.specs.Slots.{turn_of, drawn, expired, abandoned, slot_step}
use Rattle.node.specs.declared.turn.Turn.{Turn}
use Rattle.node.specs.Turns.{turn_said, worked_state}

-- the state after a slot: its turn v, the state w after the slot's unit, and what the walk over the lines gave
module _ (n : Setup) (s : State) (harvest : ℕ) (v : Turn) (chosen : turn_said v ≡ turn_of n s)
    (w : State) (unit : w ≡ worked_state (turn_said v) s) (ts : List Task) (tasks : ts ≡ n.tasks)
    (level draw gone : ℕ) (takes : draw ≡ drawn (turn_said v)) (kept : level ≡ put_level n s.level harvest draw)
    (left : gone ≡ abandoned (w.clock + 1) ts w.lines) where
  pub state_after : (ls : List Line) → ls ≡ expired (w.clock + 1) ts w.lines →
      ◌≡◌ {A = State} (record {
        clock = w.clock + 1;
        level = level;
        released = w.released;
        closed = w.closed + gone;
        finished = w.finished;
        lines = ls;
        longest = w.longest;
      }) (slot_step n s harvest)
  state_after ls walked = rw (kept, takes, walked, left, tasks, unit, chosen)
