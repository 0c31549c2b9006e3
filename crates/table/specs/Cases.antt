-- Records, files and names that are known by hand, and what the definitions say of them.
--   node_record, acq_record   the bytes of a node record and of a task record
--   acq_of                    acq with other numbers
--   WorkedFiles              how such bytes are read, and which tasks a table takes
use Rattle.std.specs.Prelude.{◌≡◌, ℕ, true, false, List, [], ◌∷◌, ◌++◌}
use Rattle.model.specs.declared.task.Task.{Task}
use Rattle.model.specs.declared.refusal.Refusal.TheVariants.{PastEnd, UnknownKind, WrongLength, WrongPlace, OutsideLimits, DrawAboveRoom, WrongName}
use Rattle.table.specs.Names.{graphic}
use Rattle.table.specs.Contents.{Contents, bare, extended}
use Rattle.table.specs.Limits.{TurnedAway}
use Rattle.table.specs.Layout.{node, task, entry_bytes}
use Rattle.table.specs.Reading.{end, got, bad, step_at}
use Rattle.table.specs.Loading.{full, refused, Loads}

-- rate 10, floor 0, cap 100
abbrev pub node_record : List ℕ
node_record =
    0x18 ∷ 0 ∷ 1 ∷ 0 ∷ 0x0A ∷ 0 ∷ 0 ∷ 0 ∷ 0 ∷ 0 ∷ 0 ∷ 0 ∷ 0 ∷ 0 ∷ 0 ∷ 0 ∷ 0x64 ∷ 0 ∷ 0 ∷ 0 ∷ 0 ∷ 0 ∷ 0 ∷ 0 ∷ []

-- acq: 1 unit, period and deadline 8, draw 40
abbrev pub acq_record : List ℕ
acq_record =
    0x19 ∷ 0 ∷ 2 ∷ 0 ∷ 1 ∷ 0 ∷ 8 ∷ 0 ∷ 0 ∷ 0 ∷ 8 ∷ 0 ∷ 0 ∷ 0 ∷ 0x28 ∷ 0 ∷ 0 ∷ 0 ∷ 0 ∷ 0 ∷ 0 ∷ 0 ∷ 0x61 ∷ 0x63 ∷ 0x71 ∷ []

abbrev pub acq_name : List ℕ
acq_name = 0x61 ∷ 0x63 ∷ 0x71 ∷ []

abbrev pub acq_of : ℕ → ℕ → ℕ → ℕ → Task
acq_of units period deadline draw = record { units = units; period = period; deadline = deadline; draw = draw }

abbrev pub acq_contents : Contents
acq_contents = extended (bare 10 0 100) (acq_of 1 8 8 40) acq_name

pub record WorkedFiles : Type 0 where
  -- records as bytes, and read back at their places
  pub node_bytes : entry_bytes (node 10 0 100) ≡ node_record
  pub acq_bytes : entry_bytes (task (acq_of 1 8 8 40) acq_name) ≡ acq_record
  pub large_bytes : entry_bytes (node 0x01020304 0 0x05060708090A) ≡
      0x18 ∷ 0 ∷ 1 ∷ 0 ∷ 4 ∷ 3 ∷ 2 ∷ 1 ∷ 0 ∷ 0 ∷ 0 ∷ 0 ∷ 0 ∷ 0 ∷ 0 ∷ 0 ∷ 0x0A ∷ 9 ∷ 8 ∷ 7 ∷ 6 ∷ 5 ∷ 0 ∷ 0 ∷ []
  pub node_read : step_at (node_record ++ acq_record) 0 ≡ got (node 10 0 100) 0 24
  pub acq_read : step_at (node_record ++ acq_record) 24 ≡ got (task (acq_of 1 8 8 40) acq_name) 24 49
  pub end_read : step_at (node_record ++ acq_record) 49 ≡ end
  -- what the reader refuses, at the place of the record
  pub three_bytes : step_at (0 ∷ 0 ∷ 0 ∷ []) 0 ≡ bad PastEnd 0
  pub length_3 : step_at (3 ∷ 0 ∷ 9 ∷ 0 ∷ []) 0 ≡ bad WrongLength 0
  pub length_65535 : step_at (0xFF ∷ 0xFF ∷ 9 ∷ 0 ∷ []) 0 ≡ bad PastEnd 0
  pub kind_9 : step_at (4 ∷ 0 ∷ 9 ∷ 0 ∷ []) 0 ≡ bad UnknownKind 0
  pub kind_257 : step_at (4 ∷ 0 ∷ 1 ∷ 1 ∷ []) 0 ≡ bad UnknownKind 0
  pub node_of_4 : step_at (4 ∷ 0 ∷ 1 ∷ 0 ∷ []) 0 ≡ bad WrongLength 0
  pub task_of_4 : step_at (4 ∷ 0 ∷ 2 ∷ 0 ∷ []) 0 ≡ bad WrongLength 0
  -- the bytes of a name
  pub lowest_byte : graphic (0x21 ∷ []) ≡ true
  pub highest_byte : graphic (0x7E ∷ []) ≡ true
  pub space : graphic (0x61 ∷ 0x20 ∷ []) ≡ false
  pub delete : graphic (0x7F ∷ []) ≡ false
  -- whole files
  pub no_bytes : Loads [] (refused WrongPlace 0)
  pub no_node : Loads acq_record (refused WrongPlace 0)
  pub two_nodes : Loads (node_record ++ node_record) (refused WrongPlace 24)
  pub one_task : Loads (node_record ++ acq_record) (full acq_contents)
  -- which limit is the first that does not hold
  pub no_name : TurnedAway (bare 10 0 100) (acq_of 0 8 8 999) [] WrongLength
  pub no_units : TurnedAway (bare 10 0 100) (acq_of 0 8 8 999) (0x20 ∷ []) OutsideLimits
  pub late_deadline : TurnedAway (bare 10 0 100) (acq_of 1 8 9 999) (0x20 ∷ []) OutsideLimits
  pub draw_101 : TurnedAway (bare 10 0 100) (acq_of 1 8 8 101) (0x20 ∷ []) DrawAboveRoom
  pub space_name : TurnedAway (bare 10 0 100) (acq_of 1 8 8 100) (0x20 ∷ []) WrongName
