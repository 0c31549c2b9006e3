-- The text by which it is shown why a file is refused, and where, as bytes.
use Rattle.std.specs.Prelude.{ℕ, List, ◌++◌, codes, decimal}
use Rattle.model.specs.Shown.{refusal_shown}
use Rattle.table.specs.declared.fault.LoadFault.{LoadFault}

-- the refusal, and the byte where the refused record starts
abbrev pub fault_shown : LoadFault → List ℕ
fault_shown f = codes "refused " ++ refusal_shown f.refusal ++ codes " at " ++ decimal f.at
