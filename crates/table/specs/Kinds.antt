-- The kinds of records: the number of each, and which numbers name one.
--   kind_number   the number that stands for a kind in a file
--   NamesKind   the kind that a number names, or the refusal of a number that names none
use Rattle.std.specs.Prelude.{◌≡◌, ℕ, ◌≢◌, Result, MatchResult}
use Rattle.model.specs.declared.refusal.Refusal.{Refusal}
use Rattle.model.specs.declared.refusal.Refusal.TheVariants.{UnknownKind}
use Rattle.table.specs.declared.kind.Kind.{Kind}
use Rattle.table.specs.declared.kind.Kind.TheVariants.{Node, Task}

abbrev pub kind_number : Kind → ℕ
kind_number Node = 1
kind_number Task = 2

abbrev pub NamesKind : ℕ → Result Kind Refusal → Type 0
NamesKind number r = MatchResult r (λ kind. kind_number kind ≡ number) (λ e. (e ≡ UnknownKind) × (number ≢ 1) × (number ≢ 2))
