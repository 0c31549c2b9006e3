use Rattle.std.proofs.Common.{refl, rules}
use Rattle.std.proofs.lemmas.List.Recursion.{and_is}
use Rattle.std.specs.Char.{is_ascii_graphic}
use Rattle.table.specs.Names.{graphic}
use Rattle.table.proofs.name.Name.is_graphic.Goals as goal

pub returns : goal.returns
returns c = and_is graphic is_ascii_graphic refl (λ _ _. refl) c.args.text.now 0 _ (search rules) (search rules)
