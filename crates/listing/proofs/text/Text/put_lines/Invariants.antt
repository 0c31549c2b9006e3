use Rattle.std.proofs.Common.{◌≡◌, ◌+◌, ◌*◌, ◌≤◌, ◌++◌, length, map, All}
use Rattle.std.specs.Iterator.Adapters.{zip_first, zip_second}
use Rattle.std.specs.Slice.Iter.{iter_rest}
use Rattle.table.specs.Names.{name_bytes, Short}
use Rattle.table.specs.Tables.{name_list}
use Rattle.analysis.specs.Verdicts.{bounds_list}
use Rattle.listing.specs.Listings.{lines_text, IsSmall}
use Rattle.listing.proofs.text.Text.put_lines.Given as goal

-- What is written and the lines that are left make all the lines; a line has at most 46 bytes.
abbrev pub invariant-loop-name : goal.invariant-loop-name
invariant-loop-name l =
    let names = iter_rest (zip_first l.name-iterator) in
    let bounds = iter_rest (zip_second l.name-iterator) in
    record {
      text : l.self ++ lines_text (map name_bytes names) bounds ≡ lines_text (name_list l.table) (bounds_list l.verdict);
      len : length l.self + 46 * length names ≤ 736;
      short : All (λ n. Short (name_bytes n)) names;
      small : All IsSmall bounds;
    }
