-- What putting the listing of a table into a text answers and leaves.
use Rattle.std.specs.Prelude.{◌≡◌, ℕ, Bool, List, Ok, Err, Result}
use Rattle.table.specs.declared.fault.LoadFault.{LoadFault}
use Rattle.table.specs.Loading.{Loads, refused}
use Rattle.listing.specs.Listings.{Listing}

-- into an empty text: the listing of a table, or nothing where the file is refused
abbrev pub TablePut : List ℕ → List ℕ → Result Bool LoadFault → List ℕ → Type 0
TablePut file before (Ok accepted) after = Listing file after accepted
TablePut file before (Err f) after = Loads file (refused f.refusal f.at) × (after ≡ before)
