-- What the loader's answers say. This file names the table, so the table's own file does not import it.
use Rattle.std.specs.Prelude.{Ok, Err, Result}
use Rattle.table.specs.declared.fault.LoadFault.{LoadFault}
use Rattle.table.specs.declared.table.Table.{Table}
use Rattle.table.specs.Loading.{Loaded, full, refused}
use Rattle.table.specs.Tables.{contents_of}

abbrev pub loaded_table : Result Table LoadFault → Loaded
loaded_table (Ok t) = full (contents_of t)
loaded_table (Err f) = refused f.refusal f.at

-- the answer of a load into a table that the caller lends, which then holds `after`
abbrev pub loaded_into : Result (Unit {0}) LoadFault → Table → Loaded
loaded_into (Ok u) after = full (contents_of after)
loaded_into (Err f) after = refused f.refusal f.at
