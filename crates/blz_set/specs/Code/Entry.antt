-- Rows with a value at hand.
use Rattle.std.specs.Prelude.{ℕ, List, [], ◌∷◌, map}
use Rattle.blz_value.specs.Record.{Row}
use Rattle.blz_value.specs.Operators.{cells}
use Rattle.blz_set.specs.declared.entry.Entry.{Entry}
use Rattle.blz_set.specs.Code.ValueRef.{value_of}

-- the row of an entry, and the rows of entries
abbrev pub row_of : Entry → Row
row_of entry = entry.row.now

abbrev pub rows_of : List Entry → List Row
rows_of entries = map row_of entries

-- an entry's values in some columns, the first of which is at hand
abbrev pub entry_key : List ℕ → Entry → Row
entry_key [] entry = []
entry_key (column ∷ columns) entry = value_of entry.first ∷ cells columns (row_of entry)
