-- Sets as lists that are sorted and repeat nothing, so that two with the same members are one list.
use Rattle.std.specs.Prelude.{List, [], ◌∷◌}
use Rattle.std.specs.BTreeSet.{insert_key}
use Rattle.std.specs.List.Sorted.{IsStrictlySortedBy}
use Rattle.std.specs.declared.cmp.Ordering.{Ordering}
use Rattle.blz_value.specs.Record.{Row, record_cmp}

-- the distinct elements of a list, sorted
abbrev pub set_by : {X : Type 0} → (X → X → Ordering) → List X → List X
set_by order [] = []
set_by order (x ∷ xs) = insert_key order (set_by order xs) x

-- the distinct records of a list, in record order
abbrev pub set_of : List Row → List Row
set_of rows = set_by record_cmp rows

-- each record is below those after it
abbrev pub IsRowSet : List Row → Type 0
IsRowSet rows = IsStrictlySortedBy record_cmp rows
