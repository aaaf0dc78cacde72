-- Maps from key tuples to the records that are kept of them.
use Rattle.std.specs.Prelude.{◌≡◌, ℕ, List, Some}
use Rattle.std.specs.BTreeMap.{BTreeMap, get, values}
use Rattle.blz_value.specs.Record.{Row, record_cmp}
use Rattle.blz_value.specs.Sets.{set_of}
use Rattle.blz_value.specs.Operators.{cells}

-- each record stands at its values in the key columns
abbrev pub HaveKeys : List ℕ → BTreeMap Row Row → Type 0
HaveKeys columns records = (key row : Row) → get record_cmp records key ≡ Some row → key ≡ cells columns row

-- the records as a set
abbrev pub records_of : BTreeMap Row Row → List Row
records_of records = set_of (values records)
