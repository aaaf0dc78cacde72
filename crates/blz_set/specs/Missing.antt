-- Rows that a set lacks.
use Rattle.std.specs.Prelude.{Bool, not, List, filter}
use Rattle.std.specs.List.{list_any}
use Rattle.std.specs.Ordering.{eq_by_cmp}
use Rattle.blz_value.specs.Record.{Row, record_cmp}

-- whether a row is one of the rows
abbrev pub has_row : List Row → Row → Bool
has_row rows row = list_any (eq_by_cmp record_cmp row) rows

-- the rows of another list that are missing from the first
abbrev pub missing_from : List Row → List Row → List Row
missing_from rows others = filter (λ row. not (has_row rows row)) others
