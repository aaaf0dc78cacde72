-- The aggregate of some rows, as what goes on with each row that comes and each that goes.
use Rattle.std.specs.Prelude.{ℕ, ◌≡◌, List, length}
use Rattle.std.specs.Int.{w64}
use Rattle.std.specs.Int.RustNames.{FitsSigned}
use Rattle.blz_value.specs.declared.aggregate.Agg.{Agg}
use Rattle.blz_value.specs.declared.aggregate.Agg.TheVariants as by
use Rattle.blz_value.specs.Groups.{column_values, exact_sum, summand}
use Rattle.blz_value.specs.Members.{Has}
use Rattle.blz_value.specs.Record.{Row}
use Rattle.blz_value.specs.Test.{cell}
use Rattle.blz_value.specs.Value.{value_cmp}
use Rattle.bloom_growth.specs.declared.tally.Kept.{Kept}
use Rattle.bloom_growth.specs.declared.tally.Kept.TheVariants.{Nothing, Sum, Values}
use Rattle.bloom_growth.specs.declared.tally.Tally.{Tally}
use Rattle.bloom_growth.specs.Counts.{AreCounted}

-- the numbers in a column are of 64 bits
abbrev pub AreNumbers : ℕ → List Row → Type 0
AreNumbers column rows = (row : Row) → Has row rows → FitsSigned w64 (summand (cell row column))

-- what an aggregate keeps of some rows besides their number
abbrev pub IsKept : Agg → List Row → Kept → Type 0
IsKept by.Count rows Nothing = Unit {0}
IsKept (by.Sum column) rows (Sum sum) = (sum ≡ exact_sum (column_values column rows)) × AreNumbers column rows
IsKept (by.Min column) rows (Values values) = AreCounted value_cmp (column_values column rows) values
IsKept (by.Max column) rows (Values values) = AreCounted value_cmp (column_values column rows) values
IsKept agg rows kept = ⊥

-- it is what an aggregate has come to over some rows; the order in which they came is nothing
pub record IsTally (agg : Agg) (rows : List Row) (tally : Tally) : Type 0 where
  pub count : tally.count ≡ length rows
  pub kept : IsKept agg rows tally.kept
