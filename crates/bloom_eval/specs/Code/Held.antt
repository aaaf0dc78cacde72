-- Sets that are lent or owned.
use Rattle.std.specs.Prelude.{List, map}
use Rattle.blz_value.specs.Record.{Row}
use Rattle.bloom_forms.specs.Step.{Sets}
use Rattle.bloom_eval.specs.declared.rows.Rows.{Rows}
use Rattle.bloom_eval.specs.declared.rows.Rows.TheVariants.{Lent, Own}

-- the rows that are lent or owned
abbrev pub rows_in : Rows → List Row
rows_in (Lent set) = set.now
rows_in (Own set) = set

-- the sets of collections by their numbers
abbrev pub sets_in : List Rows → Sets
sets_in held = map rows_in held
