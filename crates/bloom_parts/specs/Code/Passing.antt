-- What goes of some bodies and what comes, a row as often as they give it.
use Rattle.std.specs.Prelude.{List}
use Rattle.std.specs.List.{flat_map}
use Rattle.blz_value.specs.Record.{Row}
use Rattle.bloom_parts.specs.declared.change.Change.{Change}
use Rattle.bloom_parts.specs.Turns.{rows_in}

abbrev pub gone_of : List Change → List Row
gone_of changes = flat_map (λ change. rows_in change.gone) changes

abbrev pub more_of : List Change → List Row
more_of changes = flat_map (λ change. rows_in change.rows) changes
