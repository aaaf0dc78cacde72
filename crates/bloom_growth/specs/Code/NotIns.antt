-- The left rows of a notin at the keys of some right rows.
use Rattle.std.specs.Prelude.{List, [], length, cond, nat_eq}
use Rattle.std.specs.BTreeMap.{BTreeMap}
use Rattle.std.specs.List.{flat_map}
use Rattle.blz_value.specs.Groups.{with_key}
use Rattle.blz_value.specs.Operators.{Pairs, project_rows}
use Rattle.blz_value.specs.Record.{Row}
use Rattle.blz_value.specs.Sets.{set_of}
use Rattle.blz_set.specs.Pairs.{lefts_of, rights_of}
use Rattle.bloom_growth.specs.ByKey.{rows_found}

-- the left rows at a key that no right row has
abbrev pub free_at : (lefts rights : BTreeMap Row (List Row)) → Row → List Row
free_at lefts rights key = cond (nat_eq (length (rows_found rights key)) 0) (rows_found lefts key) []

-- the left rows at the keys of some right rows, where no right row has the key
abbrev pub free_rows : Pairs → (lefts rights : BTreeMap Row (List Row)) → List Row → List Row
free_rows pairs lefts rights some = flat_map (free_at lefts rights) (set_of (project_rows (rights_of pairs) some))

-- the same, by the rows
abbrev pub freed_at : Pairs → (lefts rights : List Row) → Row → List Row
freed_at pairs lefts rights key = cond (nat_eq (length (with_key (rights_of pairs) key rights)) 0) (with_key (lefts_of pairs) key lefts) []

abbrev pub freed_rows : Pairs → (lefts rights some : List Row) → List Row
freed_rows pairs lefts rights some = flat_map (freed_at pairs lefts rights) (set_of (project_rows (rights_of pairs) some))
