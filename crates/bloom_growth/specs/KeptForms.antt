-- What the two forms keep of a part by key.
use Rattle.std.specs.Prelude.{true, false}
use Rattle.bloom_growth.specs.declared.keyed.KeyedRows.{KeyedRows}
use Rattle.bloom_growth.specs.declared.side.Side.{Side}
use Rattle.bloom_growth.specs.Kept.{Kept}

-- a side, whose part only grows
abbrev pub side_kept : Side → Kept
side_kept side = record { columns = side.columns.items; sets = side.sets; grows = true }

-- an index that rows leave too
abbrev pub keyed_kept : KeyedRows → Kept
keyed_kept keyed = record { columns = keyed.columns.items; sets = keyed.sets; grows = false }
