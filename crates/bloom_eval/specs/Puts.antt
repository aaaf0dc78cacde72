-- What a step puts out, read in a pool: of each output a record that arrived, by its id, or a set.
use Rattle.std.specs.Prelude.{◌<◌, List, [], ◌∷◌, map, length}
use Rattle.std.specs.List.{All}
use Rattle.blz_value.specs.Record.{Row}
use Rattle.bloom_forms.specs.Step.{Sets}
use Rattle.blz_pool.specs.Entries.{EntryId, row_with_id}
use Rattle.blz_value.specs.Members.{Has}
use Rattle.bloom_eval.specs.declared.puts.Put.{Put}
use Rattle.bloom_eval.specs.declared.puts.Put.TheVariants.{Arrived, Rows}

-- the rows that stand for it in a pool with these records
abbrev pub put_rows : (records : List Row) → Put → List Row
put_rows records (Arrived id) = row_with_id records id ∷ []
put_rows records (Rows set) = set

-- of each output
abbrev pub puts_in : (records : List Row) → List Put → Sets
puts_in records puts = map (put_rows records) puts

-- an id that is put out is that of one of some entries, as those that arrive
abbrev pub IsPutOf : List EntryId → Put → Type 0
IsPutOf entries (Arrived id) = Has id (map (λ entry. entry.1) entries)
IsPutOf entries (Rows set) = Unit {0}

-- so is each
abbrev pub ArePutOf : List EntryId → List Put → Type 0
ArePutOf entries puts = All (IsPutOf entries) puts

-- an id that is put out is one of a pool with these records
abbrev pub IsPutFrom : (records : List Row) → Put → Type 0
IsPutFrom records (Arrived id) = id < length records
IsPutFrom records (Rows set) = Unit {0}

-- so is each
abbrev pub ArePutFrom : (records : List Row) → List Put → Type 0
ArePutFrom records puts = All (IsPutFrom records) puts
