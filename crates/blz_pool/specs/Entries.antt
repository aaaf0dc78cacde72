-- A record with a number beside it, as that of the port at which it comes, by its id in a pool.
use Rattle.std.specs.Prelude.{ℕ, List, [], map, slice_index_or}
use Rattle.blz_value.specs.Record.{Row}

-- a number, as that of a port, and the id of a record there
abbrev pub EntryId : Type 0
EntryId = ℕ × ℕ

-- the record of an id in a pool with these records
abbrev pub row_with_id : List Row → (id : ℕ) → Row
row_with_id records id = slice_index_or records id []

-- the record at a port, of an id there
abbrev pub entry_with_id : List Row → EntryId → ℕ × Row
entry_with_id records entry = (entry.0, row_with_id records entry.1)

-- the records at ports of some ids, in their order
abbrev pub entries_with_ids : List Row → List EntryId → List (ℕ × Row)
entries_with_ids records entries = map (entry_with_id records) entries
