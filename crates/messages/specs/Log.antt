-- A log has pairs of a port and the id of a record, each once, in the order in which they were first appended.
use Rattle.std.specs.Prelude.{◌≢◌, ◌<◌, ◌==◌, ◌&&◌, Bool, List, length, AllPairs}
use Rattle.blz_value.specs.Members.{Has}
use Rattle.blz_value.specs.Record.{Row}
use Rattle.blz_pool.specs.Entries.{EntryId}

-- two of them have one port and one id
abbrev pub is_same_entry_id : EntryId → EntryId → Bool
is_same_entry_id a b = a.0 == b.0 && a.1 == b.1

-- no pair stands twice
abbrev pub IsLog : List EntryId → Type 0
IsLog entries = AllPairs (λ a b. a ≢ b) entries

-- ---- ids read in a pool

-- the pool with these records gave each id
abbrev pub AreGiven : List Row → List EntryId → Type 0
AreGiven records entries = (entry : EntryId) → Has entry entries → entry.1 < length records
