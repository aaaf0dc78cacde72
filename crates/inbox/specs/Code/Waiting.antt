-- Where the records of each partition stand in the log, and what changes when one more is heard.
use Rattle.std.specs.Prelude.{◌≡◌, ◌+◌, ◌&&◌, ◌++◌, Bool, false, not, if◌then◌else◌, Option, is_some, List, [], ◌∷◌, length, slice_get}
use Rattle.std.specs.List.{list_any, flat_map, filter_map}
use Rattle.std.specs.Option.{option_map_or}
use Rattle.std.specs.Ordering.{nat_cmp}
use Rattle.blz_value.specs.Record.{Row}
use Rattle.blz_value.specs.Sets.{set_by}
use Rattle.topo_forms.specs.Messages.{is_same_row}
use Rattle.blz_pool.specs.Entries.{EntryId}
use Rattle.messages.specs.Log.{is_same_entry_id}
use Rattle.messages.specs.Messages.{with_new}
use Rattle.inbox.specs.Code.Places.{places_of}
use Rattle.inbox.specs.declared.waiting.Waiting.{Waiting}

-- the entries of some partitions, in the order of the log
abbrev pub released_of : Waiting → List Row → List EntryId
released_of w keys = filter_map (slice_get w.log) (set_by nat_cmp (flat_map (places_of w.places) keys))

-- it has the key
abbrev pub has_key : Option Row → (key : Row) → Bool
has_key own key = option_map_or (λ k. is_same_row k key) own false

abbrev pub is_new_in : List EntryId → EntryId → Bool
is_new_in log entry = not (list_any (is_same_entry_id entry) log)

-- one more entry is kept, with its key value where its port has one
pub record KeepsEntry (old new : Waiting) (entry : EntryId) (key : Option Row) (waits : Bool) : Type 0 where
  pub log : new.log ≡ with_new is_same_entry_id old.log entry
  pub places : (k : Row) → places_of new.places k ≡ (if is_new_in old.log entry && has_key key k then places_of old.places k ++ length old.log ∷ [] else places_of old.places k)
  pub held : new.held ≡ (if is_new_in old.log entry && (is_some key && waits) then old.held + 1 else old.held)
