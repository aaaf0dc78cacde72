-- A record that the pool has already is emitted by its id: the pool stays, and one list has the id.
use Rattle.std.proofs.Common.{List, ◌≡◌, ◌<◌, ℕ, false, [], length, set, refl}
use Rattle.std.specs.List.{list_any}
use Rattle.std.proofs.lemmas.Option.{slice_get-get_or, slice_get_within, get_or_from_slice_get}
use Rattle.blz_value.specs.Record.{Row as Record}
use Rattle.blz_value.proofs.Membership.{Has-get_or}
use Rattle.blz_pool.specs.Pool.{IsPool}
use Rattle.messages.specs.EmittedIds.{is_row_with, with_id}
use Rattle.messages.specs.Emitted.{with_row}
use Rattle.messages.specs.Lists.{Listed, AllAreGiven, message_limit, list_at, read_lists, total}
use Rattle.blz_pool.specs.Entries.{row_with_id}
use Rattle.messages.proofs.LogLemmas.{one_id}
use Rattle.messages.proofs.ListsLemmas.{IsIdOf, IsPlaced, IsPut, one_put, limit-over}

-- ids of one pool are apart, so an id is of its record and no other
id_of_own : (records : List Record) (id : ℕ) → IsPool records → id < length records → IsIdOf records id (row_with_id records id)
id_of_own records id pool given = record {
  record_is = slice_get-get_or records id [] given;
  one = λ other is. one_id records pool id given other (slice_get_within records other (row_with_id records id) is) (get_or_from_slice_get records other (row_with_id records id) [] is);
}

-- a record that stands in the pool changes nothing there
placed_given : (records : List Record) (id : ℕ) → id < length records → IsPlaced records records (row_with_id records id)
placed_given records id given = record {
  known = λ h. refl;
  last = λ fresh. absurd (fresh (Has-get_or records id [] given));
}

pub put_given : (old new : Listed) (place id : ℕ) → IsPool old.records → id < length old.records → new.records ≡ old.records → new.lists ≡ set old.lists place (with_id (list_at old.lists place) id) → IsPut old new place id (row_with_id old.records id)
put_given old new place id pool given same put =
    one_put old old new place id (row_with_id old.records id) (placed_given old.records id given) (id_of_own old.records id pool given) refl same put

-- where the lists have as many messages as they may, and the record isn't in its list
pub given_over : (old : Listed) (place id : ℕ) → IsPool old.records → AllAreGiven old → place < length old.lists → id < length old.records
    → total old.lists ≡ message_limit → list_any (is_row_with id) (list_at old.lists place) ≡ false
    → message_limit < total (set (read_lists old) place (with_row (list_at (read_lists old) place) (row_with_id old.records id)))
given_over old place id pool all within given full none =
    limit-over old old place id (row_with_id old.records id) all within (placed_given old.records id given) (id_of_own old.records id pool given) refl full none
