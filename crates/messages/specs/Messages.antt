-- An instance hears messages in batches, and each message comes on one of its feeds.
use Rattle.std.specs.Prelude.{ℕ, ◌==◌, ◌&&◌, ◌++◌, Bool, false, if◌then◌else◌, Option, Some, None, List, [], ◌∷◌}
use Rattle.std.specs.List.{list_any, fold, filter_map, flat_map}
use Rattle.blz_value.specs.Record.{Row}
use Rattle.blz_value.specs.Message.{Message, row, seal, is_same_row}

-- a message that is heard, with the number of the feed from which it comes
abbrev pub Pair : Type 0
Pair = ℕ × Message

-- what an instance hears at once
abbrev pub Batch : Type 0
Batch = List Pair

-- a record with the number of its port
abbrev pub Entry : Type 0
Entry = ℕ × Row

-- two messages are one record, or seals of one partition with one count
abbrev pub is_same_message : Message → Message → Bool
is_same_message (row a) (row b) = is_same_row a b
is_same_message (row a) (seal k n) = false
is_same_message (seal j m) (row b) = false
is_same_message (seal j m) (seal k n) = is_same_row j k && m == n

-- two pairs have one feed and one message
abbrev pub is_same_pair : Pair → Pair → Bool
is_same_pair a b = a.0 == b.0 && is_same_message a.1 b.1

-- two entries have one port and one record
abbrev pub is_same_entry : Entry → Entry → Bool
is_same_entry a b = a.0 == b.0 && is_same_row a.1 b.1

-- the key value of a seal
abbrev pub key_sealed : Message → Option Row
key_sealed (row r) = None
key_sealed (seal k n) = Some k

-- the key values of the seals among messages, in their order
abbrev pub sealed_in : List Message → List Row
sealed_in messages = filter_map key_sealed messages

-- all pairs of some batches, in their order
abbrev pub all_pairs : List Batch → List Pair
all_pairs batches = flat_map (λ batch. batch) batches

-- ---- each element once

-- a list with an element at its end, unless it stands there
abbrev pub with_new : {X : Type 0} → (X → X → Bool) → List X → X → List X
with_new same xs x = if list_any (same x) xs then xs else xs ++ x ∷ []

-- each element once, in the order in which they come first
abbrev pub firsts : {X : Type 0} → (X → X → Bool) → List X → List X
firsts same xs = fold (with_new same) [] xs
