-- What is seen of the feeds of an instance.
use Rattle.std.specs.Prelude.{◌≡◌, ℕ, Option, Some, List, slice_get}
use Rattle.std.specs.Option.{option_and_then}
use Rattle.blz_value.specs.Record.{Row}
use Rattle.messages.specs.Feeds.{FeedsView}
use Rattle.messages.specs.Views.{views_of}
use Rattle.messages.specs.declared.feeds.Feeds.{Feeds}

abbrev pub feeds_view : Feeds → FeedsView
feeds_view f = views_of f.ports.items f.feeds.items f.keys.keys f.carrying

-- ---- partitions have numbers

-- the key values of the partitions, by their numbers
abbrev pub partitions : Feeds → List Row
partitions f = f.keys.keys

-- the partition with this key value has the number
abbrev pub HasNumber : (keys : List Row) → (key : Row) → (number : ℕ) → Type 0
HasNumber keys key number = slice_get keys number ≡ Some key

-- the key value of the partition with a number, where there is one
abbrev pub key_at : (keys : List Row) → Option ℕ → Option Row
key_at keys number = option_and_then (slice_get keys) number

-- each partition keeps its number
abbrev pub KeepNumbers : (old new : List Row) → Type 0
KeepNumbers old new = (key : Row) (number : ℕ) → HasNumber old key number → HasNumber new key number
