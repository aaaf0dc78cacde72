-- How many records of each partition there are, and the seals that say so.
use Rattle.std.specs.Prelude.{◌≡◌, ◌<◌, ◌+◌, ◌^◌, ℕ, Option, None, List, map, unwrap_or, slice_index_or, IfSome}
use Rattle.std.specs.BTreeMap.{BTreeMap, get}
use Rattle.blz_value.specs.Record.{Row, record_cmp}
use Rattle.blz_value.specs.Message.{Message, seal}
use Rattle.messages.specs.Emitted.{count_in}
use Rattle.messages.specs.Lists.{list_at}
use Rattle.messages.specs.declared.counts.Tally.{Tally}

-- how many records of a key value were counted
abbrev pub count_of : BTreeMap Row ℕ → (key : Row) → ℕ
count_of counts key = unwrap_or (get record_cmp counts key) 0

-- a seal of each of some partitions, with the number of its records in a list
abbrev pub seals_of : (columns : List ℕ) → List Message → (keys : List Row) → List Message
seals_of columns list keys = map (λ key. seal key (count_in columns list key)) keys

-- a tally can count one record more
abbrev pub HasRoom : Tally → Type 0
HasRoom tally = (key : Row) → count_of tally.counts key + 1 < 2 ^ 32

-- a tally has exactly the number of a list's records of each key value
abbrev pub IsTallyOf : Tally → List Message → Type 0
IsTallyOf tally list = (key : Row) → count_of tally.counts key ≡ count_in tally.columns list key

-- so it is where there is one
abbrev pub IsTallied : Option Tally → List Message → Type 0
IsTallied tally list = IfSome tally (λ t. IsTallyOf t list)

-- and so of all lists
abbrev pub AreTallied : List (Option Tally) → List (List Message) → Type 0
AreTallied tallies lists = (place : ℕ) → IsTallied (slice_index_or tallies place None) (list_at lists place)
