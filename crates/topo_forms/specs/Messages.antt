-- The messages that sources emit.
use Rattle.std.specs.Prelude.{ℕ, not, Option, None, Some, List, [], ◌∷◌, ◌++◌, map, filter, length}
use Rattle.blz_value.specs.declared.attrs.Attrs.{Attrs}
use Rattle.blz_value.specs.Record.{Row}
use Rattle.blz_value.specs.Sets.{set_of}
pub use Rattle.blz_value.specs.Message.{Message, row, seal, is_same_row, row_in, rows_in}
use Rattle.bloom_forms.specs.Roots.{Roots}
use Rattle.topo_forms.specs.View.{View, Stream, stream_at}
use Rattle.topo_forms.specs.Data.{Data, SourceData, source_data, key_value, rows_with_key}

-- the distinct records of a list, in the order in which they first stand there
abbrev pub distinct_rows : List Row → List Row
distinct_rows [] = []
distinct_rows (x ∷ xs) = x ∷ filter (λ y. not (is_same_row x y)) (distinct_rows xs)

-- the partitions of a source with a key: the key values of its records and its declared partitions
abbrev pub partitions : Roots → (key : ℕ) → SourceData → List Row
partitions columns key d = set_of (map (key_value columns key) d.rows ++ d.parts)

-- the seals of a source, by the order of their keys, each with how many distinct records its partition has
abbrev pub source_seals : Roots → Option Attrs → SourceData → List Message
source_seals columns None d = []
source_seals columns (Some key) d = map (λ value. seal value (length (rows_with_key columns key.bits value (distinct_rows d.rows)))) (partitions columns key.bits d)

-- what a source emits: its distinct records in file order, then its seals
abbrev pub source_messages : Stream → SourceData → List Message
source_messages s d = map row (distinct_rows d.rows) ++ source_seals s.columns s.key d

-- what the source with a number emits
abbrev pub emitted_of_source : View → Data → ℕ → List Message
emitted_of_source v d s = source_messages (stream_at v s) (source_data d s)
