-- The tweets that the built-in word count counts, and its data.
use Rattle.std.specs.Prelude.{ℕ, ◌+◌, ◌*◌, ◌%◌, ◌==◌, ◌&&◌, pos, Bool, List, [], ◌∷◌, ◌++◌, map, length, Result, Err, codes, if◌then◌else◌}
use Rattle.std.specs.Fmt.{decimal}
use Rattle.std.specs.List.{flat_map}
use Rattle.blz_value.specs.Record.{Row}
use Rattle.blz_value.specs.declared.value.Value.TheVariants.{Int, Text}
use Rattle.topo_forms.specs.Data.{Data, SourceData}
use Rattle.blz_value.specs.NumberSets.{below}
use Rattle.topo_forms.specs.View.{View, source_count, stream_at}
use Rattle.data_read.specs.Making.{data_from, sources_of}
use Rattle.report_lines.specs.declared.refusal.Refusal.TheVariants as refusal
use Rattle.report_lines.specs.Refusals.{refusal_line}
use Rattle.command_checks.specs.Checks as check
use Rattle.command_checks.specs.Script.{Bytes}

-- ---- its tweets; batches and places are numbered from 0

-- two words
abbrev pub words : (first second : ℕ) → Bytes
words first second = codes "w" ++ (decimal first ++ (codes " w" ++ decimal second))

-- the tweet at a place of a batch: its number, its words, and the batch, counted from 1
abbrev pub tweet : (batch place : ℕ) → Row
tweet batch place = Int (pos (16 * batch + place + 1)) ∷ Text (words (place % 4) ((place + batch + 1) % 4)) ∷ Int (pos (batch + 1)) ∷ []

-- a batch has sixteen of them
unfoldable pub tweets_of : (batch : ℕ) → List Row
tweets_of batch = map (tweet batch) (below 16)

-- those of so many batches
abbrev pub tweets : (batches : ℕ) → List Row
tweets batches = flat_map tweets_of (below batches)

-- ---- its data

-- a topology takes them where it has one source, of three columns
abbrev pub takes_tweets : View → Bool
takes_tweets v = source_count v == 1 && length (stream_at v 0).columns == 3

-- one source with these rows, and without declared partitions
abbrev pub one_source : List Row → List SourceData
one_source rows = sources_of (rows ∷ []) ([] ∷ [])

abbrev pub data_of : View → List Row → Result Data Bytes
data_of v rows = check.data_in v (data_from v (one_source rows))

-- the data of so many batches
abbrev pub tweets_data : View → (batches : ℕ) → Result Data Bytes
tweets_data v batches = if takes_tweets v then data_of v (tweets batches) else Err (refusal_line (refusal.DataForm (codes "tweets") 0))
