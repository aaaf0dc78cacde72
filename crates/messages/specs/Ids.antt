-- Messages by the ids of their records, read in a pool with some records.
use Rattle.std.specs.Prelude.{◌<◌, ℕ, List, map, length}
use Rattle.blz_value.specs.Record.{Row as Record}
use Rattle.blz_value.specs.Message.{Message, row, seal}
use Rattle.messages.specs.Messages.{Pair, Batch}
use Rattle.blz_pool.specs.Entries.{row_with_id}
use Rattle.messages.specs.declared.message.Message.{Message as IdMessage}
use Rattle.messages.specs.declared.message.Message.TheVariants.{Row, Seal}

-- the message whose record has this id in the pool
abbrev pub message_with_id : List Record → IdMessage → Message
message_with_id records (Row id) = row (row_with_id records id)
message_with_id records (Seal key count) = seal key count

-- the same with its feed
abbrev pub pair_with_id : List Record → ℕ × IdMessage → Pair
pair_with_id records pair = (pair.0, message_with_id records pair.1)

-- a batch of them
abbrev pub batch_with_ids : List Record → List (ℕ × IdMessage) → Batch
batch_with_ids records batch = map (pair_with_id records) batch

-- the pool gave the id of the message, where it has one
abbrev pub IsGiven : List Record → IdMessage → Type 0
IsGiven records (Row id) = id < length records
IsGiven records (Seal key count) = Unit {0}
