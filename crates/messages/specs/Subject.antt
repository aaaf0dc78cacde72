-- What a message is about, a record or a partition: an emitted list has one message at most about it.
use Rattle.std.specs.Prelude.{ℕ, ◌==◌, Bool, false}
use Rattle.std.specs.Hash.{HashWrites, u32}
use Rattle.blz_value.specs.Hash.{row_writes}
use Rattle.blz_value.specs.Message.{is_same_row}
use Rattle.messages.specs.declared.message.Message.{Message as IdMessage}
use Rattle.messages.specs.declared.message.Message.TheVariants as message
use Rattle.messages.specs.declared.subject.Subject.{Subject}
use Rattle.messages.specs.declared.subject.Subject.TheVariants.{Row, Partition}

-- the message about it, where a seal has this count
abbrev pub message_about : Subject → (count : ℕ) → IdMessage
message_about (Row id) count = message.Row id
message_about (Partition key) count = message.Seal key count

-- the message of an entry of a list: what stands there once, with a count
abbrev pub message_of : Subject × ℕ → IdMessage
message_of entry = message_about entry.0 entry.1

-- it is one record, or one partition
abbrev pub is_same_subject : Subject → Subject → Bool
is_same_subject (Row id) (Row other) = id == other
is_same_subject (Row id) (Partition key) = false
is_same_subject (Partition key) (Row id) = false
is_same_subject (Partition key) (Partition other) = is_same_row key other

-- a hasher is fed an id as 4 bytes, and a key value as any record by the 8 bytes of its hash
abbrev pub subject_writes : Subject → HashWrites
subject_writes (Row id) = u32 id
subject_writes (Partition key) = row_writes key
