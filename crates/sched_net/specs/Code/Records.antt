-- The records among the messages of an emitted list.
use Rattle.std.specs.Prelude.{Bool, true, false}
use Rattle.messages.specs.declared.message.Message.{Message}
use Rattle.messages.specs.declared.message.Message.TheVariants.{Row, Seal}

-- a message is a record
abbrev pub is_record : Message → Bool
is_record (Row id) = true
is_record (Seal key count) = false
