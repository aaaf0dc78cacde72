-- Pieces of lines that come again, and the slots that keep their texts.
use Rattle.std.specs.Prelude.{◌≡◌, ◌<◌, ◌*◌, ◌^◌, ℕ, List, ◌++◌, IfSome, codes, length}
use Rattle.std.specs.List.{All}
use Rattle.std.specs.Fmt.{decimal}
use Rattle.topo_forms.specs.View.{View, component_at, port_at, stream_at}
use Rattle.sched_run.specs.declared.pieces.TheConstants.{SLOTS}
use Rattle.sched_run.specs.declared.pieces.Piece.{Piece}
use Rattle.sched_run.specs.declared.pieces.Piece.TheVariants.{Sender, Receiver}
use Rattle.sched_run.specs.declared.pieces.Slot.{Slot}
use Rattle.sched_run.specs.declared.pieces.Texts.{Texts}

-- what a piece speaks of is there
abbrev pub HasPieceNames : View → Piece → Type 0
HasPieceNames v (Sender stream replica) = stream < length v.streams
HasPieceNames v (Receiver component port replica) = (component < length v.components) × (port < length (component_at v component).ports)

-- the number of its replica is small
abbrev pub IsSmallPiece : Piece → Type 0
IsSmallPiece (Sender stream replica) = replica < 2 ^ 32
IsSmallPiece (Receiver component port replica) = replica < 2 ^ 32

-- what stands before the index in the line of a delivery, and behind it up to the end of the line
abbrev pub piece_text : View → Piece → List ℕ
piece_text v (Sender stream replica) = codes "deliver " ++ (stream_at v stream).name ++ codes " " ++ decimal replica ++ codes " "
piece_text v (Receiver component port replica) = codes " to " ++ (component_at v component).name ++ codes "." ++ (port_at v component port).name ++ codes " " ++ decimal replica ++ codes "\n"

-- the text of a slot is that of its piece, where it has one
abbrev pub HasPieceText : View → Slot → Type 0
HasPieceText v slot = IfSome slot.piece (λ piece. slot.text.items ≡ piece_text v piece)

-- so it is of each slot, and each piece has one
pub record AreTexts (v : View) (texts : Texts) : Type 0 where
  pub many : length texts.slots.items ≡ 2 * SLOTS
  pub each : All (HasPieceText v) texts.slots.items
