-- How notes combine, and when one covers another.
use Rattle.std.specs.Prelude.{Bool, true, false, ◌&&◌, ◌||◌, not, bit_and, Option, Some, None}
use Rattle.blz_value.specs.Closure.{within}
use Rattle.blz_value.specs.declared.attrs.Attrs.{Attrs}
use Rattle.bloom_forms.specs.declared.note.Note.{Note}
use Rattle.bloom_forms.specs.declared.note.Note.TheVariants.{CR, CW, OR, OW}

-- the note is W
abbrev pub is_write : Note → Bool
is_write CR = false
is_write CW = true
is_write (OR gate) = false
is_write (OW gate) = true

-- the gate of a note that is O; a note that is C has none
abbrev pub own_gate : Note → Option Attrs
own_gate CR = None
own_gate CW = None
own_gate (OR gate) = Some gate
own_gate (OW gate) = Some gate

-- the note that is W or R, and is O with this gate or C without one
abbrev pub note_with : Bool → Option Attrs → Note
note_with false None = CR
note_with true None = CW
note_with false (Some gate) = OR gate
note_with true (Some gate) = OW gate

-- the attributes that are in both
abbrev pub intersection : Attrs → Attrs → Attrs
intersection a b = record { bits = bit_and a.bits b.bits }

-- C with O gives O, and the gates of O with O intersect
abbrev pub common_gate : Option Attrs → Option Attrs → Option Attrs
common_gate None None = None
common_gate None (Some b) = Some b
common_gate (Some a) None = Some a
common_gate (Some a) (Some b) = Some (intersection a b)

-- R with W gives W, C with O gives O, and gates intersect
abbrev pub combine : Note → Note → Note
combine a b = note_with (is_write a || is_write b) (common_gate (own_gate a) (own_gate b))

-- the declared note is W if the derived one is
abbrev pub covers_write : Bool → Bool → Bool
covers_write declared derived = declared || not derived

-- the declared note is O if the derived one is, and then its gate lies in that gate
abbrev pub covers_gate : Option Attrs → Option Attrs → Bool
covers_gate _ None = true
covers_gate None (Some derived) = false
covers_gate (Some declared) (Some derived) = within declared.bits derived.bits

-- the declared note tells no less: W for W, O for O, and with O a gate that lies in the derived one's
abbrev pub covers : Note → Note → Bool
covers declared derived =
    covers_write (is_write declared) (is_write derived) && covers_gate (own_gate declared) (own_gate derived)
