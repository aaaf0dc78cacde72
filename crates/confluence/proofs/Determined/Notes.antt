-- A note that covers what a port is given is O where that is, and its gate lies in that one's.
use Rattle.std.proofs.Common.{◌≡◌, Bool, true, false, Option, None, Some, refl}
use Rattle.std.proofs.lemmas.Bool.{and_parts}
use Rattle.std.specs.Prelude.{is_some}
use Rattle.blz_value.specs.declared.attrs.Attrs.{Attrs}
use Rattle.blz_value.specs.Closure.{within}
use Rattle.bloom_forms.specs.declared.note.Note.{Note}
use Rattle.bloom_forms.specs.declared.note.Note.TheVariants.{CR, CW, OR, OW}
use Rattle.bloom_forms.specs.Note.{is_write, covers_write, covers_gate, own_gate}
use Rattle.topo_forms.specs.Valid.{IsCovered}
use Rattle.confluence.specs.LabelMeaning.{is_ordered_read}
use Rattle.bloom_forms.specs.Given.{is_o, is_w}

-- a gate within another
record Gates (a b : Option Attrs) : Type 0 where
  gate : Attrs
  own : Attrs
  gate_is : a ≡ Some gate
  own_is : b ≡ Some own
  inside : within gate.bits own.bits ≡ true

gates : (a b : Option Attrs) → covers_gate a b ≡ true → is_some b ≡ true → Gates a b
gates a None e some = cc
gates None (Some b) e some = cc
gates (Some a) (Some b) e some = record { gate = a; own = b; gate_is = refl; own_is = refl; inside = e }

-- what is given is O, and so is the note, with a gate that lies in the other
pub record CoversO (used given : Option Note) : Type 0 where
  pub note : Note
  pub noted : used ≡ Some note
  pub one : Note
  pub given_is : given ≡ Some one
  pub gate : Attrs
  pub own : Attrs
  pub gate_is : own_gate note ≡ Some gate
  pub own_is : own_gate one ≡ Some own
  pub inside : within gate.bits own.bits ≡ true

pub covers_o : (used given : Option Note) → IsCovered used given → is_o given ≡ true → CoversO used given
covers_o used None c o = cc
covers_o None (Some one) c o = absurd c
covers_o (Some note) (Some one) c o =
    let g = gates (own_gate note) (own_gate one) (and_parts (covers_write (is_write note) (is_write one)) (covers_gate (own_gate note) (own_gate one)) c).1 o in
    record { note = note; noted = refl; one = one; given_is = refl; gate = g.gate; own = g.own; gate_is = g.gate_is; own_is = g.own_is; inside = g.inside }

pub covers_some : (used given : Option Note) → IsCovered used given → is_some given ≡ true → (note : Note) × (used ≡ Some note)
covers_some used None c t = cc
covers_some None (Some one) c t = absurd c
covers_some (Some note) (Some one) c t = (note, refl)

not_write : (a b : Bool) → covers_write a b ≡ true → a ≡ false → b ≡ false
not_write true b e f = cc
not_write false true e f = cc
not_write false false e f = refl

reads_only : (note : Note) → is_ordered_read note ≡ true → is_write note ≡ false
reads_only CR e = refl
reads_only CW e = cc
reads_only (OR gate) e = refl
reads_only (OW gate) e = cc

-- where the note is OR, what is given isn't W
pub covers_read : (used given : Option Note) (note : Note) → IsCovered used given → used ≡ Some note → is_ordered_read note ≡ true → is_w given ≡ false
covers_read used None note c is t = refl
covers_read None (Some one) note c is t = absurd c
covers_read (Some other) (Some one) note c is t =
    let same : other ≡ note = cc in
    not_write (is_write other) (is_write one) (and_parts (covers_write (is_write other) (is_write one)) (covers_gate (own_gate other) (own_gate one)) c).0 (rw same (reads_only note t))

-- what isn't O has no gate
pub not_o : (given : Option Note) (note : Note) → is_o given ≡ false → given ≡ Some note → own_gate note ≡ None
not_o None note e is = cc
not_o (Some CR) note e is = cc
not_o (Some CW) note e is = cc
not_o (Some (OR gate)) note e is = cc
not_o (Some (OW gate)) note e is = cc
