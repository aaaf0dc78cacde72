-- What holds of all notes.
use Rattle.std.specs.Prelude.{◌≡◌, IsTrue}
use Rattle.bloom_forms.specs.declared.note.Note.{Note}
use Rattle.bloom_forms.specs.Note.{combine, covers}

-- a note covers itself
abbrev pub CoversReflexive : Type 0
CoversReflexive = (a : Note) → IsTrue (covers a a)

-- a note covers what a covered note covers
abbrev pub CoversTransitive : Type 0
CoversTransitive = (a b c : Note) → IsTrue (covers a b) → IsTrue (covers b c) → IsTrue (covers a c)

-- notes that cover one another are equal
abbrev pub CoversAntisymmetric : Type 0
CoversAntisymmetric = (a b : Note) → IsTrue (covers a b) → IsTrue (covers b a) → a ≡ b

-- to cover is an order
pub record CoversLaw : Type 0 where
  pub reflexive : CoversReflexive
  pub transitive : CoversTransitive
  pub antisymmetric : CoversAntisymmetric

-- the note covers a and b, and each note that covers both covers it
pub record IsLeastCover (a b note : Note) : Type 0 where
  pub first : IsTrue (covers note a)
  pub second : IsTrue (covers note b)
  pub least : (other : Note) → IsTrue (covers other a) → IsTrue (covers other b) → IsTrue (covers other note)

-- two notes combine to the least note that covers both
abbrev pub CombineLaw : Type 0
CombineLaw = (a b : Note) → IsLeastCover a b (combine a b)
