-- Keys that are sets of attributes: such a key is the list of its members in order.
use Rattle.std.specs.Prelude.{ℕ, ◌≡◌, ◌↔◌, ◌^◌, ◌<◌, IsTrue, is_some, List, [], ◌∷◌}
use Rattle.blz_value.specs.Members.{Has}
use Rattle.blz_value.specs.Record.{Row}
use Rattle.blz_value.specs.declared.attrs.Attrs.{Attrs}
use Rattle.blz_value.specs.declared.attrs.Fd.{Fd}
use Rattle.blz_value.specs.Bits.{members}
use Rattle.blz_value.specs.Closure.{within, closure}
use Rattle.bloom_forms.specs.declared.program.Program.{Program}
use Rattle.bloom_forms.specs.ProgramStep.{answer_of}
use Rattle.bloom_forms.specs.Query.{Name}
use Rattle.bloom_forms.specs.Step.{Sets, set_at}
use Rattle.bloom_forms.specs.Steps.{AreArrivals}
use Rattle.bloom_forms.specs.Annotation.{note_of, gate_of_output}
use Rattle.bloom_forms.specs.Gates.{set_of_roots}
use Rattle.bloom_forms.specs.HeadRoots.{attribute_roots}
use Rattle.bloom_forms.specs.Classes.{has_key, IsInClosure, AreKeyed, of_class}

-- the attributes that some columns have
abbrev pub attributes_in : (names columns : List Name) → ℕ
attributes_in names columns = set_of_roots (attribute_roots names columns)

-- a set is one of 64 attributes
abbrev pub IsSet : Attrs → Type 0
IsSet key = key.bits < 2 ^ 64

-- some columns have the members of a set exactly where the set lies in the attributes that they have
abbrev pub HasSetByMembers : Type 0
HasSetByMembers = (names columns : List Name) (key : Attrs) → IsSet key
    → has_key names columns (members key.bits) ≡ within key.bits (attributes_in names columns)

-- the members of a set lie in the closure of a gate exactly where the set does
abbrev pub SetIsInClosureByMembers : Type 0
SetIsInClosureByMembers = (key : Attrs) (gate : ℕ) (fds : List Fd) → IsSet key
    → IsInClosure (members key.bits) gate fds ↔ IsTrue (within key.bits (closure gate fds))

-- the one-step answer of an output is that of the records of each value of a set by themselves, where the set lies in the closure of the output's gate
abbrev pub AnswersBySet : (names : List Name) → Program → Type 0
AnswersBySet names program = (output : ℕ) (now : Sets) (fds : List Fd) (key : Attrs)
    → IsSet key → AreArrivals program (now ∷ [])
    → AreKeyed names program (now ∷ []) (λ port. is_some (note_of names program port output)) fds (members key.bits)
    → IsTrue (within key.bits (closure (gate_of_output names program output) fds))
    → (row : Row) → Has row (set_at (answer_of program now) output)
    ↔ ((value : Row) × Has row (set_at (answer_of program (of_class names program (members key.bits) (λ values. values) value now)) output))
