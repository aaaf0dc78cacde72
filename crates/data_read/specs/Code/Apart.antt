-- Attributes of which no two records have the same value.
use Rattle.std.specs.Prelude.{ℕ, ◌≡◌, true, false, List, [], ◌∷◌}
use Rattle.blz_value.specs.Bits.{bit_of}
use Rattle.blz_value.specs.Graph.{is_in}
use Rattle.blz_value.specs.Members.{Has}
use Rattle.blz_value.specs.Record.{Row}
use Rattle.blz_value.specs.declared.attrs.Fd.{Fd}
use Rattle.topo_forms.specs.Data.{Data}
use Rattle.topo_forms.specs.View.{View}
use Rattle.data_read.specs.Broken.{Sides, all_sides, same}

-- the dependency of an attribute on itself, which speaks of the records of all sources that have it
abbrev pub own_fd : (attribute : ℕ) → Fd
own_fd a = record { from = record { bits = bit_of a }; to = record { bits = bit_of a } }

-- no two of some records have the same values on a side
abbrev pub NoneAgree : (side : Sides → Row) → List Sides → Type 0
NoneAgree side [] = Unit {0}
NoneAgree side (x ∷ xs) = ((y : Sides) → Has y xs → same (side x) (side y) ≡ false) × NoneAgree side xs

-- no two records have the same value of an attribute
abbrev pub IsApart : View → Data → (attribute : ℕ) → Type 0
IsApart v d a = NoneAgree (λ y. y.from) (all_sides v (own_fd a) d)

-- nor of any attribute in a set
abbrev pub AllApart : View → Data → (set : ℕ) → Type 0
AllApart v d set = (a : ℕ) → is_in a set ≡ true → IsApart v d a

-- one of some attributes is such
abbrev pub HasApart : View → Data → (set : ℕ) → Type 0
HasApart v d set = (a : ℕ) × (is_in a set ≡ true) × IsApart v d a
