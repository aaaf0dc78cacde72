-- Sets of numbers put together, and arrows between them.
use Rattle.std.specs.Prelude.{ℕ, Bool, if◌then◌else◌, List, [], ◌∷◌, bit_or, false, ◌==◌, Option}
use Rattle.blz_value.specs.declared.attrs.Fd.{Fd}
use Rattle.blz_value.specs.Bits.{bit_of}
use Rattle.std.specs.Option.{option_map_or}
use Rattle.blz_value.specs.declared.attrs.Attrs.{Attrs}

-- an arrow from a set to a set: who reads all of the first reads the second too
abbrev pub arrow_from : ℕ → ℕ → Fd
arrow_from a b = record { from = record { bits = a }; to = record { bits = b } }

-- a set with all of these
abbrev pub with_all : ℕ → List ℕ → ℕ
with_all set [] = set
with_all set (more ∷ sets) = with_all (bit_or set more) sets

-- the set of this one number where the test holds, else the empty one
abbrev pub bit_if : Bool → ℕ → ℕ
bit_if here n = if here then bit_of n else 0

-- some key is this one
abbrev pub is_key : (key : ℕ) → Option Attrs → Bool
is_key key other = option_map_or (λ own. own.bits == key) other false
