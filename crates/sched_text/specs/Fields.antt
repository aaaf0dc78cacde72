-- The fields of a line, and what single fields stand for.
use Rattle.std.specs.Prelude.{ℕ, ◌^◌, ◌==◌, ◌&&◌, ◌||◌, nat_le, nat_lt, Bool, List, length, filter, Option, Some, None, if◌then◌else◌}
use Rattle.std.specs.List.{slice_split, list_all, before_first, after_first}
use Rattle.std.specs.Char.{is_ascii_digit}
use Rattle.std.specs.Str.Parse.{digits_value}
use Rattle.blz_value.specs.Name.{is_name}
use Rattle.sched_text.specs.Lines.{has_bytes}

-- a field, as its bytes
abbrev pub Field : Type 0
Field = List ℕ

-- a space or a tab
abbrev pub is_blank : ℕ → Bool
is_blank byte = byte == 32 || byte == 9

-- the longest runs of other bytes, in their order
abbrev pub fields_of : List ℕ → List Field
fields_of line = filter has_bytes (slice_split is_blank line)

-- x where the test holds
abbrev pub only_if : {X : Type 0} → Bool → X → Option X
only_if test x = if test then Some x else None

-- a name
abbrev pub name_of : Field → Option (List ℕ)
name_of field = only_if (is_name field) field

-- 1 to 10 decimal digits
abbrev pub is_number : Field → Bool
is_number field = nat_le 1 (length field) && (nat_le (length field) 10 && list_all is_ascii_digit field)

-- a number of 1 to 10 decimal digits below 2^32
abbrev pub number_of : Field → Option ℕ
number_of field = only_if (is_number field && nat_lt (digits_value 10 field) (2 ^ 32)) (digits_value 10 field)

-- `.`
abbrev pub is_dot : ℕ → Bool
is_dot byte = byte == 46

-- a component with one of its ports
pub record Spot : Type 0 where
  pub component : List ℕ
  pub port : List ℕ

infixl 10 ◌>>=◌
-- goes on with what was read
abbrev pub ◌>>=◌ : {A B : Type 0} → Option A → (A → Option B) → Option B
None >>= next = None
(Some x) >>= next = next x

-- the names before and behind the first dot
abbrev pub spot_of : Field → Option Spot
spot_of field = do
  component ← name_of (before_first is_dot field)
  port ← name_of (after_first is_dot field)
  Some (record { component = component; port = port })
