-- What a name is.
use Rattle.std.specs.Prelude.{ℕ, ◌==◌, ◌&&◌, ◌||◌, nat_le, Bool, false, List, [], ◌∷◌, length}
use Rattle.std.specs.List.{list_all}

-- an ASCII letter, or `_`
abbrev pub is_name_start : ℕ → Bool
is_name_start byte = (nat_le 97 byte && nat_le byte 122) || ((nat_le 65 byte && nat_le byte 90) || byte == 95)

-- such a letter, `_` or a digit
abbrev pub is_name_byte : ℕ → Bool
is_name_byte byte = is_name_start byte || (nat_le 48 byte && nat_le byte 57)

-- there is a first byte, and it is a letter or `_`
abbrev pub starts_name : List ℕ → Bool
starts_name [] = false
starts_name (first ∷ others) = is_name_start first

-- a letter or `_`, then letters, digits and `_`, at most 64 bytes in all
abbrev pub is_name : List ℕ → Bool
is_name text = starts_name text && (nat_le (length text) 64 && list_all is_name_byte text)
