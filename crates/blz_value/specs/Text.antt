-- The text of values and records.
use Rattle.std.specs.Prelude.{ℕ, ◌+◌, ◌-◌, ◌/◌, ◌%◌, ◌==◌, ◌||◌, nat_lt, if◌then◌else◌, List, [], ◌∷◌, ◌++◌, ◌≡◌, length, take, codes}
use Rattle.std.specs.List.{flat_map, join_by}
use Rattle.std.specs.Fmt.{signed_decimal}
use Rattle.blz_value.specs.declared.value.Value.{Value}
use Rattle.blz_value.specs.declared.value.Value.TheVariants.{Int, Text}
use Rattle.blz_value.specs.Record.{Row}

-- a lower-case hexadecimal digit: 0 to 9, a to f
abbrev pub hex_digit : ℕ → ℕ
hex_digit n = if nat_lt n 10 then 48 + n else 97 + (n - 10)

-- a byte of a text: `"` and `\` behind a backslash; a byte below 0x20 and 0x7f as `\x` and two digits; else itself
abbrev pub escaped_byte : ℕ → List ℕ
escaped_byte b =
    if b == 34 then codes "\\\""
    else (if b == 92 then codes "\\\\"
    else (if nat_lt b 32 || b == 127 then codes "\\x" ++ hex_digit (b / 16) ∷ hex_digit (b % 16) ∷ []
    else b ∷ []))

-- a text, byte by byte
abbrev pub escaped : List ℕ → List ℕ
escaped bytes = flat_map escaped_byte bytes

-- a number in decimal, a text between double quotes
abbrev pub value_text : Value → List ℕ
value_text (Int n) = signed_decimal n
value_text (Text bytes) = codes "\"" ++ escaped bytes ++ codes "\""

-- the values between parentheses, joined by a comma and a space
abbrev pub record_text : Row → List ℕ
record_text row = codes "(" ++ join_by value_text (codes ", ") row ++ codes ")"

-- the longer text begins with the other
abbrev pub BeginsWith : List ℕ → List ℕ → Type 0
BeginsWith begin longer = take (length begin) longer ≡ begin
