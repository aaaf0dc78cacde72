-- The tokens of a text.
use Rattle.std.specs.Prelude.{◌≡◌, ◌≢◌, ◌+◌, ◌-◌, ◌*◌, ◌^◌, ◌==◌, ◌&&◌, ◌||◌, ℕ, zero, suc, ℤ, pos, negsuc, nat_le, nat_lt, Bool, false, not, if◌then◌else◌, List, [], ◌∷◌, ◌++◌, Option, Some, None, length, take, drop, slice_get, count_by}
use Rattle.std.specs.Char.{is_ascii_digit}
use Rattle.std.specs.List.{prefix_len, suffix_len}
use Rattle.std.specs.Option.{option_map, option_map_or, option_and_then}
use Rattle.std.specs.Str.{is_utf8, all_ascii_digits}
use Rattle.std.specs.Str.Parse.{without_leading_sign, signed_digits_value}
use Rattle.blz_value.specs.declared.test.Op.{Op}
use Rattle.blz_value.specs.declared.test.Op.TheVariants.{Eq, Ne, Lt, Le, Gt, Ge}
use Rattle.blz_value.specs.Name.{is_name_start, is_name_byte}
use Rattle.bloom_parse.specs.declared.lexing.terminal.Terminal.{Terminal}
use Rattle.bloom_parse.specs.declared.lexing.terminal.Terminal.TheVariants as terminals
use Rattle.bloom_parse.specs.declared.lexing.terminal.Mark.{Mark}
use Rattle.bloom_parse.specs.declared.lexing.terminal.Mark.TheVariants as marks
use Rattle.bloom_parse.specs.declared.lexing.token.Token.{Token}
use Rattle.bloom_parse.specs.declared.lexing.token.Class.{Class}
use Rattle.bloom_parse.specs.declared.lexing.token.Class.TheVariants as classes
use Rattle.bloom_parse.specs.declared.refusal.ParseFault.{ParseFault}
use Rattle.bloom_parse.specs.declared.refusal.ParseFault.TheVariants as faults
use Rattle.bloom_parse.specs.declared.refusal.TextFault.{TextFault}
use Rattle.bloom_parse.specs.Spelling.{word_of}

-- ---- between tokens

-- space, tab, CR and LF
abbrev pub is_white : ℕ → Bool
is_white byte = byte == 32 || (byte == 9 || (byte == 13 || byte == 10))

-- what is left of a text behind white space and comments, each from `#` to the end of its line; where within is true, the text begins within a comment
abbrev pub behind_blanks : Bool → List ℕ → List ℕ
behind_blanks within [] = []
behind_blanks within (byte ∷ text) =
    if within || (is_white byte || byte == 35) then behind_blanks (if within then not (byte == 10) else byte == 35) text
    else byte ∷ text

-- ---- the token at the front of a text

-- a terminal, and what is left of the text behind it
abbrev pub Front : Type 0
Front = Option (Terminal × List ℕ)

abbrev pub and_rest : List ℕ → Option Terminal → Front
and_rest rest found = option_map (λ t. (t, rest)) found

-- a run of name bytes is a reserved word or a name, and a bad token where it is longer than 64
abbrev pub named : List ℕ → Option Terminal
named run = if nat_le (length run) 64 then Some (option_map_or terminals.Word (word_of run) (terminals.Name run)) else None

-- the longest run of name bytes
abbrev pub name_front : List ℕ → Front
name_front text = let size = prefix_len is_name_byte text in and_rest (drop size text) (named (take size text))

-- the number is an i64; negsuc n is -(n + 1)
abbrev pub is_i64 : ℤ → Bool
is_i64 (pos n) = nat_lt n (2 ^ 63)
is_i64 (negsuc n) = nat_lt n (2 ^ 63)

-- an optional `-` and digits whose value is an i64
abbrev pub is_number : List ℕ → Bool
is_number run = let digits = without_leading_sign run in nat_lt 0 (length digits) && (all_ascii_digits digits && is_i64 (signed_digits_value 10 run))

abbrev pub numbered : List ℕ → Option Terminal
numbered run = if is_number run then Some (terminals.Integer (signed_digits_value 10 run)) else None

-- how many bytes an optional `-` and the longest run of digits behind it take
abbrev pub number_size : List ℕ → ℕ
number_size [] = 0
number_size (byte ∷ text) = if byte == 45 then 1 + prefix_len is_ascii_digit text else prefix_len is_ascii_digit (byte ∷ text)

abbrev pub number_front : List ℕ → Front
number_front text = let size = number_size text in and_rest (drop size text) (numbered (take size text))

-- the value of a lower-case hexadecimal digit
abbrev pub hex_value : ℕ → Option ℕ
hex_value byte =
    if is_ascii_digit byte then Some (byte - 48)
    else (if nat_le 97 byte && nat_le byte 102 then Some (byte - 87) else None)

-- below 0x20, or 0x7f: the bytes of a text that are written as `\x` and two digits
abbrev pub is_control : ℕ → Bool
is_control byte = nat_lt byte 32 || byte == 127

-- a byte of a text literal, and what is left behind it
abbrev pub Byte : Type 0
Byte = Option (ℕ × List ℕ)

-- two digits of a byte that is written so
abbrev pub hex_front : List ℕ → Byte
hex_front [] = None
hex_front (high ∷ []) = None
hex_front (high ∷ low ∷ rest) =
    option_and_then (λ h. option_and_then (λ l.
    if is_control (16 * h + l) then Some (16 * h + l, rest) else None) (hex_value low)) (hex_value high)

-- behind a backslash stand `"`, a backslash, or `x` and two digits
abbrev pub escape_front : List ℕ → Byte
escape_front [] = None
escape_front (byte ∷ rest) =
    if byte == 34 || byte == 92 then Some (byte, rest)
    else (if byte == 120 then hex_front rest else None)

-- a byte that isn't escaped is itself
abbrev pub byte_front : List ℕ → Byte
byte_front [] = None
byte_front (byte ∷ rest) =
    if byte == 92 then escape_front rest
    else (if is_control byte || byte == 34 then None else Some (byte, rest))

abbrev pub starts_with_quote : List ℕ → Bool
starts_with_quote [] = false
starts_with_quote (byte ∷ rest) = byte == 34

-- what is left behind the closing quote
abbrev pub closing_front : List ℕ → Option (List ℕ × List ℕ)
closing_front text = if starts_with_quote text then Some ([], drop 1 text) else None

abbrev pub with_bytes : List ℕ → Option (List ℕ × List ℕ) → Option (List ℕ × List ℕ)
with_bytes bytes found = option_map (λ x. (bytes ++ x.0, x.1)) found

-- the bytes up to the closing quote, at most so many, and what is left behind it
unfoldable pub bytes_front : ℕ → List ℕ → Option (List ℕ × List ℕ)
bytes_front zero text = closing_front text
bytes_front (suc room) text =
    if starts_with_quote text then closing_front text
    else option_and_then (λ x. with_bytes (x.0 ∷ []) (bytes_front room x.1)) (byte_front text)

-- bytes in UTF-8 are a text
abbrev pub literal : List ℕ → List ℕ → Front
literal bytes rest = if is_utf8 bytes then Some (terminals.Text bytes, rest) else None

-- behind the opening quote: at most 64 bytes of UTF-8
abbrev pub text_front : List ℕ → Front
text_front text = option_and_then (λ x. literal x.0 x.1) (bytes_front 64 text)

-- a mark of one byte that doesn't compare
abbrev pub mark_of : ℕ → Option Mark
mark_of byte =
    if byte == 59 then Some marks.Semicolon
    else (if byte == 44 then Some marks.Comma
    else (if byte == 40 then Some marks.Open
    else (if byte == 41 then Some marks.Close
    else (if byte == 91 then Some marks.OpenKeys
    else (if byte == 93 then Some marks.CloseKeys
    else None)))))

abbrev pub starts_with_equals : List ℕ → Bool
starts_with_equals [] = false
starts_with_equals (byte ∷ rest) = byte == 61

-- a mark that compares: the longer one where `=` goes on
abbrev pub sign_front : ℕ → List ℕ → Option (Op × List ℕ)
sign_front byte rest =
    if byte == 61 then Some (Eq, rest)
    else (if byte == 33 then (if starts_with_equals rest then Some (Ne, drop 1 rest) else None)
    else (if byte == 60 then (if starts_with_equals rest then Some (Le, drop 1 rest) else Some (Lt, rest))
    else (if byte == 62 then (if starts_with_equals rest then Some (Ge, drop 1 rest) else Some (Gt, rest))
    else None)))

abbrev pub mark_front : ℕ → List ℕ → Front
mark_front byte rest = option_map_or (λ m. Some (terminals.Mark m, rest)) (mark_of byte)
    (option_map (λ x. (terminals.Sign x.0, x.1)) (sign_front byte rest))

-- the longest token at the front of a text; None where its first byte begins none
unfoldable pub front : List ℕ → Front
front [] = None
front (byte ∷ rest) =
    if is_name_start byte then name_front (byte ∷ rest)
    else (if is_ascii_digit byte || byte == 45 then number_front (byte ∷ rest)
    else (if byte == 34 then text_front rest
    else mark_front byte rest))

-- ---- the tokens of a text

abbrev pub class_of : Terminal → Class
class_of (terminals.Name name) = classes.Name
class_of (terminals.Word w) = classes.Word
class_of (terminals.Integer number) = classes.Integer
class_of (terminals.Text text) = classes.Text
class_of t = classes.Mark

-- a token in a text of so many bytes, by how many bytes are left from it on and behind it
abbrev pub token_at : ℕ → ℕ → ℕ → Terminal → Token
token_at size left after t = record { from = size - left; to = size - after; class = class_of t }

-- where no token begins, the text ends or has a bad token
abbrev pub last_of : List ℕ → Terminal
last_of [] = terminals.End
last_of (byte ∷ rest) = terminals.Bad

-- What is left of a text of so many bytes, without blanks at its front, has these tokens, with these terminals and a last one: End where the text ends, and Bad where a bad token begins. From there on, rest is left.
abbrev pub Lexes : ℕ → List ℕ → List Token → List Terminal → List ℕ → Type 0
Lexes size left [] ts rest = (left ≡ rest) × (front rest ≡ None) × (ts ≡ last_of rest ∷ [])
Lexes size left (token ∷ tokens) [] rest = ⊥
Lexes size left (token ∷ tokens) (t ∷ ts) rest =
    (after : List ℕ) × (front left ≡ Some (t, after)) × (token ≡ token_at size (length left) (length after) t)
    × Lexes size (behind_blanks false after) tokens ts rest

-- a text has these tokens and terminals, with rest left at the last terminal
abbrev pub HasTokens : List ℕ → List Token → List Terminal → List ℕ → Type 0
HasTokens text tokens ts rest = Lexes (length text) (behind_blanks false text) tokens ts rest

-- the tokens of a text, which has no bad one
abbrev pub AreTokens : List ℕ → List Token → Type 0
AreTokens text tokens = (ts : List Terminal) × HasTokens text tokens ts []

-- the terminals of a text: those of its tokens up to the first bad one, and then Bad, or End behind the last
abbrev pub AreTerminals : List ℕ → List Terminal → Type 0
AreTerminals text ts = (tokens : List Token) × (rest : List ℕ) × HasTokens text tokens ts rest

-- ---- places

-- the line and the column of the byte behind these, both counted from 1: a line begins behind each LF
abbrev pub line_behind : List ℕ → ℕ
line_behind bytes = count_by (λ byte. byte == 10) bytes + 1

abbrev pub column_behind : List ℕ → ℕ
column_behind bytes = suffix_len (λ byte. not (byte == 10)) bytes + 1

-- the place in a text of the byte with this number, counted from 0
abbrev pub place_of : List ℕ → ℕ → TextFault
place_of text number = let before = take number text in record { line = line_behind before; column = column_behind before }

-- the number of the first byte of the terminal from which on so many terminals are left, in a text of so many bytes with these tokens and rest left behind them
abbrev pub start_of : ℕ → List Token → List ℕ → ℕ → ℕ
start_of size tokens rest left = option_map_or (λ token. token.from) (slice_get tokens (length tokens + 1 - left)) (size - length rest)

-- behind some tokens a text has a bad one, here
abbrev pub IsBadAt : List ℕ → TextFault → Type 0
IsBadAt text fault = (tokens : List Token) × (ts : List Terminal) × (rest : List ℕ) × HasTokens text tokens ts rest × (rest ≢ []) × (fault ≡ place_of text (length text - length rest))

-- a fault that is none of memory is at the first bad token
abbrev pub IsBadFault : List ℕ → ParseFault → Type 0
IsBadFault text (faults.Text fault) = IsBadAt text fault
IsBadFault text faults.NoMemory = Unit {0}
