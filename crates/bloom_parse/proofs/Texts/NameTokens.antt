-- The names among the terminals of a text are own names.
use Rattle.std.proofs.Common.{◌≡◌, ℕ, Bool, true, false, cond, ◌&&◌, List, [], ◌∷◌, ◌++◌, Option, Some, None, length, take, drop, nat_le, refl, sym, subst}
use Rattle.std.proofs.Math.Numerals.{one-add}
use Rattle.std.proofs.lemmas.Bool.{and_from}
use Rattle.std.proofs.lemmas.Grind.{flat_map-append}
use Rattle.std.specs.List.{flat_map, list_all, prefix_len}
use Rattle.std.specs.Option.{option_map, option_map_or, option_and_then}
use Rattle.std.specs.Str.{is_utf8}
use Rattle.std.specs.Str.Parse.{signed_digits_value}
use Rattle.blz_value.specs.declared.test.Op.{Op}
use Rattle.blz_value.specs.Name.{is_name_start, is_name_byte, starts_name}
use Rattle.bloom_forms.specs.Query.{Name}
use Rattle.bloom_parse.specs.declared.lexing.terminal.Terminal.{Terminal}
use Rattle.bloom_parse.specs.declared.lexing.terminal.Terminal.TheVariants as terminals
use Rattle.bloom_parse.specs.declared.lexing.terminal.Word.{Word}
use Rattle.bloom_parse.specs.declared.lexing.terminal.Mark.{Mark}
use Rattle.bloom_parse.specs.declared.lexing.token.Token.{Token}
use Rattle.bloom_parse.specs.Spelling.{word_of}
use Rattle.bloom_parse.specs.Tokens.{Front, and_rest, name_front, is_number, number_size, number_front, bytes_front, literal, text_front, mark_of, sign_front, mark_front, front, behind_blanks, last_of, Lexes}
use Rattle.bloom_parse.proofs.Texts.RunLemmas.{run_passes}
use Rattle.bloom_parse.proofs.Texts.TerminalLemmas.{Own, own_parts, own_both, terminal_name}

abbrev pub token_names : Terminal → List Name
token_names (terminals.Name name) = name ∷ []
token_names t = []

-- the names among some terminals are own names
abbrev pub Named : List Terminal → Type 0
Named ts = Own (flat_map token_names ts)

pub named_parts : (ts us : List Terminal) → Named (ts ++ us) → Named ts × Named us
named_parts ts us h = own_parts (flat_map token_names ts) (flat_map token_names us) (subst Own (flat_map-append token_names ts us) h)

-- ---- the terminal at the front of a text

-- a name that is found is an own name
abbrev Fine : Front → Type 0
Fine None = Unit {0}
Fine (Some found) = Own (token_names found.0)

starts : (byte : ℕ) (rest : List ℕ) → is_name_start byte ≡ true → starts_name (take (prefix_len is_name_byte (byte ∷ rest)) (byte ∷ rest)) ≡ true
starts byte rest e = rw (e, one-add) e

named_fine : (run rest : List ℕ) (short : Bool) (word : Option Word) → starts_name run ≡ true → list_all is_name_byte run ≡ true → nat_le (length run) 64 ≡ short → word_of run ≡ word
    → Fine (and_rest rest (cond short (Some (option_map_or terminals.Word word (terminals.Name run))) None))
named_fine run rest false word s a e f = tt
named_fine run rest true (Some w) s a e f = refl
named_fine run rest true None s a e f =
    let name = and_from (starts_name run) (nat_le (length run) 64 && list_all is_name_byte run) s (and_from (nat_le (length run) 64) (list_all is_name_byte run) e a) in
    and_from _ true (terminal_name run (name, f)) refl

name_fine : (byte : ℕ) (rest : List ℕ) → is_name_start byte ≡ true → Fine (name_front (byte ∷ rest))
name_fine byte rest e =
    let text : List ℕ = byte ∷ rest in
    let size : ℕ = prefix_len is_name_byte text in
    let run : List ℕ = take size text in
    named_fine run (drop size text) (nat_le (length run) 64) (word_of run) (starts byte rest e) (run_passes is_name_byte text) refl refl

number_fine : (run rest : List ℕ) (good : Bool) → Fine (and_rest rest (cond good (Some (terminals.Integer (signed_digits_value 10 run))) None))
number_fine run rest true = refl
number_fine run rest false = tt

literal_fine : (bytes rest : List ℕ) (good : Bool) → Fine (cond good (Some (terminals.Text bytes, rest)) None)
literal_fine bytes rest true = refl
literal_fine bytes rest false = tt

text_fine : (found : Option (List ℕ × List ℕ)) → Fine (option_and_then (λ x. literal x.0 x.1) found)
text_fine None = tt
text_fine (Some x) = literal_fine x.0 x.1 (is_utf8 x.0)

mark_fine : (rest : List ℕ) (found : Option Mark) (sign : Option (Op × List ℕ)) → Fine (option_map_or (λ m. Some (terminals.Mark m, rest)) found (option_map (λ x. (terminals.Sign x.0, x.1)) sign))
mark_fine rest (Some m) sign = refl
mark_fine rest None (Some s) = refl
mark_fine rest None None = tt

front_by : (byte : ℕ) (rest : List ℕ) (letter digit quote : Bool) → is_name_start byte ≡ letter
    → Fine (cond letter (name_front (byte ∷ rest)) (cond digit (number_front (byte ∷ rest)) (cond quote (text_front rest) (mark_front byte rest))))
front_by byte rest true digit quote e = name_fine byte rest e
front_by byte rest false true quote e =
    let text : List ℕ = byte ∷ rest in
    let run : List ℕ = take (number_size text) text in
    number_fine run (drop (number_size text) text) (is_number run)
front_by byte rest false false true e = text_fine (bytes_front 64 rest)
front_by byte rest false false false e = mark_fine rest (mark_of byte) (sign_front byte rest)

front_fine : (text : List ℕ) → Fine (front text)
unfolding front
front_fine [] = tt
front_fine (byte ∷ rest) = front_by byte rest (is_name_start byte) _ _ refl

-- ---- all terminals of a text

last_named : (rest : List ℕ) → Named (last_of rest ∷ [])
last_named [] = refl
last_named (byte ∷ rest) = refl

pub lexes_named : (size : ℕ) (left : List ℕ) (tokens : List Token) (ts : List Terminal) (rest : List ℕ) → Lexes size left tokens ts rest → Named ts
lexes_named size left [] ts rest h = subst Named (sym h.2) (last_named rest)
lexes_named size left (token ∷ tokens) [] rest h = absurd h
lexes_named size left (token ∷ tokens) (t ∷ ts) rest h =
    own_both (token_names t) (flat_map token_names ts) (subst Fine h.1 (front_fine left)) (lexes_named size (behind_blanks false h.0) tokens ts rest h.3)
