-- What is spelled is read again.
use Rattle.std.proofs.Common.{◌≡◌, ℕ, zero, suc, ◌+◌, ◌-◌, ◌*◌, ◌/◌, ◌%◌, ◌^◌, ◌<◌, ◌≤◌, Bool, true, false, cond, ◌&&◌, ◌==◌, List, [], ◌∷◌, ◌++◌, Option, Some, None, Result, Ok, Err, length, drop, take, refl, ap, ◌∙◌, sym, arith, w64, append_assoc, nat_lt, nat_le}
use Rattle.std.specs.Prelude.{ℤ, pos, negsuc, FitsSigned}
use Rattle.std.proofs.Math.Numerals.{one-add}
use Rattle.std.proofs.lemmas.Bool.{ltb-true, eqb-true}
use Rattle.std.proofs.lemmas.Bool.Decides.{nat_tests}
use Rattle.std.proofs.lemmas.Fmt.{decimal_is_IsNumeral, parse-signed_decimal}
use Rattle.std.proofs.Math.Seq.{take-append_seam, drop-append_seam}
use Rattle.std.specs.Char.{is_ascii_digit}
use Rattle.std.specs.Fmt.{signed_decimal, decimal}
use Rattle.std.specs.List.{prefix_len, list_all}
use Rattle.std.specs.Option.{option_map_or, option_and_then}
use Rattle.std.specs.Str.{IsUtf8, all_ascii_digits}
use Rattle.std.specs.Str.Parse.{without_leading_sign, signed_digits_value}
use Rattle.blz_value.specs.Name.{is_name, is_name_start, is_name_byte}
use Rattle.blz_value.specs.Text.{escaped, escaped_byte, hex_digit, value_text}
use Rattle.blz_value.specs.declared.value.Value.TheVariants as values
use Rattle.bloom_parse.specs.declared.lexing.terminal.Terminal.{Terminal}
use Rattle.bloom_parse.specs.declared.lexing.terminal.Terminal.TheVariants as terminals
use Rattle.bloom_parse.specs.declared.lexing.terminal.Word.{Word}
use Rattle.bloom_parse.specs.declared.lexing.terminal.Word.TheVariants as words
use Rattle.bloom_parse.specs.Spelling.{word_of, word_bytes}
use Rattle.bloom_parse.specs.Tokens.{front, named, is_number, numbered, number_size, and_rest, name_front, number_front, hex_value, is_control, hex_front, byte_front, closing_front, bytes_front, with_bytes, literal, text_front}
use Rattle.bloom_parse.proofs.Texts.RunLemmas.{and_true}
use Rattle.bloom_parse.proofs.Texts.NumberLemmas.{number_read, numeral_of, model}
use Rattle.bloom_parse.proofs.Texts.ByteLemmas.{bytes_closed, bytes_more, literal_read}

-- the text ends, or goes on with a byte that doesn't pass
abbrev pub Stops : (ℕ → Bool) → List ℕ → Type 0
Stops p [] = Unit {0}
Stops p (b ∷ rest) = p b ≡ false

-- ---- runs

none_passes : (p : ℕ → Bool) (tail : List ℕ) → Stops p tail → prefix_len p tail ≡ 0
none_passes p [] s = refl
none_passes p (b ∷ tail) s = rw s refl

pub run_ends : (p : ℕ → Bool) (xs tail : List ℕ) → list_all p xs ≡ true → Stops p tail → prefix_len p (xs ++ tail) ≡ length xs
run_ends p [] tail h s = none_passes p tail s
run_ends p (x ∷ xs) tail h s =
    let both = and_true (p x) (list_all p xs) h in
    rw (both.0) (ap (λ n. 1 + n) (run_ends p xs tail both.1 s) ∙ one-add (length xs))

cut_off : (found : List ℕ → Option Terminal) (size : ℕ) (run tail : List ℕ) (t : Terminal) → size ≡ length run → found run ≡ Some t → and_rest (drop size (run ++ tail)) (found (take size (run ++ tail))) ≡ Some (t, tail)
cut_off found size run tail t e h =
    ap (λ n. and_rest (drop n (run ++ tail)) (found (take n (run ++ tail)))) e
    ∙ ap (λ xs. and_rest xs (found (take (length run) (run ++ tail)))) (drop-append_seam run tail)
    ∙ ap (λ xs. and_rest tail (found xs)) (take-append_seam run tail)
    ∙ ap (and_rest tail) h

-- ---- names and words

named_again : (run : List ℕ) → is_name run ≡ true → named run ≡ Some (option_map_or terminals.Word (word_of run) (terminals.Name run))
named_again [] h = cc
named_again (b ∷ bs) h =
    let first = and_true (is_name_start b) (nat_le (length (b ∷ bs)) 64 && list_all is_name_byte (b ∷ bs)) h in
    let second = and_true (nat_le (length (b ∷ bs)) 64) (list_all is_name_byte (b ∷ bs)) first.1 in
    rw (second.0) refl

front_of_letter : (b : ℕ) (rest : List ℕ) → is_name_start b ≡ true → front (b ∷ rest) ≡ name_front (b ∷ rest)
unfolding front
front_of_letter b rest h = rw h refl

front_of_digit : (b : ℕ) (rest : List ℕ) → is_name_start b ≡ false → is_ascii_digit b ≡ true → front (b ∷ rest) ≡ number_front (b ∷ rest)
unfolding front
front_of_digit b rest h k = rw (h, k) refl

name_again : (run tail : List ℕ) (t : Terminal) → is_name run ≡ true → named run ≡ Some t → Stops is_name_byte tail → front (run ++ tail) ≡ Some (t, tail)
unfolding front
name_again [] tail t h e s = cc
name_again (b ∷ bs) tail t h e s =
    let first = and_true (is_name_start b) (nat_le (length (b ∷ bs)) 64 && list_all is_name_byte (b ∷ bs)) h in
    let second = and_true (nat_le (length (b ∷ bs)) 64) (list_all is_name_byte (b ∷ bs)) first.1 in
    front_of_letter b (bs ++ tail) first.0
    ∙ cut_off named (prefix_len is_name_byte (b ∷ (bs ++ tail))) (b ∷ bs) tail t (run_ends is_name_byte (b ∷ bs) tail second.1 s) e

word_found : (w : Word) → word_of (word_bytes w) ≡ Some w
word_found words.Module = refl
word_found words.Input = refl
word_found words.Output = refl
word_found words.Table = refl
word_found words.Scratch = refl
word_found words.Select = refl
word_found words.Project = refl
word_found words.Join = refl
word_found words.NotIn = refl
word_found words.Group = refl
word_found words.AtLeast = refl
word_found words.Count = refl
word_found words.Sum = refl
word_found words.Min = refl
word_found words.Max = refl
word_found words.As = refl
word_found words.And = refl
word_found words.Or = refl
word_found words.Not = refl

word_named : (w : Word) → is_name (word_bytes w) ≡ true
word_named words.Module = refl
word_named words.Input = refl
word_named words.Output = refl
word_named words.Table = refl
word_named words.Scratch = refl
word_named words.Select = refl
word_named words.Project = refl
word_named words.Join = refl
word_named words.NotIn = refl
word_named words.Group = refl
word_named words.AtLeast = refl
word_named words.Count = refl
word_named words.Sum = refl
word_named words.Min = refl
word_named words.Max = refl
word_named words.As = refl
word_named words.And = refl
word_named words.Or = refl
word_named words.Not = refl

pub plain_name_again : (name tail : List ℕ) → is_name name ≡ true → word_of name ≡ None → Stops is_name_byte tail → front (name ++ tail) ≡ Some (terminals.Name name, tail)
plain_name_again name tail h e s = name_again name tail (terminals.Name name) h (named_again name h ∙ ap (λ w. Some (option_map_or terminals.Word w (terminals.Name name))) e) s

pub word_again : (w : Word) (tail : List ℕ) → Stops is_name_byte tail → front (word_bytes w ++ tail) ≡ Some (terminals.Word w, tail)
word_again w tail s = name_again (word_bytes w) tail (terminals.Word w) (word_named w) (named_again (word_bytes w) (word_named w) ∙ ap (λ o. Some (option_map_or terminals.Word o (terminals.Name (word_bytes w)))) (word_found w)) s

-- ---- integers

digits_all : (ds : List ℕ) → all_ascii_digits ds ≡ list_all is_ascii_digit ds
digits_all [] = refl
digits_all (d ∷ ds) = ap (λ b. is_ascii_digit d && b) (digits_all ds)

digit_no_letter : (d : ℕ) → is_ascii_digit d ≡ true → is_name_start d ≡ false
digit_no_letter d h = grind (arith, nat_tests)

digit_no_sign : (d : ℕ) → is_ascii_digit d ≡ true → d == 45 ≡ false
digit_no_sign d h = grind (arith, nat_tests)

digits_again : (ds tail : List ℕ) (t : Terminal) → list_all is_ascii_digit ds ≡ true → 0 < length ds → numbered ds ≡ Some t → Stops is_ascii_digit tail → front (ds ++ tail) ≡ Some (t, tail)
unfolding front
digits_again [] tail t h p e s = absurd (omega arith)
digits_again (d ∷ ds) tail t h p e s =
    let both = and_true (is_ascii_digit d) (list_all is_ascii_digit ds) h in
    front_of_digit d (ds ++ tail) (digit_no_letter d both.0) both.0
    ∙ cut_off numbered (number_size (d ∷ (ds ++ tail))) (d ∷ ds) tail t
    (ap (λ c. cond c (1 + prefix_len is_ascii_digit (ds ++ tail)) (prefix_len is_ascii_digit (d ∷ (ds ++ tail)))) (digit_no_sign d both.0) ∙ run_ends is_ascii_digit (d ∷ ds) tail h s) e

minus_again : (ds tail : List ℕ) (t : Terminal) → list_all is_ascii_digit ds ≡ true → numbered (45 ∷ ds) ≡ Some t → Stops is_ascii_digit tail → front (45 ∷ (ds ++ tail)) ≡ Some (t, tail)
unfolding front
minus_again ds tail t h e s =
    cut_off numbered (number_size (45 ∷ (ds ++ tail))) (45 ∷ ds) tail t (ap (λ n. 1 + n) (run_ends is_ascii_digit ds tail h s) ∙ one-add (length ds)) e

by_value : (z : ℤ) → FitsSigned w64 z → (b : Bool) → is_number (signed_decimal z) ≡ b → numbered (signed_decimal z) ≡ Some (terminals.Integer z)
by_value z fits true e =
    let run = signed_decimal z in let v = signed_digits_value 10 run in
    let read = numeral_of (without_leading_sign run) v e in
    let good : Result ℤ ℕ = Ok v in
    let is : good ≡ Ok z = parse-signed_decimal {E = ℕ} w64 z run good fits fits.sfits refl (read, refl) in
    let same : v ≡ z = cc in
    number_read run read.0 read.1 ∙ ap (λ n. Some (terminals.Integer n)) same
by_value z fits false e =
    let run = signed_decimal z in
    let none : numbered run ≡ None = ap (λ c. cond c (Some (terminals.Integer (signed_digits_value 10 run))) None) e in
    let bad : Result ℤ ℕ = Err 0 in
    let is : bad ≡ Ok z = parse-signed_decimal {E = ℕ} w64 z run bad fits fits.sfits refl (λ p. let some = number_read run p.0 p.1 in cc) in cc

numbered_again : (z : ℤ) → FitsSigned w64 z → numbered (signed_decimal z) ≡ Some (terminals.Integer z)
numbered_again z fits = by_value z fits (is_number (signed_decimal z)) refl

pub decimal_digits : (n : ℕ) → n < 2 ^ 64 → list_all is_ascii_digit (decimal n) ≡ true
decimal_digits n h = sym (digits_all (decimal n)) ∙ model.from (decimal n) (decimal_is_IsNumeral n h).0.1

pub number_again : (z : ℤ) (tail : List ℕ) → FitsSigned w64 z → Stops is_ascii_digit tail → front (signed_decimal z ++ tail) ≡ Some (terminals.Integer z, tail)
number_again (pos n) tail fits s =
    let small : n < 2 ^ 63 = fits.sfits in
    digits_again (decimal n) tail (terminals.Integer (pos n)) (decimal_digits n (omega arith)) (decimal_is_IsNumeral n (omega arith)).0.0 (numbered_again (pos n) fits) s
number_again (negsuc n) tail fits s =
    let small : n < 2 ^ 63 = fits.sfits in
    minus_again (decimal (suc n)) tail (terminals.Integer (negsuc n)) (decimal_digits (suc n) (omega arith)) (numbered_again (negsuc n) fits) s

-- ---- text literals

hex_by_size : (n : ℕ) → n < 16 → (b : Bool) → nat_lt n 10 ≡ b → hex_value (cond b (48 + n) (97 + (n - 10))) ≡ Some n
hex_by_size n h true e =
    let small = ltb-true n 10 e in
    let digit : is_ascii_digit (48 + n) ≡ true = grind (arith, nat_tests) in
    let back : 48 + n - 48 ≡ n = omega arith in
    rw (digit) (ap (λ m. Some m) back)
hex_by_size n h false e =
    let large : 10 ≤ n = grind (arith, nat_tests) in
    let digit : is_ascii_digit (97 + (n - 10)) ≡ false = grind (arith, nat_tests) in
    let letter : nat_le 97 (97 + (n - 10)) && nat_le (97 + (n - 10)) 102 ≡ true = grind (arith, nat_tests) in
    let back : 97 + (n - 10) - 87 ≡ n = omega arith in
    rw (digit, letter) (ap (λ m. Some m) back)

hex_again : (n : ℕ) → n < 16 → hex_value (hex_digit n) ≡ Some n
hex_again n h = hex_by_size n h (nat_lt n 10) refl

pair_again : (b : ℕ) (rest : List ℕ) → is_control b ≡ true → hex_front (hex_digit (b / 16) ∷ hex_digit (b % 16) ∷ rest) ≡ Some (b, rest)
pair_again b rest h =
    let small : b < 128 = grind (arith, nat_tests) in
    let back : 16 * (b / 16) + b % 16 ≡ b = omega arith in
    let high = hex_again (b / 16) (omega arith) in
    let low = hex_again (b % 16) (omega arith) in
    rw (high, low, back, h) refl

byte_by_class : (b : ℕ) (rest : List ℕ) (quote slash control : Bool) → b == 34 ≡ quote → b == 92 ≡ slash → is_control b ≡ control → byte_front (cond quote (92 ∷ 34 ∷ []) (cond slash (92 ∷ 92 ∷ []) (cond control (92 ∷ 120 ∷ hex_digit (b / 16) ∷ hex_digit (b % 16) ∷ []) (b ∷ []))) ++ rest) ≡ Some (b, rest)
byte_by_class b rest true slash control e f g = let is : b ≡ 34 = eqb-true b 34 e in ap (λ n. Some (n, rest)) (sym is)
byte_by_class b rest false true control e f g = let is : b ≡ 92 = eqb-true b 92 f in ap (λ n. Some (n, rest)) (sym is)
byte_by_class b rest false false true e f g = pair_again b rest g
byte_by_class b rest false false false e f g = rw (f, g, e) refl

byte_again : (b : ℕ) (rest : List ℕ) → byte_front (escaped_byte b ++ rest) ≡ Some (b, rest)
byte_again b rest = byte_by_class b rest (b == 34) (b == 92) (is_control b) refl refl refl

closing_by_class : (b : ℕ) (rest : List ℕ) (quote slash control : Bool) → b == 34 ≡ quote → closing_front (cond quote (92 ∷ 34 ∷ []) (cond slash (92 ∷ 92 ∷ []) (cond control (92 ∷ 120 ∷ hex_digit (b / 16) ∷ hex_digit (b % 16) ∷ []) (b ∷ []))) ++ rest) ≡ None
closing_by_class b rest true slash control e = refl
closing_by_class b rest false true control e = refl
closing_by_class b rest false false true e = refl
closing_by_class b rest false false false e = rw e refl

not_closing : (b : ℕ) (rest : List ℕ) → closing_front (escaped_byte b ++ rest) ≡ None
not_closing b rest = closing_by_class b rest (b == 34) (b == 92) (is_control b) refl

bytes_again : (room : ℕ) (t tail : List ℕ) → length t ≤ room → bytes_front room (escaped t ++ 34 ∷ tail) ≡ Some (t, tail)
bytes_again room [] tail h = bytes_closed room (34 ∷ tail) ([], tail) refl
bytes_again zero (b ∷ t) tail h = absurd (omega arith)
bytes_again (suc room) (b ∷ t) tail h =
    let rest = escaped t ++ 34 ∷ tail in
    let step : option_and_then (λ (x : ℕ × List ℕ). with_bytes (x.0 ∷ []) (bytes_front room x.1)) (byte_front (escaped_byte b ++ rest)) ≡ with_bytes (b ∷ []) (bytes_front room rest) =
    ap (option_and_then (λ (x : ℕ × List ℕ). with_bytes (x.0 ∷ []) (bytes_front room x.1))) (byte_again b rest) in
    ap (bytes_front (suc room)) (append_assoc (escaped_byte b) (escaped t) (34 ∷ tail))
    ∙ bytes_more room (escaped_byte b ++ rest) (not_closing b rest) ∙ step
    ∙ ap (with_bytes (b ∷ [])) (bytes_again room t tail (omega arith))

front_of_quote : (rest : List ℕ) → front (34 ∷ rest) ≡ text_front rest
unfolding front
front_of_quote rest = refl

-- a text literal, with its quotes
pub text_again : (t tail : List ℕ) → length t ≤ 64 → IsUtf8 t → front (value_text (values.Text t) ++ tail) ≡ Some (terminals.Text t, tail)
text_again t tail h u =
    ap (λ xs. front (34 ∷ xs)) (append_assoc (escaped t) (34 ∷ []) tail)
    ∙ front_of_quote (escaped t ++ 34 ∷ tail)
    ∙ ap (option_and_then (λ (x : List ℕ × List ℕ). literal x.0 x.1)) (bytes_again 64 t tail h)
    ∙ sym (literal_read t tail t u refl)

pub decimal_some : (n : ℕ) → n < 2 ^ 64 → 0 < length (decimal n)
decimal_some n h = (decimal_is_IsNumeral n h).0.0
