-- Which runs are integers.
use Rattle.std.proofs.Common.{◌≡◌, ℕ, ◌<◌, ◌^◌, Bool, true, false, cond, ◌&&◌, List, [], ◌∷◌, length, Some, None, refl, ap, ◌∙◌, sym, subst, arith, w64}
use Rattle.std.specs.Prelude.{ℤ, pos, negsuc, nat_lt, ◌==◌, drop, FitsSigned}
use Rattle.std.proofs.Math.Facts.{to_z-of_z}
use mir.Val.{to_z, of_z}
use Rattle.std.specs.Str.{all_ascii_digits, IsUtf8}
use Rattle.std.specs.Str.Parse.{AllDigits, IsNumeral, without_leading_sign, signed_digits_value, digits_value}
use Rattle.std.proofs.lemmas.Str.Parse.{IsNumeralModel, numerals_by_value, tells_all_ascii_digits, digit_from_value}
use Rattle.std.proofs.lemmas.Str.{IsUtf8-from_ascii, IsUtf8-nil}
use Rattle.std.proofs.lemmas.Str.Ascii.{IsAscii-from_all}
use Rattle.std.proofs.lemmas.List.Elements.{All-from_recursion}
use Rattle.std.proofs.lemmas.Bool.{ltb-true, lt-ltb, eqb-true}
use Rattle.std.specs.List.{AllByRecursion}
use Rattle.bloom_parse.specs.declared.lexing.terminal.Terminal.TheVariants as terminals
use Rattle.bloom_parse.specs.Tokens.{numbered, is_i64}
use Rattle.bloom_parse.proofs.Texts.RunLemmas.{and_true}

pub model : IsNumeralModel (λ ds. all_ascii_digits ds ≡ true) (digits_value 10)
model = numerals_by_value (λ ds. all_ascii_digits ds ≡ true) tells_all_ascii_digits

pub fits_of_test : (z : ℤ) → is_i64 z ≡ true → FitsSigned w64 z
fits_of_test (pos n) h = record { sfits = ltb-true n (2 ^ 63) h }
fits_of_test (negsuc n) h = record { sfits = ltb-true n (2 ^ 63) h }

pub test_of_fits : (z : ℤ) → FitsSigned w64 z → is_i64 z ≡ true
test_of_fits (pos n) h = lt-ltb n (2 ^ 63) h.sfits
test_of_fits (negsuc n) h = lt-ltb n (2 ^ 63) h.sfits

-- digits with a value that fits are that number
pub number_read : (run : List ℕ) → IsNumeral 10 (without_leading_sign run) → FitsSigned w64 (signed_digits_value 10 run) → numbered run ≡ Some (terminals.Integer (signed_digits_value 10 run))
number_read run digits fits =
    rw (lt-ltb 0 (length (without_leading_sign run)) digits.0, model.from (without_leading_sign run) digits.1, test_of_fits (signed_digits_value 10 run) fits) refl

pub numeral_of : (digits : List ℕ) (z : ℤ) → nat_lt 0 (length digits) && (all_ascii_digits digits && is_i64 z) ≡ true → IsNumeral 10 digits × FitsSigned w64 z
numeral_of digits z h =
    let first = and_true (nat_lt 0 (length digits)) (all_ascii_digits digits && is_i64 z) h in
    let second = and_true (all_ascii_digits digits) (is_i64 z) first.1 in
    ((ltb-true 0 (length digits) first.0, model.to digits second.0), fits_of_test z second.1)

unread : (digits : List ℕ) (z : ℤ) → ¬ (IsNumeral 10 digits × FitsSigned w64 z) → (b : Bool) → nat_lt 0 (length digits) && (all_ascii_digits digits && is_i64 z) ≡ b → b ≡ false
unread digits z h true e = absurd (h (numeral_of digits z e))
unread digits z h false e = refl

-- and other runs are none
pub number_bad : (run : List ℕ) → ¬ (IsNumeral 10 (without_leading_sign run) × FitsSigned w64 (signed_digits_value 10 run)) → numbered run ≡ None
number_bad run h = ap (λ b. cond b (Some (terminals.Integer (signed_digits_value 10 run))) None) (unread (without_leading_sign run) (signed_digits_value 10 run) h _ refl)

-- ---- digits are in UTF-8

small : (ds : List ℕ) → AllDigits 10 ds → AllByRecursion (λ b. b < 128) ds
small [] h = tt
small (d ∷ ds) h = let within = digit_from_value d h.0 in (omega arith, small ds h.1)

ascii : (bs : List ℕ) → AllByRecursion (λ b. b < 128) bs → IsUtf8 bs
ascii bs h = IsUtf8-from_ascii bs (IsAscii-from_all bs (All-from_recursion (λ b. b < 128) bs h))

signed_utf8 : (b : ℕ) (rest : List ℕ) (minus plus : Bool) → b == 45 ≡ minus → b == 43 ≡ plus → AllDigits 10 (cond minus (drop 1 (b ∷ rest)) (drop (cond plus 1 0) (b ∷ rest))) → IsUtf8 (b ∷ rest)
signed_utf8 b rest true plus e f h = let is : b ≡ 45 = eqb-true b 45 e in ascii (b ∷ rest) (omega arith, small rest h)
signed_utf8 b rest false true e f h = let is : b ≡ 43 = eqb-true b 43 f in ascii (b ∷ rest) (omega arith, small rest h)
signed_utf8 b rest false false e f h = ascii (b ∷ rest) (small (b ∷ rest) h)

pub utf8_of_numeral : (run : List ℕ) → IsNumeral 10 (without_leading_sign run) → IsUtf8 run
utf8_of_numeral [] h = IsUtf8-nil
utf8_of_numeral (b ∷ rest) h = signed_utf8 b rest (b == 45) (b == 43) refl refl h.1

-- ---- what `parse` gives

pub number_ok : (text run : List ℕ) (n : ℤ) → text ≡ run → (IsNumeral 10 (without_leading_sign text) × FitsSigned w64 (signed_digits_value 10 text)) × (n ≡ signed_digits_value 10 text) → Some (terminals.Integer (to_z w64 (of_z w64 n))) ≡ numbered run
number_ok text run n same read =
    let fits : FitsSigned w64 n = subst (FitsSigned w64) (sym read.1) read.0.1 in
    ap (λ m. Some (terminals.Integer m)) (to_z-of_z fits ∙ read.1) ∙ sym (number_read text read.0.0 read.0.1) ∙ ap numbered same

pub number_err : (text run : List ℕ) → text ≡ run → ¬ (IsNumeral 10 (without_leading_sign text) × FitsSigned w64 (signed_digits_value 10 text)) → None ≡ numbered run
number_err text run same h = sym (number_bad text h) ∙ ap numbered same

pub number_not : (run : List ℕ) → ¬ IsUtf8 run → None ≡ numbered run
number_not run h = sym (number_bad run (λ x. h (utf8_of_numeral run x.0)))
