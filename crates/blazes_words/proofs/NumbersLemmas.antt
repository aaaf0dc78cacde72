-- What parsing gives of decimal digits is their number, and a word after some bounds is the next bound.
use Rattle.std.proofs.Common.{◌≡◌, ℕ, ℤ, ◌<◌, ◌≤◌, ◌^◌, ◌++◌, Bool, true, false, ◌&&◌, Option, Some, None, Result, Ok, Err, List, length, option_map, refl, ap, ◌∙◌, sym, arith, rules}
use Rattle.std.specs.Char.{is_ascii_digit}
use Rattle.std.specs.Cmp.{first_so, second_so}
use Rattle.std.specs.List.{list_all}
use Rattle.std.specs.Prelude.{nat_lt, nat_le}
use Rattle.std.specs.Result.{OkIff, result_ok}
use Rattle.std.specs.Str.Parse.{ParsesUnsigned, digits_value}
use Rattle.std.proofs.lemmas.Bool.{ltb-true, lt-ltb, leb-true}
use Rattle.std.proofs.lemmas.Str.Parse.{IsNumeralModel, numerals_by_value, parse_digits}
use Rattle.clap.specs.Words.{Text}
use Rattle.blazes_words.specs.Numbers.{is_decimal, number_of, only_if}

-- ---- one number

digits_model : IsNumeralModel (λ ds. list_all is_ascii_digit ds ≡ true) (digits_value 10)
digits_model = numerals_by_value (λ ds. list_all is_ascii_digit ds ≡ true) (search rules)

digits_of : (most : ℕ) (word : Text) → is_decimal most word ≡ true → (1 ≤ length word) × (list_all is_ascii_digit word ≡ true)
digits_of most word e =
    let rest = second_so (nat_le 1 (length word)) (nat_le (length word) most && list_all is_ascii_digit word) e in
    (leb-true 1 (length word) (first_so (nat_le 1 (length word)) (nat_le (length word) most && list_all is_ascii_digit word) e), second_so (nat_le (length word) most) (list_all is_ascii_digit word) rest)

number_is : (most : ℕ) (word : Text) → is_decimal most word ≡ true → (b : Bool) → nat_lt (digits_value 10 word) (2 ^ 64) ≡ b → number_of most word ≡ only_if b (digits_value 10 word)
number_is most word e b fits = ap (λ (t : Bool). only_if (t && nat_lt (digits_value 10 word) (2 ^ 64)) (digits_value 10 word)) e ∙ ap (λ (t : Bool). only_if t (digits_value 10 word)) fits

too_large : (most : ℕ) (word : Text) → is_decimal most word ≡ true → ((0 < length word) × (digits_value 10 word < 2 ^ 64) → ⊥) → (b : Bool) → nat_lt (digits_value 10 word) (2 ^ 64) ≡ b → None ≡ number_of most word
too_large most word e h true fits = absurd (h (omega (arith, (digits_of most word e).0), ltb-true (digits_value 10 word) (2 ^ 64) fits))
too_large most word e h false fits = sym (number_is most word e false fits)

-- what parsing gives of a word of digits is its number
pub number_parsed : {E : Type 0} (most : ℕ) (word : Text) (r : Result ℕ E) → ParsesUnsigned 64 10 word r → is_decimal most word ≡ true → result_ok r ≡ number_of most word
number_parsed {E} most word r parsed e = go r (parse_digits digits_model 64 word r parsed (digits_of most word e).1)
  where
    go : (r : Result ℕ E) → OkIff r ((0 < length word) × (digits_value 10 word < 2 ^ 64)) (digits_value 10 word) → result_ok r ≡ number_of most word
    go (Ok n) (h, is) = ap Some is ∙ sym (number_is most word e true (lt-ltb (digits_value 10 word) (2 ^ 64) h.1))
    go (Err fault) h = too_large most word e h (nat_lt (digits_value 10 word) (2 ^ 64)) refl

-- ---- several bounds

-- bounds before those that words are
abbrev pub before : List ℤ → Option (List ℤ) → Option (List ℤ)
before bounds read = option_map (λ others. bounds ++ others) read
