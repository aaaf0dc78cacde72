-- Names are texts of ASCII, and what one more digit makes of a number.
use Rattle.std.proofs.Common.{◌≡◌, ℕ, ◌+◌, ◌-◌, ◌*◌, ◌<◌, ◌≤◌, ◌^◌, Bool, true, false, ◌&&◌, None, [], ◌∷◌, length, take, get_or, refl, ap, ◌∙◌, arith, rules}
use Rattle.std.specs.Char.{is_ascii_digit, digit_value}
use Rattle.std.specs.Cmp.{second_so}
use Rattle.std.specs.List.{list_all}
use Rattle.std.specs.Str.{IsUtf8}
use Rattle.std.specs.Str.Parse.{digits_value}
use Rattle.std.specs.Prelude.{nat_lt, nat_le}
use Rattle.std.proofs.lemmas.Bool.Decides.{nat_tests}
use Rattle.std.proofs.lemmas.Int.Digits.{digits_value_more}
use Rattle.std.proofs.lemmas.List.{length-take-le}
use Rattle.std.proofs.lemmas.List.Folds.{list_all_more}
use Rattle.std.proofs.lemmas.Str.{digit_value_digit}
use Rattle.std.proofs.lemmas.Str.Parse.{IsNumeralModel, numerals_by_value, digits_value_short}
use Rattle.blz_value.specs.Name.{is_name, is_name_byte, starts_name}
use Rattle.blz_value.proofs.Lists.{utf8_of_all, name_byte_small}
use Rattle.sched_text.specs.Fields.{Field, name_of, number_of, is_number, only_if}

-- ---- texts of ASCII

-- ---- names

pub name_bytes : (field : Field) → is_name field ≡ true → list_all is_name_byte field ≡ true
name_bytes field e = second_so (nat_le (length field) 64) (list_all is_name_byte field) (second_so (starts_name field) (nat_le (length field) 64 && list_all is_name_byte field) e)

-- what is no text is no name
pub no_name : (field : Field) → (IsUtf8 field → ⊥) → None ≡ name_of field
no_name field h = go (is_name field) refl
  where
    go : (b : Bool) → is_name field ≡ b → None ≡ only_if b field
    go true e = absurd (h (utf8_of_all is_name_byte name_byte_small field (name_bytes field e)))
    go false e = refl

-- ---- numbers

pub digits_model : IsNumeralModel (λ ds. list_all is_ascii_digit ds ≡ true) (digits_value 10)
digits_model = numerals_by_value (λ ds. list_all is_ascii_digit ds ≡ true) (search rules)

pub number_is : (field : Field) → is_number field ≡ true → (b : Bool) → nat_lt (digits_value 10 field) (2 ^ 32) ≡ b → number_of field ≡ only_if b (digits_value 10 field)
number_is field e b fits = ap (λ (t : Bool). only_if (t && nat_lt (digits_value 10 field) (2 ^ 32)) (digits_value 10 field)) e ∙ ap (λ (t : Bool). only_if t (digits_value 10 field)) fits

module _ (field : Field) (i : ℕ) (before : i < length field) (digits : list_all is_ascii_digit (take i field) ≡ true) where
  -- fewer than ten digits stand for less than 10^9
  pub digits_fit : length field ≤ 10 → digits_value 10 (take i field) < 10 ^ 9
  digits_fit short = digits_value_short digits_model (take i field) 9 digits (omega (arith, length-take-le i field))

  module _ (digit : is_ascii_digit (get_or field i 0) ≡ true) where
    pub one_more_digit : list_all is_ascii_digit (take (i + 1) field) ≡ true
    one_more_digit = list_all_more is_ascii_digit field i 0 before ∙ rw (digits, digit) refl

    pub one_more_value : digits_value 10 (take (i + 1) field) ≡ digits_value 10 (take i field) * 10 + (get_or field i 0 - 48)
    one_more_value =
        let value : digit_value (get_or field i 0) + 48 ≡ get_or field i 0 = digit_value_digit (get_or field i 0) (grind (arith, nat_tests)) in
        digits_value_more 10 field i before ∙ omega arith
