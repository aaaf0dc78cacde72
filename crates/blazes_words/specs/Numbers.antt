-- The numbers that words are, each of some decimal digits.
use Rattle.std.specs.Prelude.{ℕ, ℤ, pos, int_lt, ◌^◌, ◌≤◌, ◌&&◌, nat_le, nat_lt, Bool, List, [], ◌∷◌, length, drop, Option, Some, None, if◌then◌else◌, option_and_then}
use Rattle.std.specs.Char.{is_ascii_digit}
use Rattle.std.specs.List.{list_all, zip}
use Rattle.std.specs.Str.Parse.{digits_value}
use Rattle.clap.specs.Words.{Text}

-- x where the test holds
abbrev pub only_if : {X : Type 0} → Bool → X → Option X
only_if test x = if test then Some x else None

infixl 10 ◌>>=◌
-- goes on with what was read
abbrev pub ◌>>=◌ : {A B : Type 0} → Option A → (A → Option B) → Option B
read >>= next = option_and_then next read

-- 1 to so many decimal digits
abbrev pub is_decimal : (most : ℕ) → Text → Bool
is_decimal most word = nat_le 1 (length word) && (nat_le (length word) most && list_all is_ascii_digit word)

-- a number of at most so many digits below 2^64
abbrev pub number_of : (most : ℕ) → Text → Option ℕ
number_of most word = only_if (is_decimal most word && nat_lt (digits_value 10 word) (2 ^ 64)) (digits_value 10 word)

-- ---- options

-- the most digits of an option's number
abbrev pub option_digits : ℕ
option_digits = 20

-- a seed, or the default, 0
abbrev pub seed_of : Option Text → Option ℕ
seed_of None = Some 0
seed_of (Some word) = number_of option_digits word

-- the greatest count of batches
abbrev pub greatest_count : ℕ
greatest_count = 3276

-- a count of batches
abbrev pub count_in : Text → Option ℕ
count_in word = do
  number ← number_of option_digits word
  only_if (nat_le 1 number && nat_le number greatest_count) number

-- a count of batches, or the default, 64
abbrev pub count_of : Option Text → Option ℕ
count_of None = Some 64
count_of (Some word) = count_in word

-- from 1 to the greatest count
abbrev pub IsCount : ℕ → Type 0
IsCount count = (1 ≤ count) × (count ≤ greatest_count)

-- ---- replicas and indexes

-- a number of at most 10 digits below 2^32
abbrev pub place_of : Text → Option ℕ
place_of word = do
  number ← number_of 10 word
  only_if (nat_lt number (2 ^ 32)) number

-- ---- bounds

-- a number of at most 19 digits that is an Int
abbrev pub bound_of : Text → Option ℤ
bound_of word = do
  number ← number_of 19 word
  only_if (nat_lt number (2 ^ 63)) (pos number)

-- each word as a bound
abbrev pub bounds_in : List Text → Option (List ℤ)
bounds_in [] = Some []
bounds_in (word ∷ words) = do
  bound ← bound_of word
  bounds ← bounds_in words
  Some (bound ∷ bounds)

-- each bound is below the next
abbrev pub is_increasing : List ℤ → Bool
is_increasing bounds = list_all (λ pair. int_lt pair.0 pair.1) (zip bounds (drop 1 bounds))

-- 1 to 7 words as bounds that increase
abbrev pub bounds_of : List Text → Option (List ℤ)
bounds_of words = do
  bounds ← bounds_in words
  only_if (nat_le 1 (length words) && (nat_le (length words) 7 && is_increasing bounds)) bounds

-- 1 to 7
abbrev pub AreFew : List ℤ → Type 0
AreFew bounds = (1 ≤ length bounds) × (length bounds ≤ 7)
