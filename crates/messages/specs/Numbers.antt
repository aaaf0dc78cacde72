-- A set of numbers is words of 64 bits, one bit for each number.
use Rattle.std.specs.Prelude.{◌≡◌, ◌<◌, ◌≤◌, ◌/◌, ◌%◌, ◌==◌, ◌||◌, ℕ, Bool, true, List, length, slice_index}
use Rattle.std.specs.List.{count_by, range_with_len}
use Rattle.blz_value.specs.Bits.{bit_of, meets}

-- the bit of a number is set
abbrev pub has_number : (words : List ℕ) → (number : ℕ) → Bool
has_number words number = meets (bit_of (number % 64)) (slice_index words (number / 64))

-- one number more is in the set
abbrev pub HasAlso : (number : ℕ) → (old new : List ℕ) → Type 0
HasAlso number old new = (k : ℕ) → has_number new k ≡ (k == number || has_number old k)

-- so many numbers pass a test, counted below any number that is above all of them
abbrev pub IsCountOf : (test : ℕ → Bool) → (count : ℕ) → Type 0
IsCountOf test count = (n : ℕ) → ((k : ℕ) → test k ≡ true → k < n) → count_by test (range_with_len 0 n) ≡ count

-- how many numbers of 32 bits there are
abbrev pub number_limit : ℕ
number_limit = 4294967296

-- the words in which all of them have their bits
abbrev pub word_limit : ℕ
word_limit = 67108864

-- so many bits are set, in no more words than that
pub record AreCounted (words : List ℕ) (count : ℕ) : Type 0 where
  pub few : length words ≤ word_limit
  pub counted : IsCountOf (has_number words) count
