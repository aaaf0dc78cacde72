-- One step of each stock body, over sets of rows.
use Rattle.std.specs.Prelude.{ℕ, pos, ◌+◌, ◌-◌, ◌==◌, Bool, not, ◌||◌, List, [], ◌∷◌, ◌++◌, map, filter, length, take}
use Rattle.std.specs.List.{remove, flat_map, list_any, list_all, enumerate_from, range_with_len, slice_split}
use Rattle.std.specs.Ordering.{is_le, eq_by_cmp}
use Rattle.blz_value.specs.declared.value.Value.{Value}
use Rattle.blz_value.specs.declared.value.Value.TheVariants.{Int, Text}
use Rattle.blz_value.specs.Record.{Row, record_cmp}
use Rattle.blz_value.specs.Sets.{set_of}
use Rattle.blz_value.specs.Test.{cell}
use Rattle.blz_value.specs.Operators.{cells}

-- ---- Split

-- a byte that stands in no word: 0x20, 0x09, 0x0a or 0x0d
abbrev pub is_space : ℕ → Bool
is_space byte = byte == 32 || (byte == 9 || (byte == 10 || byte == 13))

-- the words of a text: the longest runs of other bytes, in their order
abbrev pub words : List ℕ → List (List ℕ)
words text = filter (λ part. not (length part == 0)) (slice_split is_space text)

-- the pairs of a number and a part that a value is split into: each word of a text with its number from 1, an Int with the number 1
abbrev pub parts_of : Value → List (ℕ × Value)
parts_of (Text text) = map (λ word. (word.0, Text word.1)) (enumerate_from 1 (words text))
parts_of (Int n) = (1, Int n) ∷ []

-- a record without the split column, followed by the number and the part, for each part
abbrev pub split_row : ℕ → Row → List Row
split_row split row = map (λ part. remove row split ++ Int (pos part.0) ∷ part.1 ∷ []) (parts_of (cell row split))

-- what Split puts out
abbrev pub split_out : ℕ → (arriving : List Row) → List Row
split_out split arriving = set_of (flat_map (split_row split) arriving)

-- ---- Latest

-- the key columns in their order among the columns
abbrev pub keys_in_order : (count : ℕ) → (keys : List ℕ) → List ℕ
keys_in_order count keys = filter (λ column. list_any (λ key. key == column) keys) (range_with_len 0 count)

-- whether a record has a key
abbrev pub has_key : List ℕ → Row → Row → Bool
has_key keys key row = eq_by_cmp record_cmp (cells keys row) key

-- whether a record is the greatest of some records with its key
abbrev pub is_latest : List ℕ → List Row → Row → Bool
is_latest keys rows row = list_all (λ other. not (has_key keys (cells keys row) other) || is_le (record_cmp other row)) rows

-- what Latest keeps: of each key that occurs in `put` its greatest record there, and of other keys what it kept
abbrev pub latest_kept : List ℕ → (kept put : List Row) → List Row
latest_kept keys kept put = set_of (filter (λ row. not (list_any (has_key keys (cells keys row)) put)) kept ++ filter (is_latest keys put) put)

-- what Latest puts out: the kept record of each key in `ask` that has one
abbrev pub latest_out : List ℕ → (kept ask : List Row) → List Row
latest_out keys kept ask = set_of (filter (λ row. list_any (eq_by_cmp record_cmp (cells keys row)) ask) kept)

-- ---- Number

-- whether a record is kept: it stands among the kept ones with its number, which is the last value
abbrev pub is_numbered : List Row → Row → Bool
is_numbered kept row = list_any (λ held. eq_by_cmp record_cmp (take (length held - 1) held) row) kept

-- the records that aren't kept yet, in record order, each with the next number
abbrev pub numbered : (kept arriving : List Row) → List Row
numbered kept arriving = map (λ row. row.1 ++ Int (pos row.0) ∷ []) (enumerate_from (length kept + 1) (filter (λ row. not (is_numbered kept row)) (set_of arriving)))

-- what Number puts out
abbrev pub number_out : (kept arriving : List Row) → List Row
number_out kept arriving = set_of (numbered kept arriving)

-- what Number keeps
abbrev pub number_kept : (kept arriving : List Row) → List Row
number_kept kept arriving = set_of (kept ++ numbered kept arriving)
