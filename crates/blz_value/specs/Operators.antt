-- The rows that each operator gives, as a list over lists of rows; the operator's set is `set_of` of that list.
use Rattle.std.specs.Prelude.{ℕ, ◌==◌, Bool, not, List, ◌++◌, map, filter}
use Rattle.std.specs.List.{list_all, list_any, flat_map, enumerate_from}
use Rattle.std.specs.Ordering.{eq_by_cmp}
use Rattle.blz_value.specs.Record.{Row}
use Rattle.blz_value.specs.Value.{value_cmp}
use Rattle.blz_value.specs.Test.{cell}

-- the values of a row in some columns
abbrev pub cells : List ℕ → Row → Row
cells columns row = map (λ column. cell row column) columns

-- select: the rows for which the predicate holds
abbrev pub select_rows : (Row → Bool) → List Row → List Row
select_rows is_chosen rows = filter is_chosen rows

-- project: these columns of each row
abbrev pub project_rows : List ℕ → List Row → List Row
project_rows columns rows = map (cells columns) rows

-- pairs that equate a left column with a right column
abbrev pub Pairs : Type 0
Pairs = List (ℕ × ℕ)

-- a left and a right row agree on all pairs
abbrev pub agree : Pairs → Row → Row → Bool
agree pairs left right = list_all (λ pair. eq_by_cmp value_cmp (cell left pair.0) (cell right pair.1)) pairs

-- a right column stands in a pair
abbrev pub is_paired : Pairs → ℕ → Bool
is_paired pairs column = list_any (λ pair. pair.1 == column) pairs

-- what a right row, or its columns, has where the column stands in no pair
abbrev pub unpaired : {X : Type 0} → Pairs → List X → List X
unpaired pairs right = map (λ place. place.1) (filter (λ place. not (is_paired pairs place.0)) (enumerate_from 0 right))

-- a left row, followed by the right row's values whose columns stand in no pair
abbrev pub joined : Pairs → Row → Row → Row
joined pairs left right = left ++ unpaired pairs right

-- join: the joined row of each left and right row that agree on all pairs
abbrev pub join_rows : Pairs → List Row → List Row → List Row
join_rows pairs lefts rights = flat_map (λ left. map (joined pairs left) (filter (agree pairs left) rights)) lefts

-- notin: the rows on the left that no row on the right matches in every pair
abbrev pub notin_rows : Pairs → List Row → List Row → List Row
notin_rows pairs lefts rights = filter (λ left. not (list_any (agree pairs left) rights)) lefts
