-- A worked row for each operator: what it makes of the left rows (1, "x"), (2, "y"), (2, "z") and the right row (1).
use Rattle.std.proofs.Common.{◌≡◌, refl, ℕ, pos, Bool, List, [], ◌∷◌, codes}
use Rattle.blz_value.specs.declared.value.Value.TheVariants.{Int, Text}
use Rattle.blz_value.specs.declared.aggregate.Agg.{Agg}
use Rattle.blz_value.specs.declared.aggregate.Agg.TheVariants.{Count, Sum, Min, Max}
use Rattle.std.specs.Ordering.{is_gt}
use Rattle.blz_value.specs.Value.{value_cmp}
use Rattle.blz_value.specs.Record.{Row}
use Rattle.blz_value.specs.Test.{cell}
use Rattle.blz_value.specs.Sets.{set_of}
use Rattle.blz_value.specs.Operators.{Pairs, select_rows, project_rows, join_rows, notin_rows}
use Rattle.blz_value.specs.Groups.{group_rows, at_least_rows}

abbrev x : Row
x = Int (pos 1) ∷ Text (codes "x") ∷ []

abbrev y : Row
y = Int (pos 2) ∷ Text (codes "y") ∷ []

abbrev z : Row
z = Int (pos 2) ∷ Text (codes "z") ∷ []

abbrev lefts : List Row
lefts = x ∷ y ∷ z ∷ []

abbrev one : Row
one = Int (pos 1) ∷ []

abbrev two : Row
two = Int (pos 2) ∷ []

abbrev rights : List Row
rights = one ∷ []

-- select a > 1
pub select_row : set_of (select_rows (λ row. is_gt (value_cmp (cell row 0) (Int (pos 1)))) lefts) ≡ y ∷ z ∷ []
select_row = refl

-- project a
pub project_row : set_of (project_rows (0 ∷ []) lefts) ≡ one ∷ two ∷ []
project_row = refl

-- join on a
pub join_row : set_of (join_rows ((0, 0) ∷ []) lefts rights) ≡ x ∷ []
join_row = refl

-- antijoin on a
pub notin_row : set_of (notin_rows ((0, 0) ∷ []) lefts rights) ≡ y ∷ z ∷ []
notin_row = refl

-- count by a
pub count_row : set_of (group_rows (0 ∷ []) Count lefts) ≡ (Int (pos 1) ∷ Int (pos 1) ∷ []) ∷ (Int (pos 2) ∷ Int (pos 2) ∷ []) ∷ []
count_row = refl

-- min of b by a
pub min_row : set_of (group_rows (0 ∷ []) (Min 1) lefts) ≡ x ∷ y ∷ []
min_row = refl

-- max of b by a
pub max_row : set_of (group_rows (0 ∷ []) (Max 1) lefts) ≡ x ∷ z ∷ []
max_row = refl

-- sum of a by nothing
pub sum_row : set_of (group_rows [] (Sum 0) lefts) ≡ (Int (pos 5) ∷ []) ∷ []
sum_row = refl

-- at least 2 by a
pub at_least_row : set_of (at_least_rows (0 ∷ []) 2 lefts) ≡ two ∷ []
at_least_row = refl

-- a sum past the greatest i64 is the greatest i64
pub greatest_sum_row : set_of (group_rows [] (Sum 0) (one ∷ (Int (pos 9223372036854775807) ∷ []) ∷ [])) ≡ (Int (pos 9223372036854775807) ∷ []) ∷ []
greatest_sum_row = refl

-- each of the empty set is empty
pub select_none : (is_chosen : Row → Bool) → set_of (select_rows is_chosen []) ≡ []
select_none is_chosen = refl

pub project_none : (columns : List ℕ) → set_of (project_rows columns []) ≡ []
project_none columns = refl

pub join_none : (pairs : Pairs) (rights : List Row) → set_of (join_rows pairs [] rights) ≡ []
join_none pairs rights = refl

pub notin_none : (pairs : Pairs) (rights : List Row) → set_of (notin_rows pairs [] rights) ≡ []
notin_none pairs rights = refl

pub group_none : (keys : List ℕ) (agg : Agg) → set_of (group_rows keys agg []) ≡ []
group_none keys agg = refl

pub at_least_none : (keys : List ℕ) (bound : ℕ) → set_of (at_least_rows keys bound []) ≡ []
at_least_none keys bound = refl
