-- The least and the greatest of some values, and what a further row adds to a sum.
use Rattle.std.proofs.Common.{◌≡◌, ℕ, suc, ◌<◌, true, false, List, [], ◌∷◌, length, get_or, reverse, refl, ap, ◌∙◌, sym, inl, inr, arith}
use Rattle.std.proofs.lemmas.Int.{ints}
use Rattle.std.proofs.lemmas.List.{get_or-reverse}
use Rattle.std.specs.Prelude.{pos, ◌+ℤ◌}
use Rattle.std.specs.BTreeSet.{insert_key}
use Rattle.std.specs.List.Sorted.{IsStrictlySortedBy}
use Rattle.std.specs.Ordering.{is_lt, is_gt, ordering_reverse}
use Rattle.std.specs.declared.cmp.Ordering.TheVariants.{Less}
use Rattle.blz_value.specs.declared.value.Value.{Value}
use Rattle.blz_value.specs.declared.value.Value.TheVariants.{Int}
use Rattle.blz_value.specs.Groups.{column_values, exact_sum, summand, first_value, values_in_order, least, greatest}
use Rattle.blz_value.specs.Members.{Has}
use Rattle.blz_value.specs.Record.{Row, record_cmp}
use Rattle.blz_value.specs.RecordOrder.{record_cmp_exact}
use Rattle.blz_value.specs.Sets.{set_of, IsRowSet}
use Rattle.blz_value.specs.Test.{cell}
use Rattle.blz_value.specs.Value.{value_cmp}
use Rattle.blz_value.specs.ValueOrder.{value_cmp_total, value_cmp_exact}
use Rattle.blz_value.proofs.RowSets.{set_of-sorted, length-insert_key-new}
use Rattle.blz_value.proofs.SetLemmas.{all_has, at_order, Has-set_by, Has-from_set_by, sorted_set_by}

-- ---- the last of values in order

last_of : Value → List Value → Value
last_of w [] = w
last_of w (x ∷ xs) = last_of x xs

last_in : List Value → Value
last_in [] = Int (pos 0)
last_in (w ∷ ws) = last_of w ws

ends : (w : Value) (ws : List Value) → get_or (w ∷ ws) (length ws) (Int (pos 0)) ≡ last_of w ws
unfolding last_of
ends w [] = refl
ends w (x ∷ xs) = ends x xs

greatest_last : (ws : List Value) → 0 < length ws → first_value (reverse ws) ≡ last_in ws
unfolding last_in
greatest_last [] some = absurd (omega arith)
greatest_last (w ∷ ws) some = get_or-reverse (w ∷ ws) 0 (Int (pos 0)) some ∙ ap (λ n. get_or (w ∷ ws) n (Int (pos 0))) (omega arith) ∙ ends w ws

-- ---- a value that none is below, and one that none is above

first_is : (v : Value) (ws : List Value) → Has v ws → IsStrictlySortedBy value_cmp ws → ((q : Value) → Has q ws → is_gt (value_cmp v q) ≡ false) → v ≡ first_value ws
unfolding IsStrictlySortedBy
first_is v [] h sorted bound = absurd h
first_is v (w ∷ ws) (inl e) sorted bound = sym e
first_is v (w ∷ ws) (inr m) sorted bound =
    let below : value_cmp w v ≡ Less = all_has (λ (y : Value). value_cmp w y ≡ Less) v ws sorted.0 m in
    let over : is_gt (value_cmp v w) ≡ true = ap is_gt (value_cmp_total.antisymm v w ∙ ap ordering_reverse below) in
    let not_over : is_gt (value_cmp v w) ≡ false = bound w (inl refl) in
    cc

pub least_is : (values : List Value) (v : Value) → Has v values → ((q : Value) → Has q values → is_gt (value_cmp v q) ≡ false) → v ≡ least values
least_is values v h bound =
    first_is v (values_in_order values) (Has-set_by value_cmp value_cmp_exact v values h) (sorted_set_by value_cmp value_cmp_total values)
    (λ q m. bound q (Has-from_set_by value_cmp q values m))

last_is : (v w : Value) (ws : List Value) → Has v (w ∷ ws) → IsStrictlySortedBy value_cmp (w ∷ ws) → ((q : Value) → Has q (w ∷ ws) → is_lt (value_cmp v q) ≡ false) → v ≡ last_of w ws
unfolding IsStrictlySortedBy last_of
last_is v w [] (inl e) sorted bound = sym e
last_is v w [] (inr n) sorted bound = absurd n
last_is v w (x ∷ xs) (inl e) sorted bound =
    let below : is_lt (value_cmp v x) ≡ true = ap (λ (z : Value). is_lt (value_cmp z x)) (sym e) ∙ ap is_lt sorted.0.0 in
    let not_below : is_lt (value_cmp v x) ≡ false = bound x (inr (inl refl)) in
    cc
last_is v w (x ∷ xs) (inr m) sorted bound = last_is v x xs m sorted.1 (λ q k. bound q (inr k))

last_is_in : (v : Value) (ws : List Value) → Has v ws → IsStrictlySortedBy value_cmp ws → ((q : Value) → Has q ws → is_lt (value_cmp v q) ≡ false) → v ≡ first_value (reverse ws)
unfolding last_in
last_is_in v [] h sorted bound = absurd h
last_is_in v (w ∷ ws) h sorted bound = last_is v w ws h sorted bound ∙ sym (greatest_last (w ∷ ws) (omega arith))

pub greatest_is : (values : List Value) (v : Value) → Has v values → ((q : Value) → Has q values → is_lt (value_cmp v q) ≡ false) → v ≡ greatest values
greatest_is values v h bound =
    last_is_in v (values_in_order values) (Has-set_by value_cmp value_cmp_exact v values h) (sorted_set_by value_cmp value_cmp_total values)
    (λ q m. bound q (Has-from_set_by value_cmp q values m))

-- ---- one row more

pub length_more : (row : Row) (run : List Row) → IsRowSet run → ¬ Has row run → length (set_of (row ∷ run)) ≡ suc (length run)
length_more row run sorted lacks =
    ap (λ (l : List Row). length (insert_key record_cmp l row)) (set_of-sorted run sorted) ∙ length-insert_key-new record_cmp record_cmp_exact row run lacks ∙ omega arith

pub sum_insert : (column : ℕ) (row : Row) (run : List Row) → ¬ Has row run → exact_sum (column_values column (insert_key record_cmp run row)) ≡ summand (cell row column) +ℤ exact_sum (column_values column run)
sum_insert column row [] lacks = refl
sum_insert column row (x ∷ run) lacks =
    let total = summand (cell row column) +ℤ exact_sum (column_values column (x ∷ run)) in
    at_order record_cmp (λ (l : List Row). exact_sum (column_values column l) ≡ total) (record_cmp row x) (row ∷ x ∷ run) (x ∷ run) (x ∷ insert_key record_cmp run row)
    (λ _. refl) (λ e. absurd (lacks (inl (sym (record_cmp_exact row x e)))))
    (λ _. let more = sum_insert column row run (λ h. lacks (inr h)) in omega (arith, ints, more))
