-- The distinct records of a list: how many they are, and that none stands twice.
use Rattle.std.proofs.Common.{◌≤◌, ◌≢◌, zero, suc, Bool, true, false, not, cond, List, [], ◌∷◌, filter, length, get_or, arith, ◌≡◌, ◌||◌, ◌++◌, if◌then◌else◌, refl, ap, ◌∙◌, sym, subst, inl, inr}
use Rattle.blz_value.specs.Record.{Row, record_cmp}
use Rattle.blz_value.specs.RecordOrder.{record_cmp_total}
use Rattle.topo_forms.specs.Messages.{distinct_rows, is_same_row}
use Rattle.std.specs.Cmp.{Equal-is, tied_itself}
use Rattle.std.specs.List.{AllPairs, list_any}
use Rattle.std.proofs.lemmas.Bool.{true≢false}
use Rattle.std.proofs.lemmas.List.Elements.{filter-append}
use Rattle.std.proofs.lemmas.List.Kept.{AllPairs-filter}
use Rattle.blz_value.specs.Members.{Has}
use Rattle.blz_value.proofs.Membership.{Has-from_filter, Has-get_or}

filtered : {X : Type 0} (p : X → Bool) (xs : List X) → length (filter p xs) ≤ length xs
filtered p [] = omega arith
filtered p (x ∷ xs) = elim (p x) as (λ b. length (cond b (x ∷ filter p xs) (filter p xs)) ≤ suc (length xs)) [
  | true ↦ omega (arith, filtered p xs)
  | false ↦ omega (arith, filtered p xs)
]

pub no_more_rows : (rows : List Row) → length (distinct_rows rows) ≤ length rows
no_more_rows [] = omega arith
no_more_rows (x ∷ xs) = omega (arith, filtered (λ y. not (is_same_row x y)) (distinct_rows xs), no_more_rows xs)

-- a record stands in a list
abbrev pub is_among : List Row → Row → Bool
is_among rows row = list_any (λ y. is_same_row y row) rows

-- the record, where it is new
abbrev pub if_new : List Row → Row → List Row
if_new rows row = if is_among rows row then [] else row ∷ []

new_or_not : (y x : Row) (b : Bool) → filter (λ z. not (is_same_row y z)) (if b then [] else x ∷ []) ≡ (if is_same_row y x || b then [] else x ∷ [])
new_or_not y x true = elim (is_same_row y x) as (λ c. [] ≡ (if c || true then [] else x ∷ [])) [ true ↦ refl | false ↦ refl ]
new_or_not y x false = elim (is_same_row y x) as (λ c. (if not c then x ∷ [] else []) ≡ (if c || false then [] else x ∷ [])) [ true ↦ refl | false ↦ refl ]

pub distinct_rows-more : (xs : List Row) (x : Row) → distinct_rows (xs ++ x ∷ []) ≡ distinct_rows xs ++ if_new xs x
distinct_rows-more [] x = refl
distinct_rows-more (y ∷ ys) x =
    ap (λ rest. y ∷ filter (λ z. not (is_same_row y z)) rest) (distinct_rows-more ys x)
    ∙ ap (λ rest. y ∷ rest) (filter-append (λ z. not (is_same_row y z)) (distinct_rows ys) (if_new ys x)
    ∙ ap (λ rest. filter (λ z. not (is_same_row y z)) (distinct_rows ys) ++ rest) (new_or_not y x (is_among ys x)))

-- each distinct record is one of the list
pub Has-from_distinct : (q : Row) (xs : List Row) → Has q (distinct_rows xs) → Has q xs
Has-from_distinct q [] h = h
Has-from_distinct q (x ∷ xs) (inl e) = inl e
Has-from_distinct q (x ∷ xs) (inr h) = inr (Has-from_distinct q xs (Has-from_filter (λ y. not (is_same_row x y)) q (distinct_rows xs) h).0)

row_itself : (row : Row) → is_same_row row row ≡ true
row_itself row = (Equal-is (record_cmp row row)).1 (tied_itself record_cmp_total row)

-- distinct records are pairwise different
pub rows_apart : (rows : List Row) → AllPairs (λ a b. a ≢ b) (distinct_rows rows)
rows_apart [] i j d lt le = absurd (omega (arith, le))
rows_apart (x ∷ xs) i zero d lt le = absurd (omega (arith, lt))
rows_apart (x ∷ xs) zero (suc j) d lt le = λ same.
    let rest : List Row = filter (λ y. not (is_same_row x y)) (distinct_rows xs) in
    let other = (Has-from_filter (λ y. not (is_same_row x y)) (get_or rest j d) (distinct_rows xs) (Has-get_or rest j d (omega (arith, le)))).1 in
    true≢false (sym (subst (λ (y : Row). not (is_same_row x y) ≡ true) (sym same) other) ∙ ap not (row_itself x))
rows_apart (x ∷ xs) (suc i) (suc j) d lt le =
    AllPairs-filter (λ a b. a ≢ b) (λ y. not (is_same_row x y)) (distinct_rows xs) (rows_apart xs) i j d (omega (arith, lt)) (omega (arith, le))
