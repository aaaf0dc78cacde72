-- Sets of records: which lists are such, and the test of membership.
use Rattle.std.proofs.Common.{◌≡◌, ℕ, suc, ◌+◌, ◌<◌, ◌≤◌, Bool, IsTrue, ◌↔◌, true, false, cond, List, [], ◌∷◌, ◌++◌, length, get_or, take, filter, Ok, refl, ap, ◌∙◌, sym, subst, arith}
use Rattle.std.specs.declared.cmp.Ordering.{Ordering}
use Rattle.std.specs.declared.cmp.Ordering.TheVariants.{Less, Equal, Greater}
use Rattle.std.specs.List.Sorted.{IsStrictlySortedBy}
use Rattle.std.specs.Ordering.{is_eq, eq_by_cmp}
use Rattle.std.specs.Cmp.{tied_itself}
use Rattle.std.proofs.lemmas.List.{take_more}
use Rattle.std.proofs.lemmas.List.Elements.{filter-append}
use Rattle.std.proofs.lemmas.List.Kept.{IsStrictlySortedBy-filter}
use Rattle.blz_value.specs.Members.{Has}
use Rattle.blz_value.specs.Record.{Row, record_cmp}
use Rattle.blz_value.specs.RecordOrder.{record_cmp_total, record_cmp_exact}
use Rattle.blz_value.specs.Sets.{set_of, IsRowSet}
use Rattle.blz_value.proofs.Membership.{any_from_Has, Has-from_any}
use Rattle.blz_value.proofs.SetLaws.{sorted_set_of}
use Rattle.blz_value.proofs.RowSets.{length-set_of-le, set_of-sorted}
use Rattle.blz_set.specs.RecordSet.{IsRecordSet, row_limit}
use Rattle.blz_set.specs.Missing.{has_row}
use Rattle.blz_set.specs.Answers.{Gives}

pub none_is_set : IsRecordSet []
unfolding IsStrictlySortedBy
none_is_set = record { sorted = tt; small = omega arith }

-- a list that is the set of some rows and not too long
pub set_is_set : (rows made : List Row) → made ≡ set_of rows → length made ≤ row_limit → IsRecordSet made
set_is_set rows made e few = record { sorted = subst IsRowSet (sym e) (sorted_set_of rows); small = few }

-- such a list is the answer
pub gives_set : (rows made : List Row) → made ≡ set_of rows → length made ≤ row_limit → Gives (set_of rows) (Ok made)
gives_set rows made e few = (e, subst (λ (l : List Row). length l ≤ row_limit) e few)

-- ---- whether a row is there

eq_is : (x y : Row) (o : Ordering) → record_cmp x y ≡ o → is_eq o ≡ true → y ≡ x
eq_is x y Less e h = cc
eq_is x y Equal e h = sym (record_cmp_exact x y e)
eq_is x y Greater e h = cc

pub Has-from_has_row : (rows : List Row) (x : Row) → has_row rows x ≡ true → Has x rows
Has-from_has_row rows x e = let m = Has-from_any (eq_by_cmp record_cmp x) rows e in subst (λ z. Has z rows) (eq_is x m.0 (record_cmp x m.0) refl m.2) m.1

pub has_row-from_Has : (rows : List Row) (x : Row) → Has x rows → has_row rows x ≡ true
has_row-from_Has rows x h = any_from_Has (eq_by_cmp record_cmp x) x rows h (ap is_eq (tied_itself record_cmp_total x))

-- a test that computes `has_row`
pub has_row_means : (rows : List Row) (x : Row) (b : Bool) → b ≡ has_row rows x → IsTrue b ↔ Has x rows
has_row_means rows x b e = (λ h. Has-from_has_row rows x (sym e ∙ h), λ h. e ∙ has_row-from_Has rows x h)

pub has_row-from_lacks : (rows : List Row) (x : Row) → ¬ Has x rows → has_row rows x ≡ false
has_row-from_lacks rows x lacks = go (has_row rows x) refl
  where
    go : (b : Bool) → has_row rows x ≡ b → has_row rows x ≡ false
    go true e = absurd (lacks (Has-from_has_row rows x e))
    go false e = e

-- one row more where there is room
pub inserted_is_set : (rows : List Row) (row : Row) → length rows < row_limit → IsRecordSet (set_of (row ∷ rows))
inserted_is_set rows row few = record { sorted = sorted_set_of (row ∷ rows); small = omega (arith, length-set_of-le (row ∷ rows)) }

-- ---- the rows that pass a test

length-filter-cons : {X : Type 0} (b : Bool) (x : X) (ys : List X) → length (cond b (x ∷ ys) ys) ≤ suc (length ys)
length-filter-cons true x ys = omega arith
length-filter-cons false x ys = omega arith

pub length-filter-le : {X : Type 0} (p : X → Bool) (xs : List X) → length (filter p xs) ≤ length xs
length-filter-le p [] = omega arith
length-filter-le p (x ∷ xs) = omega (arith, length-filter-cons (p x) x (filter p xs), length-filter-le p xs)

pub filter_is_set : (p : Row → Bool) (rows : List Row) → IsRecordSet rows → IsRecordSet (filter p rows)
filter_is_set p rows h = record { sorted = IsStrictlySortedBy-filter record_cmp p rows h.sorted; small = omega (arith, length-filter-le p rows, h.small) }

-- a list that is such a filter is the answer for its set
pub gives_filter : (p : Row → Bool) (rows made : List Row) → IsRecordSet rows → made ≡ filter p rows → Gives (set_of (filter p rows)) (Ok made)
gives_filter p rows made h e =
    let own = set_of-sorted (filter p rows) (filter_is_set p rows h).sorted in
    (e ∙ sym own, subst (λ (l : List Row). length l ≤ row_limit) (sym own) (filter_is_set p rows h).small)

-- a step over the rows that pass
filter_one : (p : Row → Bool) (row : Row) (b : Bool) → p row ≡ b → filter p (row ∷ []) ≡ cond b (row ∷ []) []
filter_one p row true e = rw e refl
filter_one p row false e = rw e refl

pub filter-push : (p : Row → Bool) (rows : List Row) (row : Row) (b : Bool) → p row ≡ b → filter p (rows ++ row ∷ []) ≡ filter p rows ++ cond b (row ∷ []) []
filter-push p rows row b e = filter-append p rows (row ∷ []) ∙ ap (λ l. filter p rows ++ l) (filter_one p row b e)

pub filter_step : (p : Row → Bool) (rows : List Row) (i : ℕ) (row : Row) → i < length rows → row ≡ get_or rows i row → (b : Bool) → p row ≡ b → filter p (take (i + 1) rows) ≡ filter p (take i rows) ++ cond b (row ∷ []) []
filter_step p rows i row lt is b e = ap (filter p) (take_more rows i row lt ∙ ap (λ r. take i rows ++ r ∷ []) (sym is)) ∙ filter-push p (take i rows) row b e
