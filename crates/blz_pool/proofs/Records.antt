-- Records and their numbers in a pool.
use Rattle.std.proofs.Common.{◌≡◌, ◌≢◌, ◌<◌, ◌+◌, ℕ, Bool, true, false, Option, None, Some, List, [], ◌∷◌, ◌++◌, length, is_some, get_or, slice_get, take, refl, ap, ◌∙◌, sym, subst, arith, length-append, inl, inr}
use Rattle.std.specs.List.{position, position_from, position_or_len, list_any}
use Rattle.std.specs.Ordering.{is_eq, eq_by_cmp, ordering_reverse}
use Rattle.std.specs.declared.cmp.Ordering.{Ordering}
use Rattle.std.specs.declared.cmp.Ordering.TheVariants.{Less, Equal, Greater}
use Rattle.std.specs.Prelude.{if◌then◌else◌}
use Rattle.std.proofs.lemmas.Bool.{cases_Bool}
use Rattle.std.proofs.lemmas.Iterator.Adapters.{position_from-zero}
use Rattle.indexmap.specs.IndexSet.{insert_key}
use Rattle.std.proofs.lemmas.List.{get_or-take, length-take}
use Rattle.std.proofs.lemmas.List.Quantifiers.{all_pairs_push}
use Rattle.std.proofs.lemmas.Map.Views.{tells_apart}
use Rattle.std.proofs.lemmas.Option.{slice_get_within, get_or_from_slice_get}
use Rattle.blz_value.specs.Members.{Has}
use Rattle.blz_value.specs.Record.{Row, record_cmp}
use Rattle.blz_value.specs.RecordOrder.{record_cmp_total, record_cmp_exact}
use Rattle.blz_value.proofs.Membership.{Has-get_or}
use Rattle.blz_value.proofs.Lists.{same-self}
use Rattle.blz_pool.specs.Pool.{IsPool, record_limit, number_of, with_record}
use Rattle.blz_pool.proofs.Positions.{position_from-found, position_from-none, position_from-last}

-- equal exactly where the order doesn't tell them apart

Has-from_get : (records : List Row) (number : ℕ) (row : Row) → slice_get records number ≡ Some row → Has row records
Has-from_get records number row e = subst (λ (x : Row). Has x records) (get_or_from_slice_get records number row row e) (Has-get_or records number row (slice_get_within records number row e))

-- a record has a number exactly where it is held, and stands there

pub number_of-get : (records : List Row) (row : Row) (number : ℕ) → number_of records row ≡ Some number → slice_get records number ≡ Some row
number_of-get records row number e =
    let at = position_from-found (λ held. eq_by_cmp record_cmp held row) records number row e in
    at.0 ∙ ap Some (tells_apart record_cmp_exact (get_or records number row) row at.1)

pub number_of-none : (records : List Row) (row : Row) → number_of records row ≡ None → Has row records → ⊥
number_of-none records row none stands =
    let other : eq_by_cmp record_cmp row row ≡ false = position_from-none (λ held. eq_by_cmp record_cmp held row) 0 records row none stands in
    let same : eq_by_cmp record_cmp row row ≡ true = same-self row in
    let bad : true ≡ false = cc in cc

pub number_of-lacks : (records : List Row) (row : Row) → (Has row records → ⊥) → number_of records row ≡ None
number_of-lacks records row lacks = go (number_of records row) refl
  where
    go : (o : Option ℕ) → number_of records row ≡ o → number_of records row ≡ None
    go None e = e
    go (Some number) e = absurd (lacks (Has-from_get records number row (number_of-get records row number e)))

held : (records : List Row) (row : Row) → Has row records → is_some (number_of records row) ≡ true
held records row stands = go (number_of records row) refl
  where
    go : (o : Option ℕ) → number_of records row ≡ o → is_some (number_of records row) ≡ true
    go None e = absurd (number_of-none records row e stands)
    go (Some number) e = ap is_some e

pub with_record-held : (records : List Row) (row : Row) → Has row records → with_record records row ≡ records
with_record-held records row stands = rw (held records row stands) refl

pub with_record-new : (records : List Row) (row : Row) → (Has row records → ⊥) → with_record records row ≡ records ++ row ∷ []
with_record-new records row lacks = rw (number_of-lacks records row lacks) refl

-- a new record goes last

pub number_of-last : (records : List Row) (row : Row) → number_of records row ≡ None → number_of (records ++ row ∷ []) row ≡ Some (length records)
number_of-last records row none = position_from-last (λ held. eq_by_cmp record_cmp held row) 0 records row ∙ rw (none, same-self row) (ap Some (omega arith))

IsPool-more : (records : List Row) (row : Row) → IsPool records → length records < record_limit → number_of records row ≡ None → IsPool (records ++ row ∷ [])
IsPool-more records row pool room none = record {
  distinct = all_pairs_push (λ a b. a ≢ b) records row pool.distinct (λ k d lt same. number_of-none records row none (subst (λ (x : Row). Has x records) same (Has-get_or records k d lt)));
  few = simp length-append (omega (arith, room));
}

pub IsPool-with : (records : List Row) (row : Row) → IsPool records → length records < record_limit → IsPool (with_record records row)
IsPool-with records row pool room = go (number_of records row) refl
  where
    go : (o : Option ℕ) → number_of records row ≡ o → IsPool (with_record records row)
    go None e = rw e (IsPool-more records row pool room e)
    go (Some number) e = rw e pool

-- the first so many of a pool's records

pub IsPool-first : (records : List Row) (count : ℕ) → IsPool records → IsPool (take count records)
IsPool-first records count pool = record {
  distinct = λ i j d lt within.
      let below : j < count = omega (arith, within, length-take count records) in
      let inside : j < length records = omega (arith, within, length-take count records) in
      rw (get_or-take count records i d (omega (arith, lt, below)), get_or-take count records j d below) (pool.distinct i j d lt inside);
  few = omega (arith, length-take count records, pool.few);
}

-- ---- the set that holds the records

eq_sym : (a b : Row) → eq_by_cmp record_cmp a b ≡ eq_by_cmp record_cmp b a
eq_sym a b = ap is_eq (record_cmp_total.antisymm a b) ∙ by (record_cmp b a)
  where
    by : (o : Ordering) → is_eq (ordering_reverse o) ≡ is_eq o
    by Less = refl
    by Equal = refl
    by Greater = refl

-- the set's index of a record is its number
pub number_of-index : (records : List Row) (row : Row) → position (eq_by_cmp record_cmp row) records ≡ number_of records row
number_of-index records row = position_from-zero (eq_by_cmp record_cmp row) records ∙ ap (λ (test : Row → Bool). position_from test 0 records) (λ i held. eq_sym row held i)

-- the set finds a record exactly where it has a number
list_any-number : (records : List Row) (row : Row) → list_any (eq_by_cmp record_cmp row) records ≡ is_some (number_of records row)
list_any-number records row = go 0 records
  where
    go : (i : ℕ) (xs : List Row) → list_any (eq_by_cmp record_cmp row) xs ≡ is_some (position_from (λ held. eq_by_cmp record_cmp held row) i xs)
    go i [] = refl
    go i (x ∷ xs) = elim (cases_Bool (eq_by_cmp record_cmp x row)) [
      | inl t ↦ rw (eq_sym row x, t) refl
      | inr f ↦ rw (eq_sym row x, f) (go (i + 1) xs)
    ]

pub list_any-held : (records : List Row) (row : Row) → Has row records → list_any (eq_by_cmp record_cmp row) records ≡ true
list_any-held records row stands = list_any-number records row ∙ held records row stands

-- the set keeps a record that it holds, and puts a new one last
pub insert_key-with : (records : List Row) (row : Row) → insert_key (eq_by_cmp record_cmp) records row ≡ with_record records row
insert_key-with records row = ap (λ b. if b then records else records ++ row ∷ []) (list_any-number records row)

pub insert_key-new : (records : List Row) (row : Row) → number_of records row ≡ None → insert_key (eq_by_cmp record_cmp) records row ≡ records ++ row ∷ []
insert_key-new records row none = insert_key-with records row ∙ rw none refl

-- the index at which the set puts a record is its number then
pub number_of-insert : (records : List Row) (row : Row) → number_of (with_record records row) row ≡ Some (position_or_len (eq_by_cmp record_cmp row) records)
number_of-insert records row = rw (sym (insert_key-with records row)) (go 0 records ∙ ap Some (omega arith))
  where
    go : (i : ℕ) (xs : List Row) → position_from (λ held. eq_by_cmp record_cmp held row) i (insert_key (eq_by_cmp record_cmp) xs row) ≡ Some (i + position_or_len (eq_by_cmp record_cmp row) xs)
    go i [] = rw (same-self row) (ap Some (omega arith))
    go i (x ∷ xs) = elim (cases_Bool (eq_by_cmp record_cmp x row)) [
      | inl t ↦ rw (eq_sym row x, t) (rw t (ap Some (omega arith)))
      | inr f ↦ rw (eq_sym row x, f) (ap (position_from (λ held. eq_by_cmp record_cmp held row) i) (under (list_any (eq_by_cmp record_cmp row) xs)) ∙ rw f (go (i + 1) xs ∙ ap Some (omega arith)))
    ]
      where
        under : (b : Bool) → (if b then x ∷ xs else (x ∷ xs) ++ row ∷ []) ≡ x ∷ (if b then xs else xs ++ row ∷ [])
        under true = refl
        under false = refl
