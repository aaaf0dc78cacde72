-- What Latest keeps after one record more, and what it puts out.
use Rattle.std.proofs.Common.{◌≡◌, ℕ, zero, suc, ◌+◌, ◌<◌, Bool, true, false, cond, not, ◌&&◌, ◌||◌, List, [], ◌∷◌, ◌++◌, length, get_or, take, filter, Option, Some, None, refl, ap, ◌∙◌, sym, subst, inl, inr, ◌⊎◌, arith}
use Rattle.std.specs.Ordering.{is_eq, is_le, eq_by_cmp, ordering_reverse}
use Rattle.std.specs.declared.cmp.Ordering.TheVariants.{Less, Greater}
use Rattle.std.specs.List.{list_any, list_all, filter_map, cons_option, range_with_len}
use Rattle.std.specs.List.Sorted.{IsStrictlySortedBy}
use Rattle.std.specs.Cmp.{tied_itself}
use Rattle.std.specs.BTreeMap.{BTreeMap, get, values, is_at, IsOrdered}
use Rattle.std.specs.Prelude.{◌==◌}
use Rattle.std.proofs.lemmas.List.{take_more, map-id}
use Rattle.std.proofs.lemmas.List.Elements.{filter_map-append}
use Rattle.std.proofs.lemmas.List.FromFn.{filter_of_map_range_with_len_more}
use Rattle.std.proofs.lemmas.List.Folds.{list_any-append, list_all-append}
use Rattle.blz_value.specs.Members.{Has}
use Rattle.blz_value.specs.Record.{Row, record_cmp}
use Rattle.blz_value.specs.RecordOrder.{record_cmp_total}
use Rattle.blz_value.specs.Sets.{set_of, IsRowSet}
use Rattle.blz_value.specs.Operators.{cells}
use Rattle.blz_value.proofs.Membership.{Has-append_left, Has-append_right, Has-append_cases, Has-filter, Has-from_filter, any_from_Has, Has-from_any, Has-get_or}
use Rattle.blz_value.proofs.SetLemmas.{all_has}
use Rattle.blz_value.proofs.SetLaws.{Has-set_of, Has-from_set_of}
use Rattle.blz_value.proofs.RowSets.{same_set_of}
use Rattle.blz_value.proofs.Booleans.{or_right}
use Rattle.blz_value.proofs.Lists.{all_pass}
use Rattle.blz_set.proofs.Runs.{same_row}
use Rattle.bloom_forms.specs.StockSteps.{has_key, is_latest, latest_kept, latest_out, keys_in_order}
use Rattle.blz_boxes.specs.Code.KeptRecords.{HaveKeys, records_of}
use Rattle.blz_boxes.proofs.Records.{value_found, value_there, keys_after_put, values_from, values_old, value_new}

-- ---- tests of lists with one element more

none_of : (a b : Bool) → not (a || (b || false)) ≡ true → (not a ≡ true) × (b ≡ false)
none_of true b e = cc
none_of false true e = cc
none_of false false e = (refl, refl)

none_from : (a b : Bool) → not a ≡ true → b ≡ false → not (a || (b || false)) ≡ true
none_from true b e f = cc
none_from false b e f = rw f refl

both_of : (a b : Bool) → (a && (b && true)) ≡ true → (a ≡ true) × (b ≡ true)
both_of true true e = (refl, refl)
both_of true false e = cc
both_of false b e = cc

both_from : (a b : Bool) → a ≡ true → b ≡ true → (a && (b && true)) ≡ true
both_from a b e f = rw (e, f) refl

not_above : (b c : Bool) → (not b || c) ≡ true → c ≡ false → b ≡ false
not_above true c e f = cc
not_above false c e f = refl

-- ---- one record more

-- whether no record has the key of a record
abbrev stays : List ℕ → List Row → Row → Bool
stays keys rows q = not (list_any (has_key keys (cells keys q)) rows)

-- whether another record doesn't stand above a record with its key
abbrev yields : List ℕ → Row → Row → Bool
yields keys q other = not (has_key keys (cells keys q) other) || is_le (record_cmp other q)

-- the records that Latest keeps, as a list
abbrev chosen : List ℕ → (kept put : List Row) → List Row
chosen keys kept put = filter (stays keys put) kept ++ filter (is_latest keys put) put

module _ (keys : List ℕ) (kept put : List Row) (row : Row) (above : (q : Row) → Has q put → record_cmp q row ≡ Less) where
  chosen_from : (q : Row) → Has q (chosen keys kept (put ++ row ∷ [])) → (row ≡ q) ⊎ (Has q (chosen keys kept put) × (has_key keys (cells keys q) row ≡ false))
  chosen_from q h = elim (Has-append_cases q (filter (stays keys (put ++ row ∷ [])) kept) (filter (is_latest keys (put ++ row ∷ [])) (put ++ row ∷ [])) h) [
    | inl old ↦
        let m = Has-from_filter (stays keys (put ++ row ∷ [])) q kept old in
        let two = none_of (list_any (has_key keys (cells keys q)) put) (has_key keys (cells keys q) row) (ap not (sym (list_any-append (has_key keys (cells keys q)) put (row ∷ []))) ∙ m.1) in
        inr (Has-append_left q (filter (stays keys put) kept) (filter (is_latest keys put) put) (Has-filter (stays keys put) q kept m.0 two.0), two.1)
    | inr fresh ↦
        let m = Has-from_filter (is_latest keys (put ++ row ∷ [])) q (put ++ row ∷ []) fresh in
        elim (Has-append_cases q put (row ∷ []) m.0) [
          | inl before ↦
              let two = both_of (list_all (yields keys q) put) (yields keys q row) (sym (list_all-append (yields keys q) put (row ∷ [])) ∙ m.1) in
              let greater : record_cmp row q ≡ Greater = record_cmp_total.antisymm row q ∙ ap ordering_reverse (above q before) in
              inr (Has-append_right q (filter (stays keys put) kept) (filter (is_latest keys put) put) (Has-filter (is_latest keys put) q put before two.0), not_above (has_key keys (cells keys q) row) (is_le (record_cmp row q)) two.1 (ap is_le greater))
          | inr last ↦ elim last [ inl e ↦ inl e | inr n ↦ absurd n ]
        ]
  ]

  chosen_old : (q : Row) → Has q (chosen keys kept put) → has_key keys (cells keys q) row ≡ false → Has q (chosen keys kept (put ++ row ∷ []))
  chosen_old q h apart = elim (Has-append_cases q (filter (stays keys put) kept) (filter (is_latest keys put) put) h) [
    | inl old ↦
        let m = Has-from_filter (stays keys put) q kept old in
        Has-append_left q (filter (stays keys (put ++ row ∷ [])) kept) (filter (is_latest keys (put ++ row ∷ [])) (put ++ row ∷ []))
        (Has-filter (stays keys (put ++ row ∷ [])) q kept m.0 (ap not (list_any-append (has_key keys (cells keys q)) put (row ∷ [])) ∙ none_from (list_any (has_key keys (cells keys q)) put) (has_key keys (cells keys q) row) m.1 apart))
    | inr fresh ↦
        let m = Has-from_filter (is_latest keys put) q put fresh in
        Has-append_right q (filter (stays keys (put ++ row ∷ [])) kept) (filter (is_latest keys (put ++ row ∷ [])) (put ++ row ∷ []))
        (Has-filter (is_latest keys (put ++ row ∷ [])) q (put ++ row ∷ []) (Has-append_left q put (row ∷ []) m.0) (list_all-append (yields keys q) put (row ∷ []) ∙ both_from (list_all (yields keys q) put) (yields keys q row) m.1 (ap (λ b. not b || is_le (record_cmp row q)) apart)))
  ]

  chosen_new : Has row (chosen keys kept (put ++ row ∷ []))
  chosen_new =
      let below : list_all (yields keys row) put ≡ true = all_pass (yields keys row) put (λ other m. or_right (not (has_key keys (cells keys row) other)) (is_le (record_cmp other row)) (ap is_le (above other m))) in
      let itself : yields keys row row ≡ true = or_right (not (has_key keys (cells keys row) row)) (is_le (record_cmp row row)) (ap is_le (tied_itself record_cmp_total row)) in
      Has-append_right row (filter (stays keys (put ++ row ∷ [])) kept) (filter (is_latest keys (put ++ row ∷ [])) (put ++ row ∷ []))
      (Has-filter (is_latest keys (put ++ row ∷ [])) row (put ++ row ∷ []) (Has-append_right row put (row ∷ []) (inl refl)) (list_all-append (yields keys row) put (row ∷ []) ∙ both_from (list_all (yields keys row) put) (yields keys row row) below itself))

  -- a map that stands for what is kept stands for it after one record more
  kept_more : (old new : BTreeMap Row Row) → IsOrdered record_cmp old → IsOrdered record_cmp new → HaveKeys keys old → ((q : Row) → get record_cmp new q ≡ cond (is_at (record_cmp (cells keys row)) q) (Some row) (get record_cmp old q)) → records_of old ≡ latest_kept keys kept put → records_of new ≡ latest_kept keys kept (put ++ row ∷ [])
  kept_more old new ordered_old ordered_new keys_old updates was =
      same_set_of (values new) (chosen keys kept (put ++ row ∷ [])) (
        λ q h. elim (values_from keys row old new updates ordered_old ordered_new keys_old q h) [
          | inl e ↦ subst (λ z. Has z (chosen keys kept (put ++ row ∷ []))) e chosen_new
          | inr m ↦ chosen_old q (Has-from_set_of q (chosen keys kept put) (subst (λ z. Has q z) was (Has-set_of q (values old) m.0))) m.1
        ],
        λ q h. elim (chosen_from q h) [
          | inl e ↦ subst (λ z. Has z (values new)) e (value_new keys row old new updates)
          | inr m ↦ values_old keys row old new updates ordered_old ordered_new keys_old q (Has-from_set_of q (values old) (subst (λ z. Has q z) (sym was) (Has-set_of q (chosen keys kept put) m.0))) m.1
        ],
      )

-- the records before a place of a set are below the one there
before_place : (rows : List Row) (i : ℕ) (d : Row) → IsRowSet rows → i < length rows → (q : Row) → Has q (take i rows) → record_cmp q (get_or rows i d) ≡ Less
unfolding IsStrictlySortedBy
before_place [] i d sorted lt q h = absurd (omega (arith, lt))
before_place (x ∷ rows) zero d sorted lt q h = absurd h
before_place (x ∷ rows) (suc i) d sorted lt q (inl e) = subst (λ z. record_cmp z (get_or rows i d) ≡ Less) e (all_has (λ y. record_cmp x y ≡ Less) (get_or rows i d) rows sorted.0 (Has-get_or rows i d (omega (arith, lt))))
before_place (x ∷ rows) (suc i) d sorted lt q (inr h) = before_place rows i d sorted.1 (omega (arith, lt)) q h

-- the same at a place of the records that are put
pub kept_at : (keys : List ℕ) (kept rows : List Row) (i : ℕ) (row : Row) (old new : BTreeMap Row Row) → IsRowSet rows → i < length rows → row ≡ get_or rows i row → IsOrdered record_cmp old → IsOrdered record_cmp new → HaveKeys keys old → ((q : Row) → get record_cmp new q ≡ cond (is_at (record_cmp (cells keys row)) q) (Some row) (get record_cmp old q)) → records_of old ≡ latest_kept keys kept (take i rows) → records_of new ≡ latest_kept keys kept (take (i + 1) rows)
kept_at keys kept rows i row old new sorted lt is ordered_old ordered_new keys_old updates was =
    kept_more keys kept (take i rows) row (λ q h. ap (record_cmp q) is ∙ before_place rows i row sorted lt q h) old new ordered_old ordered_new keys_old updates was
    ∙ ap (latest_kept keys kept) (ap (λ last. take i rows ++ last ∷ []) is ∙ sym (take_more rows i row lt))

-- a copy that is put at the key of a record
pub put_at : (keys : List ℕ) (kept rows : List Row) (i : ℕ) (row key copy : Row) (old new : BTreeMap Row Row) → key ≡ cells keys row → copy ≡ row → ((q : Row) → get record_cmp new q ≡ cond (is_at (record_cmp key) q) (Some copy) (get record_cmp old q)) → IsRowSet rows → i < length rows → row ≡ get_or rows i row → IsOrdered record_cmp old → IsOrdered record_cmp new → HaveKeys keys old → records_of old ≡ latest_kept keys kept (take i rows) → HaveKeys keys new × (records_of new ≡ latest_kept keys kept (take (i + 1) rows))
put_at keys kept rows i row key copy old new is_key is_copy updates sorted lt is ordered_old ordered_new keys_old was =
    let at_key : (q : Row) → get record_cmp new q ≡ cond (is_at (record_cmp (cells keys row)) q) (Some row) (get record_cmp old q) = λ q. updates q ∙ ap (λ k. cond (is_at (record_cmp k) q) (Some copy) (get record_cmp old q)) is_key ∙ ap (λ r. cond (is_at (record_cmp (cells keys row)) q) (Some r) (get record_cmp old q)) is_copy in
    (keys_after_put keys row old new at_key keys_old, kept_at keys kept rows i row old new sorted lt is ordered_old ordered_new keys_old at_key was)

-- ---- what is asked for

from_option : {X Y : Type 0} (h : X → Option Y) (y : Y) (x : X) (xs : List X) (o : Option Y) → h x ≡ o → Has y (cons_option o (filter_map h xs)) → (Has y (filter_map h xs) → (z : X) × Has z xs × (h z ≡ Some y)) → (z : X) × Has z (x ∷ xs) × (h z ≡ Some y)
from_option h y x xs None e m more = let found = more m in (found.0, inr found.1, found.2)
from_option h y x xs (Some z) e (inl is) more = (x, inl refl, e ∙ ap Some is)
from_option h y x xs (Some z) e (inr m) more = let found = more m in (found.0, inr found.1, found.2)

Has-from_filter_map : {X Y : Type 0} (h : X → Option Y) (y : Y) (xs : List X) → Has y (filter_map h xs) → (x : X) × Has x xs × (h x ≡ Some y)
Has-from_filter_map h y [] m = absurd m
Has-from_filter_map h y (x ∷ xs) m = from_option h y x xs (h x) refl m (Has-from_filter_map h y xs)

after_option : {Y : Type 0} (y : Y) (o : Option Y) (ys : List Y) → Has y ys → Has y (cons_option o ys)
after_option y None ys m = m
after_option y (Some z) ys m = inr m

Has-filter_map : {X Y : Type 0} (h : X → Option Y) (y : Y) (x : X) (xs : List X) → Has x xs → h x ≡ Some y → Has y (filter_map h xs)
Has-filter_map h y x [] m e = absurd m
Has-filter_map h y x (z ∷ xs) (inl is) e = subst (λ o. Has y (cons_option o (filter_map h xs))) (sym (ap h is ∙ e)) (inl refl)
Has-filter_map h y x (z ∷ xs) (inr m) e = after_option y (h z) (filter_map h xs) (Has-filter_map h y x xs m e)

-- the records that stand at the keys that are asked for are what Latest puts out
pub asked_is : (keys : List ℕ) (records : BTreeMap Row Row) (ask : List Row) → IsOrdered record_cmp records → HaveKeys keys records → set_of (filter_map (get record_cmp records) ask) ≡ latest_out keys (records_of records) ask
asked_is keys records ask ordered have_keys =
    let is_asked : Row → Bool = λ row. list_any (eq_by_cmp record_cmp (cells keys row)) ask in
    same_set_of (filter_map (get record_cmp records) ask) (filter is_asked (records_of records)) (
      λ q h.
          let found = Has-from_filter_map (get record_cmp records) q ask h in
          let key : found.0 ≡ cells keys q = have_keys found.0 q found.2 in
          Has-filter is_asked q (records_of records) (Has-set_of q (values records) (value_there records found.0 q found.2))
          (any_from_Has (eq_by_cmp record_cmp (cells keys q)) found.0 ask found.1 (ap (λ k. is_eq (record_cmp (cells keys q) k)) key ∙ ap is_eq (tied_itself record_cmp_total (cells keys q)))),
      λ q h.
          let m = Has-from_filter is_asked q (records_of records) h in
          let found = Has-from_any (eq_by_cmp record_cmp (cells keys q)) ask m.1 in
          let key : cells keys q ≡ found.0 = same_row (cells keys q) found.0 found.2 in
          Has-filter_map (get record_cmp records) q found.0 ask found.1 (ap (get record_cmp records) (sym key) ∙ value_found keys records ordered have_keys q (Has-from_set_of q (values records) m.0)),
    )

-- one key more that is asked for
pub found_more : (h : Row → Option Row) (xs : List Row) (i : ℕ) (x : Row) (o : Option Row) (old new : List Row) → i < length xs → x ≡ get_or xs i x → h x ≡ o → old ≡ filter_map h (take i xs) → new ≡ old ++ cons_option o [] → new ≡ filter_map h (take (i + 1) xs)
found_more h xs i x o old new lt is value was made =
    made ∙ ap (λ l. l ++ cons_option o []) was ∙ ap (λ v. filter_map h (take i xs) ++ cons_option v []) (sym value ∙ ap h is) ∙ sym (ap (filter_map h) (take_more xs i x lt) ∙ filter_map-append h (take i xs) (get_or xs i x ∷ []))

-- one column more among the first ones
keys_in_order_more : (count : ℕ) (keys : List ℕ) → keys_in_order (count + 1) keys ≡ keys_in_order count keys ++ cond (list_any (λ key. key == count) keys) (count ∷ []) []
keys_in_order_more count keys =
    let is_key : ℕ → Bool = λ column. list_any (λ key. key == column) keys in
    ap (filter is_key) (sym (map-id (range_with_len 0 (count + 1)))) ∙ filter_of_map_range_with_len_more is_key (λ c. c) 0 count count (omega arith) ∙ ap (λ l. filter is_key l ++ cond (is_key count) (count ∷ []) []) (map-id (range_with_len 0 count))

pub keys_step : (count : ℕ) (keys : List ℕ) (b : Bool) (old new : List ℕ) → b ≡ list_any (λ key. key == count) keys → old ≡ keys_in_order count keys → new ≡ old ++ cond b (count ∷ []) [] → new ≡ keys_in_order (count + 1) keys
keys_step count keys b old new is was made = made ∙ ap (λ l. l ++ cond b (count ∷ []) []) was ∙ ap (λ t. keys_in_order count keys ++ cond t (count ∷ []) []) is ∙ sym (keys_in_order_more count keys)
