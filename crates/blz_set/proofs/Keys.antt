-- The keys of rows in order: the first row of each run gives the set of the keys.
use Rattle.std.proofs.Common.{◌≡◌, ℕ, ◌+◌, ◌-◌, ◌<◌, ◌≤◌, Bool, true, false, cond, map, filter, List, [], ◌∷◌, ◌++◌, length, get_or, take, refl, ap, ◌∙◌, sym, subst, inl, inr, arith}
use Rattle.std.specs.declared.cmp.Ordering.{Ordering}
use Rattle.std.specs.declared.cmp.Ordering.TheVariants.{Less, Equal, Greater}
use Rattle.std.specs.Ordering.{ordering_reverse, ordering_then, is_eq, is_lt, is_ne}
use Rattle.std.specs.Cmp.{tied_itself}
use Rattle.std.proofs.lemmas.List.{take_more, map-append, get_or-take, get_or_default, length-take-le, length-map}
use Rattle.std.specs.List.Sorted.{IsStrictlySortedBy}
use Rattle.std.proofs.lemmas.List.Sorted.{ranks_by, sorted_far}
use Rattle.std.proofs.lemmas.List.Kept.{IsStrictlySortedBy-filter}
use Rattle.blz_value.specs.Members.{Has, HaveEqualMembers}
use Rattle.blz_value.specs.Record.{Row, record_cmp}
use Rattle.blz_value.specs.RecordOrder.{record_cmp_total, record_cmp_exact}
use Rattle.blz_value.specs.Sets.{set_of, IsRowSet}
use Rattle.blz_value.specs.Value.{value_cmp}
use Rattle.blz_value.specs.Operators.{cells, project_rows}
use Rattle.blz_value.specs.Groups.{aggregate, with_key, group_rows, at_least_rows}
use Rattle.blz_value.specs.Test.{cell}
use Rattle.blz_value.specs.declared.value.Value.{Value}
use Rattle.blz_value.specs.declared.aggregate.Agg.{Agg}
use Rattle.blz_value.proofs.SetLemmas.{all_has, all_from_has}
use Rattle.blz_value.proofs.SetLaws.{sorted_set_of, Has-from_set_of, members_set_of}
use Rattle.blz_value.proofs.Membership.{Has-map, Has-from_map, Has-get_or, Contains-from_Has, Has-filter, Has-from_filter, map_members, filter_members}
use Rattle.blz_value.proofs.RowSets.{same_set_of, is_set_of, set_of-push_above, set_of-push_present, length-set_of-le}
use Rattle.blz_set.specs.declared.entry.Entry.{Entry}
use Rattle.blz_set.specs.Code.Entry.{row_of, rows_of}
use Rattle.blz_set.specs.Code.Groups.{grouped, is_often}
use Rattle.blz_set.specs.RecordSet.{IsRecordSet, row_limit}
use Rattle.blz_set.specs.Code.Index.{has_key, InOrder, HaveSameRuns}
use Rattle.blz_set.proofs.RecordSets.{length-filter-le, filter-push}

pub rows_of-push : (refs : List Entry) (r : Entry) → rows_of (refs ++ r ∷ []) ≡ rows_of refs ++ (row_of r) ∷ []
rows_of-push refs r = map-append row_of refs (r ∷ [])

pub rows_of_more : (refs : List Entry) (i : ℕ) (r : Entry) → i < length refs → r ≡ get_or refs i r → rows_of (take (i + 1) refs) ≡ rows_of (take i refs) ++ (row_of r) ∷ []
rows_of_more refs i r lt is = ap rows_of (take_more refs i r lt ∙ ap (λ (q : Entry). take i refs ++ q ∷ []) (sym is)) ∙ rows_of-push (take i refs) r

pub keys-push : (columns : List ℕ) (rows : List Row) (row : Row) → project_rows columns (rows ++ row ∷ []) ≡ project_rows columns rows ++ cells columns row ∷ []
keys-push columns rows row = map-append (cells columns) rows (row ∷ [])

-- ---- orders

less_is : (o r : Ordering) → o ≡ ordering_reverse r → is_ne o ≡ true → is_lt r ≡ false → o ≡ Less
less_is Less r e ne h = refl
less_is Equal r e ne h = cc
less_is Greater Less e ne h = cc
less_is Greater Equal e ne h = cc
less_is Greater Greater e ne h = cc

at_most : (o r : Ordering) (a b c : Row) → record_cmp a b ≡ o → record_cmp b a ≡ r → o ≡ ordering_reverse r → is_lt r ≡ false → record_cmp b c ≡ Less → record_cmp a c ≡ Less
at_most Less r a b c e g turned h less = record_cmp_total.trans a b c e less
at_most Equal r a b c e g turned h less = subst (λ (x : Row). record_cmp x c ≡ Less) (sym (record_cmp_exact a b e)) less
at_most Greater Less a b c e g turned h less = cc
at_most Greater Equal a b c e g turned h less = cc
at_most Greater Greater a b c e g turned h less = cc

tied : (o : Ordering) (a b : Row) → record_cmp a b ≡ o → is_ne o ≡ false → a ≡ b
tied Less a b e h = cc
tied Equal a b e h = record_cmp_exact a b e
tied Greater a b e h = cc

-- ---- the keys so far

pub none_at_first : (columns : List ℕ) (refs : List Entry) (i : ℕ) (q : Row) → i ≡ 0 → ¬ Has q (project_rows columns (rows_of (take i refs)))
none_at_first columns refs i q e h = subst (λ (n : ℕ). Has q (project_rows columns (rows_of (take n refs)))) e h

module _ (columns : List ℕ) (refs : List Entry) (i : ℕ) (x : Entry) (lt : i < length refs) (is : x ≡ get_or refs i x) where
  key : Entry → Row
  key = λ (r : Entry). cells columns (row_of r)

  pub keys_more : project_rows columns (rows_of (take (i + 1) refs)) ≡ project_rows columns (rows_of (take i refs)) ++ cells columns (row_of x) ∷ []
  keys_more = ap (project_rows columns) (rows_of_more refs i x lt is) ∙ keys-push columns (rows_of (take i refs)) (row_of x)

  -- a row with a key that is above all goes to the firsts
  pub first_key : (firsts : List Entry) → ((q : Row) → Has q (project_rows columns (rows_of (take i refs))) → record_cmp q (cells columns (row_of x)) ≡ Less) → project_rows columns (rows_of firsts) ≡ set_of (project_rows columns (rows_of (take i refs)))
      → project_rows columns (rows_of (firsts ++ x ∷ [])) ≡ set_of (project_rows columns (rows_of (take (i + 1) refs)))
  first_key firsts above so_far =
      ap (project_rows columns) (rows_of-push firsts x) ∙ keys-push columns (rows_of firsts) (row_of x)
      ∙ ap (λ keys. keys ++ cells columns (row_of x) ∷ []) so_far
      ∙ sym (ap set_of keys_more ∙ set_of-push_above (cells columns (row_of x)) (project_rows columns (rows_of (take i refs))) above)

  module _ (y : Entry) (some : 0 < i) (last : y ≡ get_or refs (i - 1) y) where
    -- a row that differs from the one before it is above all before it
    pub above_all : InOrder columns refs → is_ne (record_cmp (cells columns (row_of y)) (cells columns (row_of x))) ≡ true → (q : Row) → Has q (project_rows columns (rows_of (take i refs))) → record_cmp q (cells columns (row_of x)) ≡ Less
    above_all order ne q h =
        let cmp : Entry → Entry → Ordering = λ (a b : Entry). record_cmp (cells columns (row_of a)) (cells columns (row_of b)) in
        let row = Has-from_map (cells columns) q (rows_of (take i refs)) h in
        let ref = Has-from_map row_of row.0 (take i refs) row.1 in
        let r : Entry = ref.0 in
        let place = Contains-from_Has (take i refs) r ref.1 in
        let below : place.0 < i = omega (arith, place.1, length-take-le i refs (omega arith)) in
        let at : get_or refs place.0 r ≡ r = sym (get_or-take i refs place.0 r below) ∙ place.2 in
        let far : is_lt (cmp y r) ≡ false =
        subst (λ (b : Entry). is_lt (cmp y b) ≡ false) at
        (subst (λ (a : Entry). is_lt (cmp a (get_or refs place.0 r)) ≡ false) (get_or_default refs (i - 1) r y (omega arith) ∙ sym last)
        (sorted_far (λ a b. is_lt (cmp a b)) (ranks_by record_cmp_total (λ (b : Entry). cells columns (row_of b))) refs order place.0 (i - 1) r (omega arith) (omega arith))) in
        let next : is_lt (cmp x y) ≡ false =
        subst (λ (a : Entry). is_lt (cmp a y) ≡ false) (get_or_default refs i y x lt ∙ sym is)
        (subst (λ (b : Entry). is_lt (cmp (get_or refs i y) b) ≡ false) (sym last)
        (sorted_far (λ a b. is_lt (cmp a b)) (ranks_by record_cmp_total (λ (b : Entry). cells columns (row_of b))) refs order (i - 1) i y (omega arith) lt)) in
        let less : cmp y x ≡ Less = less_is (cmp y x) (cmp x y) (record_cmp_total.antisymm (cells columns (row_of y)) (cells columns (row_of x))) ne next in
        let same : cells columns (row_of r) ≡ q = ap (cells columns) ref.2 ∙ row.2 in
        subst (λ (k : Row). record_cmp k (cells columns (row_of x)) ≡ Less) same
        (at_most (cmp r y) (cmp y r) (cells columns (row_of r)) (cells columns (row_of y)) (cells columns (row_of x)) refl refl (record_cmp_total.antisymm (cells columns (row_of r)) (cells columns (row_of y))) far less)

    -- a row with the key of the one before it adds no key
    pub same_key : (firsts : List Entry) → is_ne (record_cmp (cells columns (row_of y)) (cells columns (row_of x))) ≡ false → project_rows columns (rows_of firsts) ≡ set_of (project_rows columns (rows_of (take i refs)))
        → project_rows columns (rows_of firsts) ≡ set_of (project_rows columns (rows_of (take (i + 1) refs)))
    same_key firsts eq so_far =
        let same = tied (record_cmp (cells columns (row_of y)) (cells columns (row_of x))) (cells columns (row_of y)) (cells columns (row_of x)) refl eq in
        let at : get_or (take i refs) (i - 1) y ≡ y = get_or-take i refs (i - 1) y (omega arith) ∙ sym last in
        let has : Has y (take i refs) = subst (λ (r : Entry). Has r (take i refs)) at (Has-get_or (take i refs) (i - 1) y (omega (arith, length-take-le i refs (omega arith)))) in
        let held = Has-map (cells columns) (row_of y) (rows_of (take i refs)) (Has-map row_of y (take i refs) has) in
        so_far ∙ sym (ap set_of keys_more ∙ set_of-push_present (cells columns (row_of x)) (project_rows columns (rows_of (take i refs))) (subst (λ (k : Row). Has k (project_rows columns (rows_of (take i refs)))) same held))

-- ---- sets of keys

module _ (columns : List ℕ) (rows ordered : List Row) (runs : HaveSameRuns columns ordered rows) where
  own_key : (row : Row) → has_key columns (cells columns row) row ≡ true
  own_key row = ap is_eq (tied_itself record_cmp_total (cells columns row))

  -- the members of lists with the same runs
  same_members : HaveEqualMembers ordered rows
  same_members = (
    λ q h. (Has-from_filter (has_key columns (cells columns q)) q rows (subst (λ (l : List Row). Has q l) (runs (cells columns q)) (Has-filter (has_key columns (cells columns q)) q ordered h (own_key q)))).0,
    λ q h. (Has-from_filter (has_key columns (cells columns q)) q ordered (subst (λ (l : List Row). Has q l) (sym (runs (cells columns q))) (Has-filter (has_key columns (cells columns q)) q rows h (own_key q)))).0,
  )

  pub same_keys : set_of (project_rows columns ordered) ≡ set_of (project_rows columns rows)
  same_keys = same_set_of (project_rows columns ordered) (project_rows columns rows) (map_members (cells columns) ordered rows same_members)

-- the keys of an index's first rows are the set's
pub keys_are : (columns own : List ℕ) (rows self ordered firsts : List Row) → own ≡ columns → HaveSameRuns columns ordered rows → rows ≡ self → project_rows own firsts ≡ set_of (project_rows own ordered) → project_rows columns firsts ≡ set_of (project_rows columns self)
keys_are columns own rows self ordered firsts of_index runs all e =
    subst (λ (cs : List ℕ). project_rows cs firsts ≡ set_of (project_rows cs ordered)) of_index e ∙ same_keys columns rows ordered runs ∙ ap (λ (l : List Row). set_of (project_rows columns l)) all

-- a run of the index is a run of the set
pub run_is : (columns own : List ℕ) (key : Row) (rows self ordered : List Row) (run : List Entry) → own ≡ columns → HaveSameRuns columns ordered rows → rows ≡ self → rows_of run ≡ with_key own key ordered → rows_of run ≡ with_key columns key self
run_is columns own key rows self ordered run of_index runs all e = e ∙ ap (λ (cs : List ℕ). with_key cs key ordered) of_index ∙ runs key ∙ ap (with_key columns key) all

pub length-run : (columns : List ℕ) (key : Row) (rows : List Row) (run : List Entry) → rows_of run ≡ with_key columns key rows → length run ≡ length (with_key columns key rows)
length-run columns key rows run e = sym (length-map run row_of) ∙ ap length e

pub length-run-le : (columns : List ℕ) (key : Row) (rows : List Row) (run : List Entry) → IsRecordSet rows → rows_of run ≡ with_key columns key rows → length run ≤ row_limit
length-run-le columns key rows run h e = omega (arith, length-run columns key rows run e, length-filter-le (has_key columns key) rows, h.small)

-- ---- a value behind each key

less_append : (a b x y : Row) → length a ≡ length b → record_cmp a b ≡ Less → record_cmp (a ++ x) (b ++ y) ≡ Less
less_append [] [] x y same e = cc
less_append [] (w ∷ b) x y same e = absurd (omega arith)
less_append (v ∷ a) [] x y same e = absurd (omega arith)
less_append (v ∷ a) (w ∷ b) x y same e = go (value_cmp v w) refl (less_append a b x y (omega arith))
  where
    go : (o : Ordering) → value_cmp v w ≡ o → (record_cmp a b ≡ Less → record_cmp (a ++ x) (b ++ y) ≡ Less) → ordering_then (value_cmp v w) (record_cmp (a ++ x) (b ++ y)) ≡ Less
    go Less is more = ap (λ o. ordering_then o (record_cmp (a ++ x) (b ++ y))) is
    go Equal is more = ap (λ o. ordering_then o (record_cmp (a ++ x) (b ++ y))) is ∙ more (sym (ap (λ o. ordering_then o (record_cmp a b)) is) ∙ e)
    go Greater is more = let turned = sym (ap (λ o. ordering_then o (record_cmp a b)) is) ∙ e in cc

sorted_with : (g : Row → Value) (n : ℕ) (keys : List Row) → ((key : Row) → Has key keys → length key ≡ n) → IsRowSet keys → IsRowSet (map (λ key. key ++ g key ∷ []) keys)
unfolding IsStrictlySortedBy
sorted_with g n [] wide sorted = tt
sorted_with g n (k ∷ keys) wide sorted = (
  all_from_has (λ y. record_cmp (k ++ g k ∷ []) y ≡ Less) (map (λ key. key ++ g key ∷ []) keys) (λ q h.
      let m = Has-from_map (λ key. key ++ g key ∷ []) q keys h in
      subst (λ (y : Row). record_cmp (k ++ g k ∷ []) y ≡ Less) m.2 (less_append k m.0 (g k ∷ []) (g m.0 ∷ []) (wide k (inl refl) ∙ sym (wide m.0 (inr m.1))) (all_has (λ y. record_cmp k y ≡ Less) m.0 keys sorted.0 m.1))),
  sorted_with g n keys (λ q h. wide q (inr h)) sorted.1,
)

key_width : (columns : List ℕ) (rows : List Row) (key : Row) → Has key (set_of (project_rows columns rows)) → length key ≡ length columns
key_width columns rows key h =
    let m = Has-from_map (cells columns) key rows (Has-from_set_of key (project_rows columns rows) h) in
    ap length (sym m.2) ∙ length-map columns (λ column. cell m.0 column)

-- ---- the sets of the operators with keys

module _ (columns : List ℕ) (rows keys : List Row) (all : keys ≡ set_of (project_rows columns rows)) where
  pub grouped_set : (agg : Agg) → map (grouped columns agg rows) keys ≡ set_of (group_rows columns agg rows)
  grouped_set agg =
      let own = project_rows columns rows in
      ap (map (grouped columns agg rows)) all
      ∙ is_set_of (map (grouped columns agg rows) (set_of own)) (group_rows columns agg rows)
      (sorted_with (λ key. aggregate agg (with_key columns key rows)) (length columns) (set_of own) (key_width columns rows) (sorted_set_of own))
      (map_members (grouped columns agg rows) (set_of own) own (members_set_of own))

  pub often_set : (bound : ℕ) → filter (is_often columns bound rows) keys ≡ set_of (at_least_rows columns bound rows)
  often_set bound =
      let own = project_rows columns rows in
      ap (filter (is_often columns bound rows)) all
      ∙ is_set_of (filter (is_often columns bound rows) (set_of own)) (at_least_rows columns bound rows)
      (IsStrictlySortedBy-filter record_cmp (is_often columns bound rows) (set_of own) (sorted_set_of own))
      (filter_members (is_often columns bound rows) (set_of own) own (members_set_of own))

  module _ (h : IsRecordSet rows) where
    -- the keys are no more than the rows
    pub keys_few : length keys ≤ row_limit
    keys_few = omega (arith, ap length all, length-set_of-le (project_rows columns rows), length-map rows (cells columns), h.small)

    pub grouped_few : (agg : Agg) → length (map (grouped columns agg rows) keys) ≤ row_limit
    grouped_few agg = omega (arith, keys_few, length-map keys (grouped columns agg rows))

    pub often_few : (bound : ℕ) → length (filter (is_often columns bound rows) keys) ≤ row_limit
    often_few bound = omega (arith, keys_few, length-filter-le (is_often columns bound rows) keys)

-- a step over the keys that occur often
pub often_more : (columns : List ℕ) (bound : ℕ) (rows : List Row) (refs : List Entry) (i : ℕ) (r : Entry) (b : Bool) → i < length refs → r ≡ get_or refs i r → is_often columns bound rows (cells columns (row_of r)) ≡ b
    → filter (is_often columns bound rows) (project_rows columns (rows_of (take (i + 1) refs))) ≡ filter (is_often columns bound rows) (project_rows columns (rows_of (take i refs))) ++ cond b (cells columns (row_of r) ∷ []) []
often_more columns bound rows refs i r b lt is e =
    ap (filter (is_often columns bound rows)) (keys_more columns refs i r lt is)
    ∙ filter-push (is_often columns bound rows) (project_rows columns (rows_of (take i refs))) (cells columns (row_of r)) b e
