-- A side into which another is merged has at each key the rows of both.
use Rattle.std.proofs.Common.{◌≡◌, ℕ, ◌+◌, ◌<◌, ◌≤◌, Bool, true, false, cond, List, [], ◌∷◌, ◌++◌, length, Option, Some, unwrap_or, Result, Ok, Err, refl, ap, ◌∙◌, sym, subst, inl, inr, arith}
use Rattle.std.proofs.lemmas.List.{append-nil}
use Rattle.std.proofs.lemmas.Map.{lookup-none}
use Rattle.std.proofs.lemmas.Map.Entries.{lookup_head, lookup_tail, none_past_head}
use Rattle.std.proofs.lemmas.Map.Keys.{IsDistinct-from_sorted}
use Rattle.std.specs.BTreeMap.{BTreeMap, get, is_at}
use Rattle.std.specs.Cmp.{eq_by_cmp_equiv}
use Rattle.std.specs.List.Sorted.{IsStrictlySortedBy}
use Rattle.std.specs.Map.{lookup, keys_of}
use Rattle.std.specs.Ordering.{eq_by_cmp}
use Rattle.blz_value.specs.Groups.{with_key}
use Rattle.blz_value.specs.Operators.{cells}
use Rattle.blz_value.specs.Record.{Row, record_cmp}
use Rattle.blz_value.specs.RecordOrder.{record_cmp_total}
use Rattle.blz_value.specs.Sets.{set_of, IsRowSet}
use Rattle.blz_value.proofs.Lists.{same-self}
use Rattle.blz_value.proofs.Membership.{Has-filter, Has-from_filter, Has-append_left, Has-append_right, Has-append_cases}
use Rattle.blz_value.proofs.OperatorsLemmas.{sorted_filter, length-within}
use Rattle.blz_value.proofs.RowSets.{set_of-sorted, length-set_of-append_right}
use Rattle.blz_value.proofs.SetLaws.{sorted_set_of, Has-set_of, Has-from_set_of, same_row_sets}
use Rattle.blz_set.specs.Answers.{Becomes}
use Rattle.blz_set.specs.RecordSet.{row_limit}
use Rattle.blz_set.specs.declared.fault.SetFault.{SetFault}
use Rattle.blz_set.specs.declared.fault.SetFault.TheVariants.{TooManyRows, NoMemory}
use Rattle.blz_set.proofs.Runs.{same_row}
use Rattle.bloom_growth.specs.ByKey.{rows_found, AreByKey, MakesByKey}
use Rattle.bloom_growth.specs.Code.Sides.{HaveRowSets, HasSet, AddsSetAt, AddsSet, Merges}
use Rattle.bloom_growth.specs.Sides.{IsFreshSide}
use Rattle.bloom_growth.specs.declared.side.Side.{Side}
use Rattle.bloom_growth.proofs.Fresh.{side_of_none}
use Rattle.bloom_growth.proofs.SidesLemmas.{apart}

-- ---- the rows of a set in place

-- a set at a key, and what stands at the others
has_set_at : (key : Row) (more : List Row) (old middle new : BTreeMap Row (List Row)) (next : List Row) → ((other : Row) → rows_found middle other ≡ rows_found old other)
    → ((q : Row) → get record_cmp new q ≡ cond (is_at (record_cmp key) q) (Some next) (get record_cmp middle q)) → next ≡ set_of (rows_found old key ++ more) → HasSet key more old new
has_set_at key more old middle new next stays updates is = (
  ap (λ (o : Option (List Row)). unwrap_or o []) (updates key ∙ ap (λ (b : Bool). cond b (Some next) (get record_cmp middle key)) (same-self key)) ∙ is,
  λ other different.
      ap (λ (o : Option (List Row)). unwrap_or o []) (updates other ∙ ap (λ (b : Bool). cond b (Some next) (get record_cmp middle other)) (apart key other different)) ∙ stays other,
)

-- at a key that has rows
pub set_added : (key : Row) (more : List Row) (old new : BTreeMap Row (List Row)) (set next : List Row) → Some set ≡ get record_cmp old key
    → ((q : Row) → get record_cmp new q ≡ cond (is_at (record_cmp key) q) (Some next) (get record_cmp old q)) → next ≡ set_of (set ++ more) → HasSet key more old new
set_added key more old new set next found updates is =
    has_set_at key more old old new next (λ other. refl) updates (is ∙ ap (λ (o : Option (List Row)). set_of (unwrap_or o [] ++ more)) found)

-- at one that has none, where the set comes back
pub set_first : (key : Row) (set back : List Row) (old middle new : BTreeMap Row (List Row)) → IsRowSet set → AddsSetAt key set old middle (Ok (Some back))
    → ((q : Row) → get record_cmp new q ≡ cond (is_at (record_cmp key) q) (Some back) (get record_cmp middle q)) → HasSet key set old new
set_first key set back old middle new sorted none updates =
    has_set_at key set old middle new back (λ other. ap (λ (entries : List (Row × List Row)). unwrap_or (lookup (is_at (record_cmp other)) entries) []) none.0) updates
    (none.2 ∙ sym (set_of-sorted set sorted) ∙ ap (λ (l : List Row). set_of (l ++ set)) (sym none.1))

-- rows that are too many for the set are so at its key
pub set_refused : (key : Row) (more set new : List Row) (old sets : BTreeMap Row (List Row)) (fault : SetFault) → Some set ≡ get record_cmp old key
    → Becomes {X = Unit {0}} set (set_of (set ++ more)) new (Err fault) → AddsSetAt key more old sets (Err fault)
set_refused key more set new old sets TooManyRows found h = subst (λ (o : Option (List Row)). row_limit < length (set_of (unwrap_or o [] ++ more))) found h.1
set_refused key more set new old sets NoMemory found h = tt

-- ---- the rows at all keys

-- the rows that entries have at a key
abbrev pub rows_left : List (Row × List Row) → Row → List Row
rows_left entries key = unwrap_or (lookup (is_at (record_cmp key)) entries) []

-- a key's rows, with those that are left, are all of these
abbrev pub ComesTo : (sets : BTreeMap Row (List Row)) (left : List (Row × List Row)) (key : Row) (all : List Row) → Type 0
ComesTo sets left key all = IsRowSet (rows_found sets key) × (set_of (rows_found sets key ++ rows_left left key) ≡ all)

-- the later entries are sorted too
pub sorted_rest : (entry : Row × List Row) (rest left : List (Row × List Row)) → left ≡ entry ∷ rest → IsStrictlySortedBy record_cmp (keys_of left) → IsStrictlySortedBy record_cmp (keys_of rest)
unfolding IsStrictlySortedBy
sorted_rest entry rest left is sorted = (subst (λ (l : List (Row × List Row)). IsStrictlySortedBy record_cmp (keys_of l)) is sorted).1

-- the first entry's rows
rows_first : (key : Row) (set : List Row) (rest left : List (Row × List Row)) → left ≡ (key, set) ∷ rest → rows_left left key ≡ set
rows_first key set rest left is =
    ap (λ (l : List (Row × List Row)). rows_left l key) is ∙ ap (λ (o : Option (List Row)). unwrap_or o []) (lookup_head (is_at (record_cmp key)) (key, set) rest (same-self key))

-- no later one has that key
rows_past : (key : Row) (set : List Row) (rest left : List (Row × List Row)) → left ≡ (key, set) ∷ rest → IsStrictlySortedBy record_cmp (keys_of left) → rows_left rest key ≡ []
rows_past key set rest left is sorted =
    let from : IsStrictlySortedBy record_cmp (keys_of ((key, set) ∷ rest)) = subst (λ (l : List (Row × List Row)). IsStrictlySortedBy record_cmp (keys_of l)) is sorted in
    ap (λ (o : Option (List Row)). unwrap_or o []) (
    lookup-none (is_at (record_cmp key)) rest (none_past_head (eq_by_cmp_equiv record_cmp_total) key (key, set) rest (IsDistinct-from_sorted record_cmp (keys_of ((key, set) ∷ rest)) from) (same-self key))
    )

-- at another key it changes nothing
rows_beside : (key q : Row) (set : List Row) (rest left : List (Row × List Row)) → left ≡ (key, set) ∷ rest → ¬ (q ≡ key) → rows_left left q ≡ rows_left rest q
rows_beside key q set rest left is different =
    ap (λ (l : List (Row × List Row)). rows_left l q) is
    ∙ ap (λ (o : Option (List Row)). unwrap_or o []) (lookup_tail (is_at (record_cmp q)) (key, set) rest (apart q key (λ e. different (sym e))))

module _ (key : Row) (set : List Row) (rest left : List (Row × List Row)) (is : left ≡ (key, set) ∷ rest) (sorted : IsStrictlySortedBy record_cmp (keys_of left)) where
  -- one key's rows go in
  pub comes_on : (old new : BTreeMap Row (List Row)) → HasSet key set old new → (q : Row) (all : List Row) → ComesTo old left q all → ComesTo new rest q all
  comes_on old new has q all so_far = by_case (is_at (record_cmp key) q) refl
    where
      here : (k : Row) → key ≡ k → ComesTo old left k all → ComesTo new rest k all
      here k e before =
          let now : rows_found new k ≡ all =
          ap (rows_found new) (sym e) ∙ has.0 ∙ ap (λ (l : List Row). set_of (rows_found old key ++ l)) (sym (rows_first key set rest left is)) ∙ ap (λ (z : Row). set_of (rows_found old z ++ rows_left left z)) e ∙ before.1 in
          let none : rows_left rest k ≡ [] = ap (rows_left rest) (sym e) ∙ rows_past key set rest left is sorted in
          let own : IsRowSet all = subst IsRowSet before.1 (sorted_set_of (rows_found old k ++ rows_left left k)) in (
            subst IsRowSet (sym now) own,
            ap (λ (l : List Row). set_of (rows_found new k ++ l)) none ∙ ap set_of (append-nil (rows_found new k)) ∙ ap set_of now ∙ set_of-sorted all own,
          )

      by_case : (b : Bool) → is_at (record_cmp key) q ≡ b → ComesTo new rest q all
      by_case true e = here q (same_row key q e) so_far
      by_case false e =
          let different : ¬ (q ≡ key) = λ (p : q ≡ key). let tied : is_at (record_cmp key) q ≡ true = subst (λ (z : Row). is_at (record_cmp key) z ≡ true) (sym p) (same-self key) in cc in
          let found = has.1 q different in
          let beside = rows_beside key q set rest left is different in (
            subst IsRowSet (sym found) so_far.0,
            ap (λ (l : List Row). set_of (l ++ rows_left rest q)) found ∙ ap (λ (l : List Row). set_of (rows_found old q ++ l)) (sym beside) ∙ so_far.1,
          )

  -- where they are too many, so they are in the end
  pub comes_over : (first old more new sets : BTreeMap Row (List Row)) (fault : SetFault) → AddsSet {X = Unit {0}} key set old sets (Err fault)
      → ((q : Row) → ComesTo old left q (set_of (rows_found first q ++ rows_found more q))) → Merges {X = Unit {0}} first more new (Err fault)
  comes_over first old more new sets TooManyRows over so_far = λ most within.
      let own = rows_first key set rest left is in
      let same : set_of (rows_found old key ++ set) ≡ set_of (rows_found first key ++ rows_found more key) = ap (λ (l : List Row). set_of (rows_found old key ++ l)) (sym own) ∙ (so_far key).1 in
      omega (arith, over, ap (length {A = Row}) same, within key)
  comes_over first old more new sets NoMemory over so_far = tt

-- when none are left
pub comes_whole : (sets : BTreeMap Row (List Row)) (left : List (Row × List Row)) (q : Row) (all : List Row) → left ≡ [] → ComesTo sets left q all → rows_found sets q ≡ all
comes_whole sets left q all none so_far =
    sym (set_of-sorted (rows_found sets q) so_far.0) ∙ sym (ap set_of (append-nil (rows_found sets q)))
    ∙ ap (λ (l : List (Row × List Row)). set_of (rows_found sets q ++ rows_left l q)) (sym none) ∙ so_far.1

-- ---- the rows of a part

module _ (columns : List ℕ) (rows more : List Row) (sorted : IsRowSet rows) where
  -- a key's rows of both are its rows of all
  with_key_both : (key : Row) → set_of (with_key columns key rows ++ with_key columns key (set_of ([] ++ more))) ≡ with_key columns key (set_of (rows ++ more))
  with_key_both key =
      let test : Row → Bool = λ (r : Row). eq_by_cmp record_cmp (cells columns r) key in
      let ours = with_key columns key rows in
      let come = with_key columns key (set_of more) in
      same_row_sets (set_of (ours ++ come)) (with_key columns key (set_of (rows ++ more))) (sorted_set_of (ours ++ come)) (sorted_filter test (set_of (rows ++ more)) (sorted_set_of (rows ++ more))) (
        λ q h. elim (Has-append_cases q ours come (Has-from_set_of q (ours ++ come) h)) [
          | inl m ↦ let n = Has-from_filter test q rows m in Has-filter test q (set_of (rows ++ more)) (Has-set_of q (rows ++ more) (Has-append_left q rows more n.0)) n.1
          | inr m ↦ let n = Has-from_filter test q (set_of more) m in Has-filter test q (set_of (rows ++ more)) (Has-set_of q (rows ++ more) (Has-append_right q rows more (Has-from_set_of q more n.0))) n.1
        ],
        λ q h.
            let n = Has-from_filter test q (set_of (rows ++ more)) h in
            Has-set_of q (ours ++ come) (elim (Has-append_cases q rows more (Has-from_set_of q (rows ++ more) n.0)) [
              | inl m ↦ Has-append_left q ours come (Has-filter test q rows m n.1)
              | inr m ↦ Has-append_right q ours come (Has-filter test q (set_of more) (Has-set_of q more m) n.1)
            ]),
      )

  -- and no more than these
  length_of_key : (key : Row) → length (with_key columns key (set_of (rows ++ more))) ≤ length (set_of (rows ++ more))
  length_of_key key =
      let test : Row → Bool = λ (r : Row). eq_by_cmp record_cmp (cells columns r) key in
      length-within (with_key columns key (set_of (rows ++ more))) (set_of (rows ++ more)) (sorted_filter test (set_of (rows ++ more)) (sorted_set_of (rows ++ more)))
      (λ q h. (Has-from_filter test q (set_of (rows ++ more)) h).0)

  -- a side of rows has row sets
  pub side_sets : (all : List Row) (sets : BTreeMap Row (List Row)) → IsRowSet all → AreByKey columns all sets → HaveRowSets sets
  side_sets all sets own side key = subst IsRowSet (sym (side key)) (sorted_filter (λ (r : Row). eq_by_cmp record_cmp (cells columns r) key) all own)

  module _ (old come new : BTreeMap Row (List Row)) (side : AreByKey columns rows old) (coming : AreByKey columns (set_of ([] ++ more)) come) where
    key_both : (key : Row) → set_of (rows_found old key ++ rows_found come key) ≡ with_key columns key (set_of (rows ++ more))
    key_both key = ap (λ (l : List Row). set_of (l ++ rows_found come key)) (side key) ∙ ap (λ (l : List Row). set_of (with_key columns key rows ++ l)) (coming key) ∙ with_key_both key

    -- the merged side is that of all rows
    pub side_merged : (r : Result (Unit {0}) SetFault) → (HaveRowSets old → Merges old come new r) → MakesByKey columns (set_of (rows ++ more)) new r
    side_merged r merges = by_result r (merges (side_sets rows old sorted side))
      where
        by_result : (r : Result (Unit {0}) SetFault) → Merges old come new r → MakesByKey columns (set_of (rows ++ more)) new r
        by_result (Ok x) all = λ key. all key ∙ key_both key
        by_result (Err TooManyRows) over = over (length (set_of (rows ++ more))) (λ key. omega (arith, ap (length {A = Row}) (key_both key), length_of_key key))
        by_result (Err NoMemory) h = tt

  -- rows that are too many by themselves
  pub side_flooded : (come new : BTreeMap Row (List Row)) (fault : SetFault) → MakesByKey {X = Unit {0}} columns (set_of ([] ++ more)) come (Err fault) → MakesByKey {X = Unit {0}} columns (set_of (rows ++ more)) new (Err fault)
  side_flooded come new TooManyRows over = omega (arith, over, length-set_of-append_right rows more)
  side_flooded come new NoMemory h = tt

-- what a new side gets is all that it has
pub side_begun : (columns own : List ℕ) (more : List Row) (come : Side) (sets : BTreeMap Row (List Row)) (r : Result (Unit {0}) SetFault) → own ≡ columns → IsFreshSide own come
    → ((rows : List Row) → IsRowSet rows → AreByKey come.columns.items rows come.sets → MakesByKey come.columns.items (set_of (rows ++ more)) sets r) → MakesByKey columns (set_of ([] ++ more)) sets r
side_begun columns own more come sets r same fresh makes =
    subst (λ (cs : List ℕ). MakesByKey cs (set_of ([] ++ more)) sets r) (fresh.columns_are ∙ same)
    (makes [] (sorted_set_of []) (side_of_none come.columns.items come [] (record { columns_are = refl; none = fresh.none }) refl))
