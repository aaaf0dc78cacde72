-- The rows of a group and of an atleast where rows of the part come and go: only keys that are touched change.
use Rattle.std.proofs.Common.{◌≡◌, ◌⊎◌, ℕ, ◌+◌, ◌<◌, ◌≤◌, Bool, true, false, cond, Option, Some, List, [], ◌∷◌, ◌++◌, length, map, filter, take, drop, get_or, take-append-drop, length-drop, Result, Ok, Err, refl, ap, ◌∙◌, sym, subst, inl, inr, arith, append_assoc}
use Rattle.std.proofs.lemmas.List.{length-map, drop_more}
use Rattle.std.specs.Prelude.{nat_le, ◌&&◌}
use Rattle.indexmap.specs.IndexMap.{IndexMap}
use Rattle.std.specs.List.Sorted.{IsStrictlySortedBy}
use Rattle.std.specs.Ordering.{eq_by_cmp}
use Rattle.blz_value.specs.declared.aggregate.Agg.{Agg}
use Rattle.blz_value.specs.declared.hash_key.HashKey.{HashKey}
use Rattle.blz_value.specs.declared.value.Value.{Value}
use Rattle.blz_value.specs.Groups.{aggregate, with_key, group_rows, at_least_rows}
use Rattle.blz_value.specs.Members.{Has}
use Rattle.blz_value.specs.Operators.{cells, project_rows}
use Rattle.blz_value.specs.Record.{Row, record_cmp}
use Rattle.blz_value.specs.RecordOrder.{record_cmp_total}
use Rattle.blz_value.specs.Sets.{set_of, IsRowSet}
use Rattle.blz_value.proofs.Membership.{Has-append_left, Has-append_right, Has-append_cases, Has-map, Has-from_map, Has-filter, Has-from_filter, Has-get_or}
use Rattle.blz_value.proofs.OperatorsLemmas.{from_group, in_group, from_at_least, in_at_least, length-within, same_with_key}
use Rattle.blz_value.proofs.RowSets.{same_set_of, length-set_of-le, length-set_of-append_left}
use Rattle.blz_value.proofs.SetLaws.{sorted_set_of, Has-set_of, Has-from_set_of}
use Rattle.blz_value.proofs.SetLemmas.{below_not_in}
use Rattle.blz_value.proofs.Lists.{same-self as own_key}
use Rattle.blz_set.specs.Answers.{Gives}
use Rattle.blz_set.specs.Missing.{has_row, missing_from}
use Rattle.blz_set.specs.RecordSet.{row_limit}
use Rattle.blz_set.specs.declared.fault.SetFault.{SetFault}
use Rattle.blz_set.specs.declared.fault.SetFault.TheVariants.{TooManyRows, NoMemory}
use Rattle.blz_set.proofs.RecordSets.{Has-from_has_row, has_row-from_Has, has_row-from_lacks, length-filter-le}
use Rattle.blz_set.proofs.Runs.{same_row}
use Rattle.bloom_growth.specs.declared.tallies.Step.{Step}
use Rattle.bloom_growth.specs.declared.tally.Tally.{Tally}
use Rattle.bloom_growth.specs.declared.turn.Turn.{Turn}
use Rattle.bloom_growth.specs.declared.turning_groups.TurningGroups.{TurningGroups}
use Rattle.bloom_growth.specs.Turned.{Turned, TurnsInto}
use Rattle.bloom_growth.specs.Code.Aggregates.{grouped, rows_of}
use Rattle.bloom_growth.specs.Code.Tallies.{GoesOn, IsStep, value_of}
use Rattle.bloom_growth.specs.TurningGroups.{AreTallied, TalliesStand, GroupsTurn}
use Rattle.bloom_growth.proofs.GrowSets.{set_more, missing_sorted, not_before}
use Rattle.bloom_growth.proofs.AggregateLemmas.{length_more}
use Rattle.bloom_growth.proofs.TurnedLemmas.{is_missing, in_missing, from_missing, held_or_not, came, comes, goes, stays, only_all, only_lacks}
use Rattle.bloom_growth.proofs.TurningLemmas.{some_value, tallied_more}

-- ---- rows one by one

module _ (rows more : List Row) (i : ℕ) (row : Row) (set : IsRowSet more) (few : length (set_of (rows ++ more)) ≤ row_limit) (apart : (q : Row) → Has q more → ¬ Has q rows) (lt : i < length more) (is : row ≡ get_or more i row) where
  -- a further row of some that are new is new
  pub is_new : ¬ Has row (set_of (rows ++ take i more))
  is_new h = elim (Has-append_cases row rows (take i more) (Has-from_set_of row (rows ++ take i more) h)) [
    | inl a ↦ apart row (subst (λ (r : Row). Has r more) (sym is) (Has-get_or more i row lt)) a
    | inr b ↦ not_before more i row set lt is b
  ]

  pub has_room : length (set_of (rows ++ take i more)) < row_limit
  has_room =
      let one = length_more row (set_of (rows ++ take i more)) (sorted_set_of (rows ++ take i more)) is_new in
      let next = ap (length {A = Row}) (set_more rows more i row row lt is refl) in
      let whole = ap (λ (l : List Row). length (set_of l)) (append_assoc rows (take (i + 1) more) (drop (i + 1) more) ∙ ap (λ (l : List Row). rows ++ l) (take-append-drop (i + 1) more)) in
      omega (arith, one, next, whole, few, length-set_of-append_left (rows ++ take (i + 1) more) (drop (i + 1) more))

-- aggregates by keys that are equal
pub tallied_as : {S : Type 0} (columns own : List ℕ) (agg by : Agg) (rows : List Row) (m : IndexMap Row Tally S) → own ≡ columns → by ≡ agg → AreTallied own by rows m → AreTallied columns agg rows m
tallied_as columns own agg by rows m same kind are = subst (λ (cs : List ℕ). AreTallied cs agg rows m) same (subst (λ (a : Agg). AreTallied own a rows m) kind are)

-- one row more of a list
pub tallied_at : {S : Type 0} (columns own : List ℕ) (agg by : Agg) (rows more : List Row) (old new : IndexMap Row Tally S) (i : ℕ) (row : Row) → own ≡ columns → by ≡ agg → IsRowSet more → length (set_of (rows ++ more)) ≤ row_limit → ((q : Row) → Has q more → ¬ Has q rows)
    → i < length more → row ≡ get_or more i row → AreTallied columns agg (set_of (rows ++ take i more)) old
    → ((all : List Row) → IsRowSet all → length all < row_limit → ¬ Has row all → AreTallied own by all old → AreTallied own by (set_of (row ∷ all)) new)
    → AreTallied columns agg (set_of (rows ++ take (i + 1) more)) new
tallied_at columns own agg by rows more old new i row same kind set few apart lt is are step =
    let all = set_of (rows ++ take i more) in
    subst (λ (l : List Row). AreTallied columns agg l new) (set_more rows more i row row lt is refl)
    (tallied_as columns own agg by (set_of (row ∷ all)) new same kind
    (step all (sorted_set_of (rows ++ take i more)) (has_room rows more i row set few apart lt is) (is_new rows more i row set few apart lt is)
    (tallied_as own columns by agg all old (sym same) (sym kind) are)))

sorted_apart : (front : List Row) (row : Row) (back : List Row) → IsRowSet (front ++ row ∷ back) → ¬ Has row back
unfolding IsStrictlySortedBy
sorted_apart [] row back sorted h = below_not_in record_cmp record_cmp_total row back sorted.0 h
sorted_apart (x ∷ front) row back sorted h = sorted_apart front row back sorted.1 h

module _ (rows gone : List Row) (i : ℕ) (row : Row) (set : IsRowSet gone) (few : length (set_of (rows ++ gone)) ≤ row_limit) (apart : (q : Row) → Has q gone → ¬ Has q rows) (lt : i < length gone) (is : row ≡ get_or gone i row) where
  here : drop i gone ≡ row ∷ drop (i + 1) gone
  here = drop_more gone i row lt ∙ ap (λ (r : Row). r ∷ drop (i + 1) gone) (sym is)

  -- the rows with one less
  rest_lacks : ¬ Has row (set_of (rows ++ drop (i + 1) gone))
  rest_lacks h = elim (Has-append_cases row rows (drop (i + 1) gone) (Has-from_set_of row (rows ++ drop (i + 1) gone) h)) [
    | inl a ↦ apart row (subst (λ (r : Row). Has r gone) (sym is) (Has-get_or gone i row lt)) a
    | inr b ↦ sorted_apart (take i gone) row (drop (i + 1) gone) (subst IsRowSet (sym (take-append-drop i gone) ∙ ap (λ (l : List Row). take i gone ++ l) here) set) b
  ]

  one_more : set_of (row ∷ set_of (rows ++ drop (i + 1) gone)) ≡ set_of (rows ++ drop i gone)
  one_more =
      let back = drop (i + 1) gone in
      let rest = set_of (rows ++ back) in
      same_set_of (row ∷ rest) (rows ++ drop i gone) (
        λ q h. elim h [
          | inl e ↦ Has-append_right q rows (drop i gone) (subst (λ (l : List Row). Has q l) (sym here) (inl e))
          | inr m ↦ elim (Has-append_cases q rows back (Has-from_set_of q (rows ++ back) m)) [
            | inl a ↦ Has-append_left q rows (drop i gone) a
            | inr b ↦ Has-append_right q rows (drop i gone) (subst (λ (l : List Row). Has q l) (sym here) (inr b))
          ]
        ],
        λ q h. elim (Has-append_cases q rows (drop i gone) h) [
          | inl a ↦ inr (Has-set_of q (rows ++ back) (Has-append_left q rows back a))
          | inr b ↦ elim (back_has q (subst (λ (l : List Row). Has q l) here b)) [
            | inl e ↦ inl e
            | inr m ↦ inr (Has-set_of q (rows ++ back) (Has-append_right q rows back m))
          ]
        ],
      )
    where
      back_has : (q : Row) → Has q (row ∷ drop (i + 1) gone) → (row ≡ q) ⊎ Has q (drop (i + 1) gone)
      back_has q h = h

  rest_few : length (set_of (rows ++ drop (i + 1) gone)) < row_limit
  rest_few =
      let rest = set_of (rows ++ drop (i + 1) gone) in
      let more = length_more row rest (sorted_set_of (rows ++ drop (i + 1) gone)) rest_lacks in
      let within = length-within (set_of (rows ++ drop i gone)) (set_of (rows ++ gone)) (sorted_set_of (rows ++ drop i gone)) (
      λ q h. Has-set_of q (rows ++ gone) (elim (Has-append_cases q rows (drop i gone) (Has-from_set_of q (rows ++ drop i gone) h)) [
        | inl a ↦ Has-append_left q rows gone a
        | inr b ↦ Has-append_right q rows gone (subst (λ (l : List Row). Has q l) (take-append-drop i gone) (Has-append_right q (take i gone) (drop i gone) b))
      ])
      ) in
      omega (arith, more, ap (length {A = Row}) one_more, within, few)

  -- one row less of a list
  pub tallied_off : {S : Type 0} (columns own : List ℕ) (agg by : Agg) (old new : IndexMap Row Tally S) → own ≡ columns → by ≡ agg → AreTallied columns agg (set_of (rows ++ drop i gone)) old
      → ((all : List Row) → IsRowSet all → length all < row_limit → ¬ Has row all → AreTallied own by (set_of (row ∷ all)) old → AreTallied own by all new)
      → AreTallied columns agg (set_of (rows ++ drop (i + 1) gone)) new
  tallied_off columns own agg by old new same kind are step =
      let all = set_of (rows ++ drop (i + 1) gone) in
      tallied_as columns own agg by all new same kind
      (step all (sorted_set_of (rows ++ drop (i + 1) gone)) rest_few rest_lacks
      (tallied_as own columns by agg (set_of (row ∷ all)) old (sym same) (sym kind) (subst (λ (l : List Row). AreTallied columns agg l old) (sym one_more) are)))

pub dropped : (xs : List Row) (i : ℕ) → length xs ≤ i → drop i xs ≡ []
dropped xs i le = none (drop i xs) (omega (arith, length-drop i xs))
  where
    none : (ys : List Row) → length ys ≡ 0 → ys ≡ []
    none [] e = refl
    none (y ∷ ys) e = absurd (omega (arith, e))

-- the aggregates once rows went and others came
pub turned_stand : (keys : List ℕ) (agg : Agg) (old new more gone : List Row) (before middle after : TurningGroups) → GroupsTurn keys agg old new more gone before
    → middle.keys ≡ before.keys → middle.agg ≡ before.agg → after.keys ≡ middle.keys → after.agg ≡ middle.agg
    → ((rows : List Row) → IsRowSet rows → length (set_of (rows ++ gone)) ≤ row_limit → ((row : Row) → Has row gone → ¬ Has row rows) → AreTallied before.keys.items before.agg (set_of (rows ++ gone)) before.tallies → AreTallied before.keys.items before.agg rows middle.tallies)
    → ((rows : List Row) → IsRowSet rows → length (set_of (rows ++ more)) ≤ row_limit → ((row : Row) → Has row more → ¬ Has row rows) → AreTallied middle.keys.items middle.agg rows middle.tallies → AreTallied middle.keys.items middle.agg (set_of (rows ++ more)) after.tallies)
    → TalliesStand keys agg new after
turned_stand keys agg old new more gone before middle after g k1 a1 k2 a2 took came =
    let kept = stays old new more gone g.turned in
    let mid = missing_from gone old in
    let own = ap (λ v. v.items) k1 in
    let middle_keys : middle.keys.items ≡ keys = own ∙ g.stand.keys_are in
    let middle_agg : middle.agg ≡ agg = a1 ∙ g.stand.agg_is in
    let first = took mid kept.0.sorted (subst (λ (l : List Row). length l ≤ row_limit) kept.0.all g.few_old) kept.0.apart
    (tallied_as before.keys.items keys before.agg agg (set_of (mid ++ gone)) before.tallies (sym g.stand.keys_are) (sym g.stand.agg_is) (subst (λ (l : List Row). AreTallied keys agg l before.tallies) kept.0.all g.stand.tallied)) in
    let second = came mid kept.1.sorted (subst (λ (l : List Row). length l ≤ row_limit) kept.1.all g.few_new) kept.1.apart
    (tallied_as middle.keys.items before.keys.items middle.agg before.agg mid middle.tallies (sym own) (sym a1) first) in
    record {
      keys_are = ap (λ v. v.items) k2 ∙ middle_keys;
      agg_is = a2 ∙ middle_agg;
      tallied = subst (λ (l : List Row). AreTallied keys agg l after.tallies) (sym kept.1.all) (tallied_as keys middle.keys.items agg middle.agg (set_of (mid ++ more)) after.tallies middle_keys middle_agg second);
    }

-- ---- keys that occur

some_has : (run : List Row) → 0 < length run → (q : Row) × Has q run
some_has [] some = absurd (omega arith)
some_has (q ∷ run) some = (q, inl refl)

module _ (columns : List ℕ) (rows : List Row) (key : Row) where
  pub some_occurs : 0 < length (with_key columns key rows) → has_row (project_rows columns rows) key ≡ true
  some_occurs some =
      let m = some_has (with_key columns key rows) some in
      let n = Has-from_filter (λ (r : Row). eq_by_cmp record_cmp (cells columns r) key) m.0 rows m.1 in
      has_row-from_Has (project_rows columns rows) key (subst (λ (k : Row). Has k (project_rows columns rows)) (same_row (cells columns m.0) key n.1) (Has-map (cells columns) m.0 rows n.0))

  pub none_occurs : with_key columns key rows ≡ [] → has_row (project_rows columns rows) key ≡ false
  none_occurs none = has_row-from_lacks (project_rows columns rows) key (λ h.
      let s = Has-from_map (cells columns) key rows h in
      let found : Has s.0 (with_key columns key rows) = Has-filter (λ (r : Row). eq_by_cmp record_cmp (cells columns r) key) s.0 rows s.1 (subst (λ (k : Row). eq_by_cmp record_cmp k key ≡ true) (sym s.2) (own_key key)) in
      subst (λ (l : List Row). Has s.0 l) none found)

-- ---- a turn of part of the rows

module _ (old new before after : List Row) (P : Row → Type 0) (decide : (q : Row) → P q ⊎ (¬ P q)) (old_sorted : IsRowSet old) (new_sorted : IsRowSet new)
    (before_old : (q : Row) → Has q before → Has q old × P q) (old_before : (q : Row) → Has q old → P q → Has q before)
    (after_new : (q : Row) → Has q after → Has q new × P q) (new_after : (q : Row) → Has q new → P q → Has q after)
    (kept : (q : Row) → ¬ P q → Has q old → Has q new) (kept_back : (q : Row) → ¬ P q → Has q new → Has q old) where
  pub turned_part : (more gone : List Row) → Turned before after more gone → Turned old new more gone
  turned_part more gone t = record {
    old_sorted = old_sorted;
    new_sorted = new_sorted;
    more_is = t.more_is ∙ is_missing old new (missing_from before after) new_sorted (missing_sorted before after t.new_sorted)
        (λ q h. let m = from_missing before after q h in let a = after_new q m.0 in (a.0, λ held. m.1 (old_before q held a.1)))
        (λ q h lacks. elim (decide q) [
          | inl p ↦ in_missing before after q (new_after q h p) (λ b. lacks (before_old q b).0)
          | inr n ↦ absurd (lacks (kept_back q n h))
        ]);
    gone_is = t.gone_is ∙ is_missing new old (missing_from after before) old_sorted (missing_sorted after before t.old_sorted)
        (λ q h. let m = from_missing after before q h in let b = before_old q m.0 in (b.0, λ held. m.1 (new_after q held b.1)))
        (λ q h lacks. elim (decide q) [
          | inl p ↦ in_missing after before q (old_before q h p) (λ a. lacks (after_new q a).0)
          | inr n ↦ absurd (lacks (kept q n h))
        ]);
  }

  pub turns_part : (r : Result Turn SetFault) → IsRowSet after → length new ≤ row_limit → TurnsInto before after r → TurnsInto old new r
  turns_part (Ok turn) sorted few h = (turned_part turn.more turn.gone h.0, few)
  turns_part (Err TooManyRows) sorted few h = omega (arith, h, length-within after new sorted (λ q m. (after_new q m).0))
  turns_part (Err NoMemory) sorted few h = tt

-- ---- which keys are touched

-- a row without its last value
front : Row → Row
front [] = []
front (x ∷ []) = []
front (x ∷ y ∷ row) = x ∷ front (y ∷ row)

front_is : (key : Row) (value : Value) → front (key ++ value ∷ []) ≡ key
unfolding front
front_is [] value = refl
front_is (x ∷ []) value = refl
front_is (x ∷ y ∷ key) value = ap (λ (l : Row). x ∷ l) (front_is (y ∷ key) value)

module _ (keys : List ℕ) (old new more gone : List Row) (t : Turned old new more gone) (touched : List Row) (is : touched ≡ set_of (project_rows keys gone ++ project_rows keys more)) where
  touches_gone : (row : Row) → Has row gone → Has (cells keys row) touched
  touches_gone row h = subst (λ (l : List Row). Has (cells keys row) l) (sym is) (Has-set_of (cells keys row) (project_rows keys gone ++ project_rows keys more) (Has-append_left (cells keys row) (project_rows keys gone) (project_rows keys more) (Has-map (cells keys) row gone h)))

  touches_more : (row : Row) → Has row more → Has (cells keys row) touched
  touches_more row h = subst (λ (l : List Row). Has (cells keys row) l) (sym is) (Has-set_of (cells keys row) (project_rows keys gone ++ project_rows keys more) (Has-append_right (cells keys row) (project_rows keys gone) (project_rows keys more) (Has-map (cells keys) row more h)))

  -- a row whose key isn't touched stays
  stays_old : (row : Row) → ¬ Has (cells keys row) touched → Has row old → Has row new
  stays_old row apart h = elim (held_or_not new row) [ inl m ↦ m | inr n ↦ absurd (apart (touches_gone row (goes old new more gone t row h n))) ]

  stays_new : (row : Row) → ¬ Has (cells keys row) touched → Has row new → Has row old
  stays_new row apart h = elim (held_or_not old row) [ inl m ↦ m | inr n ↦ absurd (apart (touches_more row (comes old new more gone t row h n))) ]

  -- a key that isn't touched has the same rows
  untouched : (key : Row) → ¬ Has key touched → with_key keys key old ≡ with_key keys key new
  untouched key apart =
      let passes : Row → Bool = λ (r : Row). eq_by_cmp record_cmp (cells keys r) key in
      same_with_key keys key old new t.old_sorted t.new_sorted (
        λ r h. let n = Has-from_filter passes r old h in Has-filter passes r new (stays_old r (λ m. apart (subst (λ (k : Row). Has k touched) (same_row (cells keys r) key n.1) m)) n.0) n.1,
        λ r h. let n = Has-from_filter passes r new h in Has-filter passes r old (stays_new r (λ m. apart (subst (λ (k : Row). Has k touched) (same_row (cells keys r) key n.1) m)) n.0) n.1,
      )

  -- ---- group

  module _ (agg : Agg) where
    group_within : (rows : List Row) (q : Row) → Has q (set_of (map (grouped keys agg rows) (filter (has_row (project_rows keys rows)) touched))) → Has q (set_of (group_rows keys agg rows)) × Has (front q) touched
    group_within rows q h =
        let keyed = filter (has_row (project_rows keys rows)) touched in
        let m = Has-from_map (grouped keys agg rows) q keyed (Has-from_set_of q (map (grouped keys agg rows) keyed) h) in
        let n = Has-from_filter (has_row (project_rows keys rows)) m.0 touched m.1 in
        let s = Has-from_map (cells keys) m.0 rows (Has-from_has_row (project_rows keys rows) m.0 n.1) in (
          in_group keys agg rows q (record { source = s.0; stands = s.1; is = ap (grouped keys agg rows) s.2 ∙ m.2 }),
          subst (λ (k : Row). Has k touched) (sym (front_is m.0 (aggregate agg (with_key keys m.0 rows))) ∙ ap front m.2) n.0,
        )

    within_group : (rows : List Row) (q : Row) → Has q (set_of (group_rows keys agg rows)) → Has (front q) touched → Has q (set_of (map (grouped keys agg rows) (filter (has_row (project_rows keys rows)) touched)))
    within_group rows q h at =
        let keyed = filter (has_row (project_rows keys rows)) touched in
        let g = from_group keys agg rows q h in
        let key = cells keys g.source in
        let is_key : front q ≡ key = ap front (sym g.is) ∙ front_is key (aggregate agg (with_key keys key rows)) in
        let occurs : has_row (project_rows keys rows) key ≡ true = has_row-from_Has (project_rows keys rows) key (Has-map (cells keys) g.source rows g.stands) in
        Has-set_of q (map (grouped keys agg rows) keyed) (subst (λ (r : Row). Has r (map (grouped keys agg rows) keyed)) g.is (Has-map (grouped keys agg rows) key keyed (Has-filter (has_row (project_rows keys rows)) key touched (subst (λ (k : Row). Has k touched) is_key at) occurs)))

    group_kept : (xs ys : List Row) → ((row : Row) → ¬ Has (cells keys row) touched → Has row xs → Has row ys) → ((key : Row) → ¬ Has key touched → with_key keys key xs ≡ with_key keys key ys)
        → (q : Row) → ¬ Has (front q) touched → Has q (set_of (group_rows keys agg xs)) → Has q (set_of (group_rows keys agg ys))
    group_kept xs ys moves same q apart h =
        let g = from_group keys agg xs q h in
        let key = cells keys g.source in
        let is_key : front q ≡ key = ap front (sym g.is) ∙ front_is key (aggregate agg (with_key keys key xs)) in
        let lacks : ¬ Has key touched = λ m. apart (subst (λ (k : Row). Has k touched) (sym is_key) m) in
        in_group keys agg ys q (record {
          source = g.source;
          stands = moves g.source lacks g.stands;
          is = ap (λ (l : List Row). key ++ aggregate agg l ∷ []) (sym (same key lacks)) ∙ g.is;
        })

    -- what changes of the rows of touched keys is what changes of all
    pub group_turns : (r : Result Turn SetFault) → length new ≤ row_limit
        → TurnsInto (set_of (map (grouped keys agg old) (filter (has_row (project_rows keys old)) touched))) (set_of (map (grouped keys agg new) (filter (has_row (project_rows keys new)) touched))) r
        → TurnsInto (set_of (group_rows keys agg old)) (set_of (group_rows keys agg new)) r
    group_turns r few h =
        let before = set_of (map (grouped keys agg old) (filter (has_row (project_rows keys old)) touched)) in
        let after = set_of (map (grouped keys agg new) (filter (has_row (project_rows keys new)) touched)) in
        turns_part (set_of (group_rows keys agg old)) (set_of (group_rows keys agg new)) before after (λ q. Has (front q) touched) (λ q. held_or_not touched (front q))
        (sorted_set_of (group_rows keys agg old)) (sorted_set_of (group_rows keys agg new))
        (group_within old) (within_group old) (group_within new) (within_group new)
        (group_kept old new stays_old untouched) (group_kept new old stays_new (λ key apart. sym (untouched key apart)))
        r (sorted_set_of (map (grouped keys agg new) (filter (has_row (project_rows keys new)) touched))) (few_group new few) h
      where
        few_group : (rows : List Row) → length rows ≤ row_limit → length (set_of (group_rows keys agg rows)) ≤ row_limit
        few_group rows small = omega (arith, small, length-set_of-le (group_rows keys agg rows), length-map (project_rows keys rows) (grouped keys agg rows), length-map rows (cells keys))

    -- and these rows are never too many
    pub group_no_fault : (rows : List Row) → length rows ≤ row_limit → length (set_of (map (grouped keys agg rows) (filter (has_row (project_rows keys rows)) touched))) ≤ row_limit
    group_no_fault rows small =
        let part = set_of (map (grouped keys agg rows) (filter (has_row (project_rows keys rows)) touched)) in
        let within = length-within part (set_of (group_rows keys agg rows)) (sorted_set_of (map (grouped keys agg rows) (filter (has_row (project_rows keys rows)) touched))) (λ q h. (group_within rows q h).0) in
        omega (arith, small, within, length-set_of-le (group_rows keys agg rows), length-map (project_rows keys rows) (grouped keys agg rows), length-map rows (cells keys))

  -- ---- atleast

  module _ (bound : ℕ) where
    often_within : (rows : List Row) (q : Row) → Has q (set_of (filter (λ key. has_row (project_rows keys rows) key && nat_le bound (length (with_key keys key rows))) touched)) → Has q (set_of (at_least_rows keys bound rows)) × Has q touched
    often_within rows q h =
        let passes : Row → Bool = λ (key : Row). has_row (project_rows keys rows) key && nat_le bound (length (with_key keys key rows)) in
        let m = Has-from_filter passes q touched (Has-from_set_of q (filter passes touched) h) in
        let b = both (has_row (project_rows keys rows) q) (nat_le bound (length (with_key keys q rows))) m.1 in
        let s = Has-from_map (cells keys) q rows (Has-from_has_row (project_rows keys rows) q b.0) in
        (in_at_least keys bound rows q (record { source = s.0; stands = s.1; is = s.2; enough = b.1 }), m.0)
      where
        both : (a b : Bool) → (a && b) ≡ true → (a ≡ true) × (b ≡ true)
        both true b h = (refl, h)
        both false b h = cc

    within_often : (rows : List Row) (q : Row) → Has q (set_of (at_least_rows keys bound rows)) → Has q touched → Has q (set_of (filter (λ key. has_row (project_rows keys rows) key && nat_le bound (length (with_key keys key rows))) touched))
    within_often rows q h at =
        let passes : Row → Bool = λ (key : Row). has_row (project_rows keys rows) key && nat_le bound (length (with_key keys key rows)) in
        let o = from_at_least keys bound rows q h in
        let occurs : has_row (project_rows keys rows) q ≡ true = has_row-from_Has (project_rows keys rows) q (subst (λ (k : Row). Has k (project_rows keys rows)) o.is (Has-map (cells keys) o.source rows o.stands)) in
        Has-set_of q (filter passes touched) (Has-filter passes q touched at (ap (λ (b : Bool). b && nat_le bound (length (with_key keys q rows))) occurs ∙ o.enough))

    often_kept : (xs ys : List Row) → ((row : Row) → ¬ Has (cells keys row) touched → Has row xs → Has row ys) → ((key : Row) → ¬ Has key touched → with_key keys key xs ≡ with_key keys key ys)
        → (q : Row) → ¬ Has q touched → Has q (set_of (at_least_rows keys bound xs)) → Has q (set_of (at_least_rows keys bound ys))
    often_kept xs ys moves same q apart h =
        let o = from_at_least keys bound xs q h in
        in_at_least keys bound ys q (record {
          source = o.source;
          stands = moves o.source (λ m. apart (subst (λ (k : Row). Has k touched) o.is m)) o.stands;
          is = o.is;
          enough = ap (λ (l : List Row). nat_le bound (length l)) (sym (same q apart)) ∙ o.enough;
        })

    few_often : (rows : List Row) → length rows ≤ row_limit → length (set_of (at_least_rows keys bound rows)) ≤ row_limit
    few_often rows small =
        omega (arith, small, length-set_of-le (at_least_rows keys bound rows), length-filter-le (λ key. nat_le bound (length (with_key keys key rows))) (project_rows keys rows), length-map rows (cells keys))

    pub often_turns : (r : Result Turn SetFault) → length new ≤ row_limit
        → TurnsInto (set_of (filter (λ key. has_row (project_rows keys old) key && nat_le bound (length (with_key keys key old))) touched)) (set_of (filter (λ key. has_row (project_rows keys new) key && nat_le bound (length (with_key keys key new))) touched)) r
        → TurnsInto (set_of (at_least_rows keys bound old)) (set_of (at_least_rows keys bound new)) r
    often_turns r few h =
        let before = set_of (filter (λ key. has_row (project_rows keys old) key && nat_le bound (length (with_key keys key old))) touched) in
        let after = set_of (filter (λ key. has_row (project_rows keys new) key && nat_le bound (length (with_key keys key new))) touched) in
        turns_part (set_of (at_least_rows keys bound old)) (set_of (at_least_rows keys bound new)) before after (λ q. Has q touched) (λ q. held_or_not touched q)
        (sorted_set_of (at_least_rows keys bound old)) (sorted_set_of (at_least_rows keys bound new))
        (often_within old) (within_often old) (often_within new) (within_often new)
        (often_kept old new stays_old untouched) (often_kept new old stays_new (λ key apart. sym (untouched key apart)))
        r (sorted_set_of (filter (λ key. has_row (project_rows keys new) key && nat_le bound (length (with_key keys key new))) touched)) (few_often new few) h

    pub often_no_fault : (rows : List Row) → length rows ≤ row_limit → length (set_of (filter (λ key. has_row (project_rows keys rows) key && nat_le bound (length (with_key keys key rows))) touched)) ≤ row_limit
    often_no_fault rows small =
        let part = set_of (filter (λ key. has_row (project_rows keys rows) key && nat_le bound (length (with_key keys key rows))) touched) in
        let within = length-within part (set_of (at_least_rows keys bound rows)) (sorted_set_of (filter (λ key. has_row (project_rows keys rows) key && nat_le bound (length (with_key keys key rows))) touched)) (λ q h. (often_within rows q h).0) in
        omega (arith, within, few_often rows small)

-- ---- answers at keys that are equal

pub group_as : (keys own : List ℕ) (agg by : Agg) (rows touched : List Row) (r : Result (List Row) SetFault) → own ≡ keys → by ≡ agg
    → Gives (set_of (map (grouped own by rows) (filter (has_row (project_rows own rows)) touched))) r → Gives (set_of (map (grouped keys agg rows) (filter (has_row (project_rows keys rows)) touched))) r
group_as keys own agg by rows touched r same kind h =
    subst (λ (cs : List ℕ). Gives (set_of (map (grouped cs agg rows) (filter (has_row (project_rows cs rows)) touched))) r) same
    (subst (λ (a : Agg). Gives (set_of (map (grouped own a rows) (filter (has_row (project_rows own rows)) touched))) r) kind h)

pub often_as : (keys own : List ℕ) (bound : ℕ) (rows touched : List Row) (r : Result (List Row) SetFault) → own ≡ keys
    → Gives (set_of (filter (λ key. has_row (project_rows own rows) key && nat_le bound (length (with_key own key rows))) touched)) r
    → Gives (set_of (filter (λ key. has_row (project_rows keys rows) key && nat_le bound (length (with_key keys key rows))) touched)) r
often_as keys own bound rows touched r same h =
    subst (λ (cs : List ℕ). Gives (set_of (filter (λ key. has_row (project_rows cs rows) key && nat_le bound (length (with_key cs key rows))) touched)) r) same h

-- the keys that are touched
pub touched_as : (keys own : List ℕ) (gone more touched : List Row) → own ≡ keys → touched ≡ set_of (project_rows own gone ++ project_rows own more) → touched ≡ set_of (project_rows keys gone ++ project_rows keys more)
touched_as keys own gone more touched same is = is ∙ ap (λ (cs : List ℕ). set_of (project_rows cs gone ++ project_rows cs more)) same

-- the aggregates by a value's own keys
pub own_tallied : (keys : List ℕ) (agg : Agg) (rows : List Row) (groups : TurningGroups) → TalliesStand keys agg rows groups → AreTallied groups.keys.items groups.agg rows groups.tallies
own_tallied keys agg rows groups stand = tallied_as groups.keys.items keys groups.agg agg rows groups.tallies (sym stand.keys_are) (sym stand.agg_is) stand.tallied

-- ---- a turn of one row

-- the row that a key has, where it has one
single : (keys : List ℕ) (agg : Agg) (rows : List Row) (key : Row) (value : Option Value) → value ≡ value_of agg (with_key keys key rows)
    → rows_of key value ≡ set_of (map (grouped keys agg rows) (filter (has_row (project_rows keys rows)) (key ∷ [])))
single keys agg rows key value is = ap (rows_of key) is ∙ by_run (with_key keys key rows) refl
  where
    by_run : (run : List Row) → with_key keys key rows ≡ run → rows_of key (value_of agg run) ≡ set_of (map (grouped keys agg rows) (filter (has_row (project_rows keys rows)) (key ∷ [])))
    by_run [] e = sym (ap (λ (b : Bool). set_of (map (grouped keys agg rows) (cond b (key ∷ []) []))) (none_occurs keys rows key e))
    by_run (q ∷ run) e =
        ap (λ (l : List Row). (key ++ aggregate agg l ∷ []) ∷ []) (sym e)
        ∙ sym (ap (λ (b : Bool). set_of (map (grouped keys agg rows) (cond b (key ∷ []) []))) (some_occurs keys rows key (subst (λ (l : List Row). 0 < length l) (sym e) (omega arith))))

some_has_length : (row : Row) (run : List Row) → Has row run → 0 < length run
some_has_length row [] h = absurd h
some_has_length row (q ∷ run) h = omega arith

-- a turn of rows that are equal
pub turn_as : (keys : List ℕ) (agg : Agg) (old new more gone others less : List Row) (groups : TurningGroups) → more ≡ others → gone ≡ less → GroupsTurn keys agg old new more gone groups → GroupsTurn keys agg old new others less groups
turn_as keys agg old new more gone others less groups m n g =
    subst (λ (l : List Row). GroupsTurn keys agg old new l less groups) m (subst (λ (l : List Row). GroupsTurn keys agg old new more l groups) n g)

module _ (keys : List ℕ) (agg : Agg) (old new : List Row) (row : Row) (before : TurningGroups) (g : GroupsTurn keys agg old new (row ∷ []) [] before) (key : Row) (same : key ≡ cells before.keys.items row)
    (next : IndexMap Row Tally HashKey) (on : GoesOn before.agg key row before.tallies next) where
  few_before : length old < row_limit
  few_before = omega (arith, g.few_new, ap (length {A = Row}) (only_all old new row g.turned), length_more row old g.turned.old_sorted (only_lacks old new row g.turned))

  own_after : AreTallied before.keys.items before.agg new next
  own_after = subst (λ (l : List Row). AreTallied before.keys.items before.agg l next) (sym (only_all old new row g.turned))
      (tallied_more before.keys.items before.agg row old g.turned.old_sorted few_before (only_lacks old new row g.turned) key same before.tallies next on (own_tallied keys agg old before g.stand))

  pub one_stands : (after : TurningGroups) → after.keys ≡ before.keys → after.agg ≡ before.agg → after.tallies ≡ next → TalliesStand keys agg new after
  one_stands after keys_stay agg_stays is = record {
    keys_are = ap (λ v. v.items) keys_stay ∙ g.stand.keys_are;
    agg_is = agg_stays ∙ g.stand.agg_is;
    tallied = tallied_as keys before.keys.items agg before.agg new after.tallies g.stand.keys_are g.stand.agg_is (subst (AreTallied before.keys.items before.agg new) (sym is) own_after);
  }

  pub one_turns : (step : Step) (r : Result Turn SetFault) → IsStep before.agg key before.tallies next step → TurnsInto (rows_of key step.before) ((key ++ step.after ∷ []) ∷ []) r
      → TurnsInto (set_of (group_rows keys agg old)) (set_of (group_rows keys agg new)) r
  one_turns step r is turns =
      let own = before.keys.items in
      let by = before.agg in
      let at : Has row new = (came old new (row ∷ []) [] g.turned row (inl refl)).0 in
      let some : 0 < length (with_key own key new) = some_has_length row (with_key own key new) (Has-filter (λ (r : Row). eq_by_cmp record_cmp (cells own r) key) row new at (subst (λ (k : Row). eq_by_cmp record_cmp k key ≡ true) same (own_key key))) in
      let was = single own by old key step.before (is.was (with_key own key old) (own_tallied keys agg old before g.stand key)) in
      let now = single own by new key (Some step.after) (some_value by (with_key own key new) step.after (is.is (with_key own key new) (own_after key)) some) in
      let own_turns = group_turns own old new (row ∷ []) [] g.turned (key ∷ []) (ap (λ (k : Row). k ∷ []) same) by r g.few_new
      (subst (λ (l : List Row). TurnsInto l (set_of (map (grouped own by new) (filter (has_row (project_rows own new)) (key ∷ [])))) r) was (subst (λ (l : List Row). TurnsInto (rows_of key step.before) l r) now turns)) in
      subst (λ (cs : List ℕ). TurnsInto (set_of (group_rows cs agg old)) (set_of (group_rows cs agg new)) r) g.stand.keys_are
      (subst (λ (a : Agg). TurnsInto (set_of (group_rows own a old)) (set_of (group_rows own a new)) r) g.stand.agg_is own_turns)
