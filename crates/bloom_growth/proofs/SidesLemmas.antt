-- A side with one row more.
use Rattle.std.proofs.Common.{◌≡◌, ℕ, ◌+◌, ◌<◌, ◌≤◌, Bool, true, false, cond, List, [], ◌∷◌, ◌++◌, length, get_or, take, drop, take-append-drop, Option, Some, unwrap_or, Result, Ok, Err, refl, ap, ◌∙◌, sym, subst, inl, inr, arith}
use Rattle.std.specs.Ordering.{is_eq, eq_by_cmp}
use Rattle.std.specs.BTreeMap.{BTreeMap, get, is_at}
use Rattle.std.specs.Map.{lookup}
use Rattle.std.proofs.lemmas.Bool.{cases_Bool}
use Rattle.blz_value.specs.Groups.{with_key}
use Rattle.blz_value.specs.Members.{Has}
use Rattle.blz_value.specs.Operators.{cells}
use Rattle.blz_value.specs.Record.{Row, record_cmp}
use Rattle.blz_value.specs.Sets.{set_of, IsRowSet}
use Rattle.blz_value.proofs.Membership.{Has-filter, Has-from_filter}
use Rattle.blz_value.proofs.OperatorsLemmas.{sorted_filter, length-within}
use Rattle.blz_value.proofs.SetLaws.{sorted_set_of, Has-set_of, Has-from_set_of, same_row_sets}
use Rattle.blz_value.proofs.Lists.{same-self}
use Rattle.blz_set.specs.Answers.{Becomes}
use Rattle.blz_set.specs.RecordSet.{row_limit}
use Rattle.blz_set.specs.declared.fault.SetFault.{SetFault}
use Rattle.blz_set.specs.declared.fault.SetFault.TheVariants.{TooManyRows, NoMemory}
use Rattle.blz_set.proofs.Joins.{too_many_grown}
use Rattle.blz_set.proofs.Runs.{same_row}
use Rattle.bloom_growth.specs.ByKey.{rows_found, AddsAt, AddsTo, AreByKey, MakesByKey, NoneIsEmpty}
use Rattle.bloom_growth.specs.Sides.{SideGrows, SideGrown}
use Rattle.bloom_growth.specs.declared.side.Side.{Side}
use Rattle.bloom_growth.proofs.GrowSets.{set_more}

-- a key that isn't this one is not found at it
pub apart : (key other : Row) → ¬ (other ≡ key) → is_at (record_cmp key) other ≡ false
apart key other different = elim (cases_Bool (is_eq (record_cmp key other))) [
  | inl e ↦ absurd (different (sym (same_row key other e)))
  | inr e ↦ e
]

module _ (columns : List ℕ) (row : Row) (rows : List Row) (sorted : IsRowSet rows) where
  all : List Row
  all = set_of (row ∷ rows)

  -- the rows with the row's key
  pub with_own_key : set_of (row ∷ with_key columns (cells columns row) rows) ≡ with_key columns (cells columns row) (set_of (row ∷ rows))
  with_own_key =
      let key = cells columns row in
      let test : Row → Bool = λ (r : Row). eq_by_cmp record_cmp (cells columns r) key in
      same_row_sets (set_of (row ∷ with_key columns key rows)) (with_key columns key (set_of (row ∷ rows))) (sorted_set_of (row ∷ with_key columns key rows)) (sorted_filter test (set_of (row ∷ rows)) (sorted_set_of (row ∷ rows))) (
        λ q h. elim (Has-from_set_of q (row ∷ with_key columns key rows) h) [
          | inl e ↦ subst (λ (z : Row). Has z (with_key columns key (set_of (row ∷ rows)))) e (Has-filter test row (set_of (row ∷ rows)) (Has-set_of row (row ∷ rows) (inl refl)) (same-self key))
          | inr m ↦ let n = Has-from_filter test q rows m in Has-filter test q (set_of (row ∷ rows)) (Has-set_of q (row ∷ rows) (inr n.0)) n.1
        ],
        λ q h.
            let n = Has-from_filter test q (set_of (row ∷ rows)) h in
            Has-set_of q (row ∷ with_key columns key rows) (elim (Has-from_set_of q (row ∷ rows) n.0) [
              | inl e ↦ inl e
              | inr m ↦ inr (Has-filter test q rows m n.1)
            ]),
      )

  -- the rows with another key
  pub with_other_key : (key : Row) → ¬ (key ≡ cells columns row) → with_key columns key rows ≡ with_key columns key (set_of (row ∷ rows))
  with_other_key key different =
      let test : Row → Bool = λ (r : Row). eq_by_cmp record_cmp (cells columns r) key in
      same_row_sets (with_key columns key rows) (with_key columns key (set_of (row ∷ rows))) (sorted_filter test rows sorted) (sorted_filter test (set_of (row ∷ rows)) (sorted_set_of (row ∷ rows))) (
        λ q h. let n = Has-from_filter test q rows h in Has-filter test q (set_of (row ∷ rows)) (Has-set_of q (row ∷ rows) (inr n.0)) n.1,
        λ q h.
            let n = Has-from_filter test q (set_of (row ∷ rows)) h in
            elim (Has-from_set_of q (row ∷ rows) n.0) [
              | inl e ↦ absurd (different (sym (same_row (cells columns row) key (subst (λ (z : Row). eq_by_cmp record_cmp (cells columns z) key ≡ true) (sym e) n.1))))
              | inr m ↦ Has-filter test q rows m n.1
            ],
      )

  -- the rows with a key are no more than all
  pub length_with_key : length (set_of (row ∷ with_key columns (cells columns row) rows)) ≤ length (set_of (row ∷ rows))
  length_with_key =
      let key = cells columns row in
      let test : Row → Bool = λ (r : Row). eq_by_cmp record_cmp (cells columns r) key in
      length-within (set_of (row ∷ with_key columns key rows)) (set_of (row ∷ rows)) (sorted_set_of (row ∷ with_key columns key rows))
      (λ q h. elim (Has-from_set_of q (row ∷ with_key columns key rows) h) [
        | inl e ↦ Has-set_of q (row ∷ rows) (inl e)
        | inr m ↦ Has-set_of q (row ∷ rows) (inr (Has-from_filter test q rows m).0)
      ])

  -- the sets with that row's set in the place of the old one
  pub side_more : (old left new : BTreeMap Row (List Row)) (key : Row) (set : List Row) → key ≡ cells columns row → AreByKey columns rows old
      → ((other : Row) → ¬ (other ≡ key) → rows_found left other ≡ rows_found old other)
      → ((q : Row) → get record_cmp new q ≡ cond (is_at (record_cmp key) q) (Some set) (get record_cmp left q))
      → set ≡ set_of (row ∷ rows_found old key) → AreByKey columns (set_of (row ∷ rows)) new
  side_more old left new key set same side others updates is q = by_case (is_at (record_cmp key) q) refl
    where
      here : key ≡ q → set ≡ with_key columns q (set_of (row ∷ rows))
      here e =
          is ∙ ap (λ (l : List Row). set_of (row ∷ l)) (side key) ∙ ap (λ (k : Row). set_of (row ∷ with_key columns k rows)) same ∙ with_own_key
          ∙ ap (λ (k : Row). with_key columns k (set_of (row ∷ rows))) (sym same ∙ e)

      by_case : (b : Bool) → is_at (record_cmp key) q ≡ b → rows_found new q ≡ with_key columns q (set_of (row ∷ rows))
      by_case true e =
          ap (λ (o : Option (List Row)). unwrap_or o []) (updates q ∙ ap (λ (b : Bool). cond b (Some set) (get record_cmp left q)) e) ∙ here (same_row key q e)
      by_case false e =
          let different : ¬ (q ≡ key) = λ (p : q ≡ key). let tied : is_at (record_cmp key) q ≡ true = subst (λ (z : Row). is_at (record_cmp key) z ≡ true) (sym p) (same-self key) in cc in
          ap (λ (o : Option (List Row)). unwrap_or o []) (updates q ∙ ap (λ (b : Bool). cond b (Some set) (get record_cmp left q)) e)
          ∙ others q different ∙ side q ∙ with_other_key q (λ p. different (p ∙ sym same))

-- ---- a row more in place

module _ (key row : Row) (old new : BTreeMap Row (List Row)) (set next : List Row) (found : Some set ≡ get record_cmp old key) (updates : (q : Row) → get record_cmp new q ≡ cond (is_at (record_cmp key) q) (Some next) (get record_cmp old q)) where
  -- the rows at the key are those of before with the row
  pub adds_at : next ≡ set_of (row ∷ set) → AddsAt true key row old new
  adds_at is = (
    ap (λ (o : Option (List Row)). unwrap_or o []) (updates key ∙ ap (λ (b : Bool). cond b (Some next) (get record_cmp old key)) (same-self key)) ∙ is ∙ ap (λ (o : Option (List Row)). set_of (row ∷ unwrap_or o [])) found,
    λ other different. ap (λ (o : Option (List Row)). unwrap_or o []) (updates other ∙ ap (λ (b : Bool). cond b (Some next) (get record_cmp old other)) (apart key other different)),
  )

  -- no key loses all its rows where this one doesn't
  pub none_lost : (next ≡ [] → ⊥) → NoneIsEmpty old → NoneIsEmpty new
  none_lost some none q e = by_case (is_at (record_cmp key) q) refl
    where
      by_case : (b : Bool) → is_at (record_cmp key) q ≡ b → ⊥
      by_case true t = some (ap (λ (o : Option (List Row)). unwrap_or o []) (sym (updates q ∙ ap (λ (b : Bool). cond b (Some next) (get record_cmp old q)) t) ∙ e))
      by_case false t = none q (sym (updates q ∙ ap (λ (b : Bool). cond b (Some next) (get record_cmp old q)) t) ∙ e)

  -- so where it gets one
  pub none_lost_more : next ≡ set_of (row ∷ set) → NoneIsEmpty old → NoneIsEmpty new
  none_lost_more is none = none_lost (λ empty. subst (λ (l : List Row). Has row l) (sym is ∙ empty) (Has-set_of row (row ∷ set) (inl refl))) none

-- too many rows at a key
pub adds_refused : (key row copy : Row) (set new : List Row) (old sets : BTreeMap Row (List Row)) (fault : SetFault) → copy ≡ row → Some set ≡ get record_cmp old key → Becomes {X = Bool} set (set_of (copy ∷ set)) new (Err fault) → AddsTo key row old sets (Err fault)
adds_refused key row copy set new old sets TooManyRows same found h =
    let is : set_of (copy ∷ set) ≡ set_of (row ∷ rows_found old key) = ap (λ (r : Row). set_of (r ∷ set)) same ∙ ap (λ (o : Option (List Row)). set_of (row ∷ unwrap_or o [])) found in
    omega (arith, h.1, ap (length {A = Row}) is)
adds_refused key row copy set new old sets NoMemory same found h = tt

module _ (columns : List ℕ) (row : Row) (rows : List Row) (sorted : IsRowSet rows) (old : BTreeMap Row (List Row)) (key : Row) (same : key ≡ cells columns row) (side : AreByKey columns rows old) where
  -- one row more at a key that has rows
  pub side_added : (new : BTreeMap Row (List Row)) → AddsAt true key row old new → AreByKey columns (set_of (row ∷ rows)) new
  side_added new added q = by_case (is_at (record_cmp key) q) refl
    where
      by_case : (b : Bool) → is_at (record_cmp key) q ≡ b → rows_found new q ≡ with_key columns q (set_of (row ∷ rows))
      by_case true e = subst (λ (k : Row). rows_found new k ≡ with_key columns k (set_of (row ∷ rows))) (same_row key q e) (
          added.0 ∙ ap (λ (l : List Row). set_of (row ∷ l)) (side key) ∙ ap (λ (k : Row). set_of (row ∷ with_key columns k rows)) same
          ∙ with_own_key columns row rows sorted ∙ ap (λ (k : Row). with_key columns k (set_of (row ∷ rows))) (sym same)
          )
      by_case false e =
          let different : ¬ (q ≡ key) = λ (p : q ≡ key). let tied : is_at (record_cmp key) q ≡ true = subst (λ (z : Row). is_at (record_cmp key) z ≡ true) (sym p) (same-self key) in cc in
          added.1 q different ∙ side q ∙ with_other_key columns row rows sorted q (λ p. different (p ∙ sym same))

  -- and at one that has none
  pub side_first : (middle new : BTreeMap Row (List Row)) (copy : Row) (set : List Row) → AddsAt false key row old middle → copy ≡ row → set ≡ copy ∷ []
      → ((q : Row) → get record_cmp new q ≡ cond (is_at (record_cmp key) q) (Some set) (get record_cmp middle q)) → AreByKey columns (set_of (row ∷ rows)) new
  side_first middle new copy set none is one updates =
      side_more columns row rows sorted old middle new key set same side
      (λ other different. ap (λ (entries : List (Row × List Row)). unwrap_or (lookup (is_at (record_cmp other)) entries) []) none.0)
      updates (one ∙ ap (λ (r : Row). r ∷ []) is ∙ sym (ap (λ (l : List Row). set_of (row ∷ l)) none.1))

  -- a key with too many rows is one of too many
  pub side_over : (sets new : BTreeMap Row (List Row)) (fault : SetFault) → AddsTo key row old sets (Err fault) → MakesByKey {X = Unit {0}} columns (set_of (row ∷ rows)) new (Err fault)
  side_over sets new TooManyRows over =
      let is : set_of (row ∷ rows_found old key) ≡ set_of (row ∷ with_key columns (cells columns row) rows) = ap (λ (l : List Row). set_of (row ∷ l)) (side key ∙ ap (λ (k : Row). with_key columns k rows) same) in
      omega (arith, over, ap (length {A = Row}) is, length_with_key columns row rows sorted)
  side_over sets new NoMemory over = tt

-- one row more of a list
pub side_at : (columns own : List ℕ) (rows more : List Row) (sets new : BTreeMap Row (List Row)) (i : ℕ) (row : Row) → own ≡ columns → i < length more → row ≡ get_or more i row
    → AreByKey columns (set_of (rows ++ take i more)) sets → ((all : List Row) → IsRowSet all → AreByKey own all sets → AreByKey own (set_of (row ∷ all)) new)
    → AreByKey columns (set_of (rows ++ take (i + 1) more)) new
side_at columns own rows more sets new i row same lt is side step =
    let all = set_of (rows ++ take i more) in
    subst (λ (l : List Row). AreByKey columns l new) (set_more rows more i row row lt is refl)
    (subst (λ (cs : List ℕ). AreByKey cs (set_of (row ∷ all)) new) same (step all (sorted_set_of (rows ++ take i more)) (subst (λ (cs : List ℕ). AreByKey cs all sets) (sym same) side)))

-- a row that is one too many on the way is so in the end
pub side_later : (columns own : List ℕ) (rows more : List Row) (sets new last : BTreeMap Row (List Row)) (i : ℕ) (row : Row) (fault : SetFault) → own ≡ columns → i < length more → row ≡ get_or more i row
    → AreByKey columns (set_of (rows ++ take i more)) sets → ((all : List Row) → IsRowSet all → AreByKey own all sets → MakesByKey {X = Unit {0}} own (set_of (row ∷ all)) new (Err fault))
    → MakesByKey {X = Unit {0}} columns (set_of (rows ++ more)) last (Err fault)
side_later columns own rows more sets new last i row TooManyRows same lt is side step =
    let all = set_of (rows ++ take i more) in
    let over : row_limit < length (set_of (row ∷ all)) = step all (sorted_set_of (rows ++ take i more)) (subst (λ (cs : List ℕ). AreByKey cs all sets) (sym same) side) in
    too_many_grown rows more (take (i + 1) more) (drop (i + 1) more) (sym (take-append-drop (i + 1) more)) (subst (λ (l : List Row). row_limit < length l) (set_more rows more i row row lt is refl) over)
side_later columns own rows more sets new last i row NoMemory same lt is side step = tt

-- the rows that are new of a part that grows
pub side_grown : (columns : List ℕ) (old new fresh : List Row) (before after : Side) (r : Result (Unit {0}) SetFault) → SideGrows columns old new fresh before
    → ((rows : List Row) → IsRowSet rows → AreByKey before.columns.items rows before.sets → MakesByKey before.columns.items (set_of (rows ++ fresh)) after.sets r) → SideGrown columns new after r
side_grown columns old new fresh before after (Ok x) g makes =
    subst (λ (l : List Row). AreByKey columns l after.sets) (sym g.extends.all) (subst (λ (cs : List ℕ). AreByKey cs (set_of (old ++ fresh)) after.sets) g.columns_are (makes old g.extends.sorted (subst (λ (cs : List ℕ). AreByKey cs old before.sets) (sym g.columns_are) g.side)))
side_grown columns old new fresh before after (Err TooManyRows) g makes =
    let over : row_limit < length (set_of (old ++ fresh)) = makes old g.extends.sorted (subst (λ (cs : List ℕ). AreByKey cs old before.sets) (sym g.columns_are) g.side) in
    omega (arith, over, g.few, ap (length {A = Row}) g.extends.all)
side_grown columns old new fresh before after (Err NoMemory) g makes = tt
