-- An index that rows enter and leave, with one row more or less.
use Rattle.std.proofs.Common.{◌≡◌, ℕ, ◌+◌, ◌<◌, Bool, true, false, cond, List, [], ◌∷◌, ◌++◌, length, get_or, take, Option, unwrap_or, Result, Ok, Err, OnOk, refl, ap, ◌∙◌, sym, subst, inl, inr}
use Rattle.std.proofs.lemmas.List.{take_more}
use Rattle.std.specs.BTreeMap.{BTreeMap, is_at}
use Rattle.std.specs.Ordering.{eq_by_cmp}
use Rattle.blz_value.specs.Groups.{with_key}
use Rattle.blz_value.specs.Members.{Has}
use Rattle.blz_value.specs.Operators.{cells}
use Rattle.blz_value.specs.Record.{Row, record_cmp}
use Rattle.blz_value.specs.Sets.{set_of, IsRowSet}
use Rattle.blz_value.proofs.Membership.{Has-append_left, Has-append_right, Has-append_cases, Has-filter, Has-from_filter}
use Rattle.blz_value.proofs.OperatorsLemmas.{sorted_filter}
use Rattle.blz_value.proofs.SetLaws.{same_row_sets}
use Rattle.blz_value.proofs.Lists.{same-self as own_key}
use Rattle.blz_set.specs.Missing.{has_row, missing_from}
use Rattle.blz_set.proofs.RecordSets.{has_row-from_Has, Has-from_has_row}
use Rattle.blz_set.proofs.Runs.{same_row}
use Rattle.bloom_growth.specs.ByKey.{rows_found, AreByKey}
use Rattle.bloom_growth.specs.Keyed.{IsFreshKeyed, IsKeyedBy}
use Rattle.bloom_growth.specs.declared.keyed.KeyedRows.{KeyedRows}
use Rattle.bloom_growth.proofs.Fresh.{none_found}
use Rattle.bloom_growth.proofs.GrowSets.{missing_sorted}
use Rattle.bloom_growth.proofs.SidesLemmas.{apart, with_own_key, with_other_key}
use Rattle.bloom_growth.proofs.TurnedLemmas.{in_missing, from_missing, is_missing}

-- ---- a tree with one row less

pub tree_less : (old new : List Row) (row : Row) → IsRowSet old → IsRowSet new → ((q : Row) → has_row new q ≡ cond (is_at (record_cmp row) q) false (has_row old q)) → new ≡ missing_from (row ∷ []) old
tree_less old new row sorted own updates = is_missing (row ∷ []) old new sorted own only all
  where
    kept : (q : Row) (b : Bool) → is_at (record_cmp row) q ≡ b → has_row new q ≡ true → Has q old × ¬ Has q (row ∷ [])
    kept q true e has = let gone : has_row new q ≡ false = updates q ∙ ap (λ (b : Bool). cond b false (has_row old q)) e in absurd cc
    kept q false e has =
        let stood : has_row old q ≡ true = sym (updates q ∙ ap (λ (b : Bool). cond b false (has_row old q)) e) ∙ has in (
          Has-from_has_row old q stood,
          elim [
            | inl s ↦ let tied : is_at (record_cmp row) q ≡ true = subst (λ (z : Row). is_at (record_cmp row) z ≡ true) s (own_key row) in cc
            | inr n ↦ n
          ],
        )

    only : (q : Row) → Has q new → Has q old × ¬ Has q (row ∷ [])
    only q h = kept q (is_at (record_cmp row) q) refl (has_row-from_Has new q h)

    all : (q : Row) → Has q old → ¬ Has q (row ∷ []) → Has q new
    all q h other =
        let different : is_at (record_cmp row) q ≡ false = apart row q (λ s. other (inl (sym s))) in
        Has-from_has_row new q (updates q ∙ ap (λ (b : Bool). cond b false (has_row old q)) different ∙ has_row-from_Has old q h)

-- ---- the rows at a key

pub keyed_of_none : (columns : List ℕ) (keyed : KeyedRows) (rows : List Row) → IsFreshKeyed columns keyed → rows ≡ [] → IsKeyedBy columns rows keyed
keyed_of_none columns keyed rows fresh none key =
    ap (λ (o : Option (List Row)). unwrap_or o []) (none_found keyed.sets fresh.none key) ∙ sym (ap (with_key columns key) none)

-- other rows at one key
pub one_key : (columns : List ℕ) (rows all : List Row) (old new : BTreeMap Row (List Row)) (key : Row) → AreByKey columns rows old → rows_found new key ≡ with_key columns key all
    → ((other : Row) → ¬ (other ≡ key) → rows_found new other ≡ rows_found old other) → ((other : Row) → ¬ (other ≡ key) → with_key columns other rows ≡ with_key columns other all) → AreByKey columns all new
one_key columns rows all old new key side here others same q = by_case (is_at (record_cmp key) q) refl
  where
    by_case : (b : Bool) → is_at (record_cmp key) q ≡ b → rows_found new q ≡ with_key columns q all
    by_case true e = subst (λ (k : Row). rows_found new k ≡ with_key columns k all) (same_row key q e) here
    by_case false e =
        let different : ¬ (q ≡ key) = λ (p : q ≡ key). let tied : is_at (record_cmp key) q ≡ true = subst (λ (z : Row). is_at (record_cmp key) z ≡ true) (sym p) (own_key key) in cc in
        others q different ∙ side q ∙ same q different

module _ (columns : List ℕ) (row : Row) (rows : List Row) (sorted : IsRowSet rows) where
  -- the rows with a key, without that row
  pub less_with_key : (key : Row) → missing_from (row ∷ []) (with_key columns key rows) ≡ with_key columns key (missing_from (row ∷ []) rows)
  less_with_key key =
      let test : Row → Bool = λ (r : Row). eq_by_cmp record_cmp (cells columns r) key in
      let left : List Row = missing_from (row ∷ []) rows in
      same_row_sets (missing_from (row ∷ []) (with_key columns key rows)) (with_key columns key left) (missing_sorted (row ∷ []) (with_key columns key rows) (sorted_filter test rows sorted)) (sorted_filter test left (missing_sorted (row ∷ []) rows sorted)) (
        λ q h.
            let m = from_missing (row ∷ []) (with_key columns key rows) q h in
            let n = Has-from_filter test q rows m.0 in
            Has-filter test q left (in_missing (row ∷ []) rows q n.0 m.1) n.1,
        λ q h.
            let n = Has-from_filter test q left h in
            let m = from_missing (row ∷ []) rows q n.0 in
            in_missing (row ∷ []) (with_key columns key rows) q (Has-filter test q rows m.0 n.1) m.1,
      )

  -- the rows with another key are those of before
  pub less_other_key : (key : Row) → ¬ (key ≡ cells columns row) → with_key columns key rows ≡ with_key columns key (missing_from (row ∷ []) rows)
  less_other_key key different =
      let test : Row → Bool = λ (r : Row). eq_by_cmp record_cmp (cells columns r) key in
      let left : List Row = missing_from (row ∷ []) rows in
      same_row_sets (with_key columns key rows) (with_key columns key left) (sorted_filter test rows sorted) (sorted_filter test left (missing_sorted (row ∷ []) rows sorted)) (
        λ q h.
            let n = Has-from_filter test q rows h in
            Has-filter test q left (in_missing (row ∷ []) rows q n.0 (elim [
              | inl e ↦ different (sym (same_row (cells columns row) key (subst (λ (z : Row). eq_by_cmp record_cmp (cells columns z) key ≡ true) (sym e) n.1)))
              | inr none ↦ none
            ])) n.1,
        λ q h.
            let n = Has-from_filter test q left h in
            Has-filter test q rows (from_missing (row ∷ []) rows q n.0).0 n.1,
      )

  -- one row more
  pub keyed_more : (old left new : BTreeMap Row (List Row)) (key : Row) (set : List Row) → key ≡ cells columns row → AreByKey columns rows old
      → ((other : Row) → ¬ (other ≡ key) → rows_found left other ≡ rows_found old other) → ((other : Row) → ¬ (other ≡ key) → rows_found new other ≡ rows_found left other)
      → rows_found new key ≡ set → set ≡ set_of (row ∷ rows_found old key) → AreByKey columns (set_of (row ∷ rows)) new
  keyed_more old left new key set same side less put here is =
      one_key columns rows (set_of (row ∷ rows)) old new key side (
      here ∙ is ∙ ap (λ (l : List Row). set_of (row ∷ l)) (side key) ∙ ap (λ (k : Row). set_of (row ∷ with_key columns k rows)) same
      ∙ with_own_key columns row rows sorted ∙ ap (λ (k : Row). with_key columns k (set_of (row ∷ rows))) (sym same)
      ) (λ other different. put other different ∙ less other different) (λ other different. with_other_key columns row rows sorted other (λ e. different (e ∙ sym same)))

  -- one row less
  pub keyed_less : (old left new : BTreeMap Row (List Row)) (key : Row) (set : List Row) → key ≡ cells columns row → AreByKey columns rows old
      → ((other : Row) → ¬ (other ≡ key) → rows_found left other ≡ rows_found old other) → ((other : Row) → ¬ (other ≡ key) → rows_found new other ≡ rows_found left other)
      → rows_found new key ≡ set → set ≡ missing_from (row ∷ []) (rows_found old key) → AreByKey columns (missing_from (row ∷ []) rows) new
  keyed_less old left new key set same side less put here is =
      one_key columns rows (missing_from (row ∷ []) rows) old new key side (
      here ∙ is ∙ ap (missing_from (row ∷ [])) (side key) ∙ less_with_key key
      ) (λ other different. put other different ∙ less other different) (λ other different. less_other_key other (λ e. different (e ∙ sym same)))

module _ {E : Type 0} (r : Result (Unit {0}) E) (columns : List ℕ) (row : Row) (old left new : BTreeMap Row (List Row)) (key : Row) (set : List Row) where
  -- the same where the rows at the key are put back
  pub keyed_put : key ≡ cells columns row → set ≡ set_of (row ∷ rows_found old key) → rows_found left key ≡ []
      → ((other : Row) → ¬ (other ≡ key) → rows_found left other ≡ rows_found old other) → OnOk r (rows_found left key ≡ [] → rows_found new key ≡ set) → OnOk r ((other : Row) → ¬ (other ≡ key) → rows_found new other ≡ rows_found left other)
      → OnOk r ((rows : List Row) → IsRowSet rows → AreByKey columns rows old → AreByKey columns (set_of (row ∷ rows)) new)
  keyed_put same is none less here put = elim r as (λ v. OnOk v (rows_found left key ≡ [] → rows_found new key ≡ set) → OnOk v ((other : Row) → ¬ (other ≡ key) → rows_found new other ≡ rows_found left other) → OnOk v ((rows : List Row) → IsRowSet rows → AreByKey columns rows old → AreByKey columns (set_of (row ∷ rows)) new)) [
    | Ok x ↦ λ at others rows sorted side. keyed_more columns row rows sorted old left new key set same side less others (at none) is
    | Err e ↦ λ at others. tt
  ] here put

  pub keyed_left : key ≡ cells columns row → set ≡ missing_from (row ∷ []) (rows_found old key) → rows_found left key ≡ []
      → ((other : Row) → ¬ (other ≡ key) → rows_found left other ≡ rows_found old other) → OnOk r (rows_found left key ≡ [] → rows_found new key ≡ set) → OnOk r ((other : Row) → ¬ (other ≡ key) → rows_found new other ≡ rows_found left other)
      → OnOk r ((rows : List Row) → IsRowSet rows → AreByKey columns rows old → AreByKey columns (missing_from (row ∷ []) rows) new)
  keyed_left same is none less here put = elim r as (λ v. OnOk v (rows_found left key ≡ [] → rows_found new key ≡ set) → OnOk v ((other : Row) → ¬ (other ≡ key) → rows_found new other ≡ rows_found left other) → OnOk v ((rows : List Row) → IsRowSet rows → AreByKey columns rows old → AreByKey columns (missing_from (row ∷ []) rows) new)) [
    | Ok x ↦ λ at others rows sorted side. keyed_less columns row rows sorted old left new key set same side less others (at none) is
    | Err e ↦ λ at others. tt
  ] here put

-- ---- many rows

-- one row more of those that go
pub less_more : (rows gone : List Row) (i : ℕ) (row : Row) → IsRowSet rows → i < length gone → row ≡ get_or gone i row
    → missing_from (row ∷ []) (missing_from (take i gone) rows) ≡ missing_from (take (i + 1) gone) rows
less_more rows gone i row sorted lt is =
    let before : List Row = take i gone in
    let more : take (i + 1) gone ≡ before ++ row ∷ [] = take_more gone i row lt ∙ ap (λ (r : Row). take i gone ++ r ∷ []) (sym is) in
    let once : List Row = missing_from (row ∷ []) (missing_from before rows) in
    is_missing (take (i + 1) gone) rows once sorted (missing_sorted (row ∷ []) (missing_from before rows) (missing_sorted before rows sorted)) (
    λ q h.
    let m = from_missing (row ∷ []) (missing_from before rows) q h in
    let n = from_missing before rows q m.0 in
    (n.0, λ g. elim (Has-append_cases q before (row ∷ []) (subst (λ (l : List Row). Has q l) more g)) [ inl a ↦ n.1 a | inr b ↦ m.1 b ])
    ) (
    λ q h lacks.
    in_missing (row ∷ []) (missing_from before rows) q (
    in_missing before rows q h (λ g. lacks (subst (λ (l : List Row). Has q l) (sym more) (Has-append_left q before (row ∷ []) g)))
    ) (λ g. lacks (subst (λ (l : List Row). Has q l) (sym more) (Has-append_right q before (row ∷ []) g)))
    )

-- none goes
pub less_none : (rows : List Row) → IsRowSet rows → missing_from [] rows ≡ rows
less_none rows sorted = sym (is_missing [] rows rows sorted sorted (λ q h. (h, λ none. none)) (λ q h lacks. h))

-- the index with one row less of a list
pub keyed_at : (columns own : List ℕ) (rows gone : List Row) (sets new : BTreeMap Row (List Row)) (i : ℕ) (row : Row) → IsRowSet rows → own ≡ columns → i < length gone → row ≡ get_or gone i row
    → AreByKey columns (missing_from (take i gone) rows) sets → ((all : List Row) → IsRowSet all → AreByKey own all sets → AreByKey own (missing_from (row ∷ []) all) new)
    → AreByKey columns (missing_from (take (i + 1) gone) rows) new
keyed_at columns own rows gone sets new i row sorted same lt is side step =
    let left : List Row = missing_from (take i gone) rows in
    subst (λ (l : List Row). AreByKey columns l new) (less_more rows gone i row sorted lt is)
    (subst (λ (cs : List ℕ). AreByKey cs (missing_from (row ∷ []) left) new) same (step left (missing_sorted (take i gone) rows sorted) (subst (λ (cs : List ℕ). AreByKey cs left sets) (sym same) side)))
