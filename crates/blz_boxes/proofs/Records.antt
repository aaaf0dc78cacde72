-- The records of a map from key tuples, as members of a list, and how many they are.
use Rattle.std.proofs.Common.{◌≡◌, ℕ, Bool, true, false, cond, List, [], ◌∷◌, length, map, Some, refl, ap, ◌∙◌, sym, subst, inl, inr, ◌⊎◌, arith}
use Rattle.std.specs.Ordering.{is_eq, eq_by_cmp}
use Rattle.std.specs.declared.cmp.Ordering.TheVariants.{Less}
use Rattle.std.specs.List.Sorted.{IsStrictlySortedBy}
use Rattle.std.specs.Cmp.{tied_itself}
use Rattle.std.specs.Map.{keys_of}
use Rattle.std.specs.BTreeMap.{BTreeMap, get, values, is_at, IsOrdered, btree_map_len}
use Rattle.std.proofs.lemmas.Map.Views.{All-found, Contains-from_lookup}
use Rattle.blz_value.specs.Members.{Has}
use Rattle.blz_value.specs.Record.{Row, record_cmp}
use Rattle.blz_value.specs.RecordOrder.{record_cmp_total, record_cmp_exact}
use Rattle.blz_value.specs.Sets.{set_of}
use Rattle.blz_value.specs.Operators.{cells}
use Rattle.blz_value.proofs.Membership.{Has-map, Has-from_map, Has-from_Contains, All-of_member}
use Rattle.blz_value.proofs.SetLemmas.{all_has}
use Rattle.blz_value.proofs.SetLaws.{Has-from_set_of}
use Rattle.blz_value.proofs.RowSets.{length-insert_key-new}
use Rattle.blz_set.proofs.Runs.{same_row}
use Rattle.bloom_forms.specs.StockSteps.{has_key}
use Rattle.blz_boxes.specs.Code.KeptRecords.{HaveKeys, records_of}

-- a record of the map stands at its key
pub value_found : (columns : List ℕ) (m : BTreeMap Row Row) → IsOrdered record_cmp m → HaveKeys columns m → (q : Row) → Has q (values m) → get record_cmp m (cells columns q) ≡ Some q
value_found columns m ordered keys q h =
    let e = Has-from_map (λ (e : Row × Row). e.1) q m.entries h in
    let found : get record_cmp m e.0.0 ≡ Some e.0.1 = All-of_member (λ (e : Row × Row). get record_cmp m e.0 ≡ Some e.1) m.entries e.0 (All-found record_cmp_total m ordered) e.1 in
    let key : e.0.0 ≡ cells columns e.0.1 = keys e.0.0 e.0.1 found in
    subst (λ r. get record_cmp m (cells columns r) ≡ Some r) e.2 (subst (λ k. get record_cmp m k ≡ Some e.0.1) key found)

-- what stands at a key is a record of the map
pub value_there : (m : BTreeMap Row Row) (key q : Row) → get record_cmp m key ≡ Some q → Has q (values m)
value_there m key q found = Has-map (λ (e : Row × Row). e.1) (key, q) m.entries (Has-from_Contains m.entries (key, q) (Contains-from_lookup {eq = eq_by_cmp record_cmp} same_row key q m.entries found))

module _ (columns : List ℕ) (row : Row) (old new : BTreeMap Row Row) (updates : (q : Row) → get record_cmp new q ≡ cond (is_at (record_cmp (cells columns row)) q) (Some row) (get record_cmp old q)) where
  -- a record that is put at its key

  pub keys_after_put : HaveKeys columns old → HaveKeys columns new
  keys_after_put keys key r found = by_case (is_eq (record_cmp (cells columns row) key)) refl (sym (updates key) ∙ found)
    where
      by_case : (b : Bool) → is_eq (record_cmp (cells columns row) key) ≡ b → cond b (Some row) (get record_cmp old key) ≡ Some r → key ≡ cells columns r
      by_case true at e = let is : row ≡ r = cc in sym (same_row (cells columns row) key at) ∙ ap (cells columns) is
      by_case false at e = keys key r e

  module _ (ordered_old : IsOrdered record_cmp old) (ordered_new : IsOrdered record_cmp new) (keys_old : HaveKeys columns old) where
    pub values_from : (q : Row) → Has q (values new) → (row ≡ q) ⊎ (Has q (values old) × (has_key columns (cells columns q) row ≡ false))
    values_from q h = by_case (is_eq (record_cmp (cells columns row) (cells columns q))) refl (sym (updates (cells columns q)) ∙ value_found columns new ordered_new (keys_after_put keys_old) q h)
      where
        by_case : (b : Bool) → is_eq (record_cmp (cells columns row) (cells columns q)) ≡ b → cond b (Some row) (get record_cmp old (cells columns q)) ≡ Some q → (row ≡ q) ⊎ (Has q (values old) × (has_key columns (cells columns q) row ≡ false))
        by_case true at e = inl cc
        by_case false at e = inr (value_there old (cells columns q) q e, at)

    pub values_old : (q : Row) → Has q (values old) → has_key columns (cells columns q) row ≡ false → Has q (values new)
    values_old q h apart =
        value_there new (cells columns q) q (updates (cells columns q) ∙ ap (λ b. cond b (Some row) (get record_cmp old (cells columns q))) apart ∙ value_found columns old ordered_old keys_old q h)

  pub value_new : Has row (values new)
  value_new =
      value_there new (cells columns row) row (updates (cells columns row) ∙ ap (λ b. cond b (Some row) (get record_cmp old (cells columns row))) (ap is_eq (tied_itself record_cmp_total (cells columns row))))

-- as many records as entries, where each entry's key can be read from its record
pub count_entries : {V : Type 0} (key_of : Row → Row) (record_of : Row × V → Row) (es : List (Row × V)) → IsStrictlySortedBy record_cmp (keys_of es) → ((e : Row × V) → Has e es → e.0 ≡ key_of (record_of e)) → length (set_of (map record_of es)) ≡ length es
unfolding IsStrictlySortedBy
count_entries key_of record_of [] sorted keys = refl
count_entries {V} key_of record_of (e ∷ es) sorted keys =
    let new : ¬ Has (record_of e) (set_of (map record_of es)) = λ h.
    let other = Has-from_map record_of (record_of e) es (Has-from_set_of (record_of e) (map record_of es) h) in
    let same : other.0.0 ≡ e.0 = keys other.0 (inr other.1) ∙ ap key_of other.2 ∙ sym (keys e (inl refl)) in
    let below : record_cmp e.0 other.0.0 ≡ Less = all_has (λ k. record_cmp e.0 k ≡ Less) other.0.0 (keys_of es) sorted.0 (Has-map (λ (e : Row × V). e.0) other.0 es other.1) in
    let tied = tied_itself record_cmp_total e.0 in
    cc
    in
    omega (arith, length-insert_key-new record_cmp record_cmp_exact (record_of e) (set_of (map record_of es)) new, count_entries key_of record_of es sorted.1 (λ q h. keys q (inr h)))

pub count_records : (columns : List ℕ) (m : BTreeMap Row Row) → IsOrdered record_cmp m → HaveKeys columns m → length (records_of m) ≡ btree_map_len m
count_records columns m ordered keys =
    count_entries (cells columns) (λ e. e.1) m.entries ordered (λ e h. keys e.0 e.1 (All-of_member (λ (e : Row × Row). get record_cmp m e.0 ≡ Some e.1) m.entries e (All-found record_cmp_total m ordered) h))
