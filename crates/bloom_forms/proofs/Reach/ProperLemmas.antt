-- No port of a proper program of distinct columns has a column twice, and the stock body of a proper one is as it should be.
use Rattle.std.proofs.Common.{◌≡◌, ◌<◌, ◌+◌, ◌≤◌, ℕ, zero, suc, Bool, true, false, cond, Some, List, [], ◌∷◌, length, map, filter, get_or, refl, ap, ◌∙◌, sym, subst, inl, inr, arith}
use Rattle.std.specs.Prelude.{◌==◌}
use Rattle.std.specs.List.{list_any, range_with_len, position_from}
use Rattle.std.specs.Str.{bytes_eq}
use Rattle.std.proofs.lemmas.Bool.{cases_Bool, true≢false}
use Rattle.std.proofs.lemmas.Slice.Eq.{bytes_eq-Decides}
use Rattle.blz_value.specs.Members.{Has}
use Rattle.blz_value.proofs.Membership.{Has-from_any, Has-from_filter, Has-from_map, Has-get_or, any_from_Has}
use Rattle.blz_value.specs.Names.{place_of}
use Rattle.blz_value.proofs.MembersInOrder.{from_range}
use Rattle.blz_value.proofs.Booleans.{neither}
use Rattle.bloom_forms.specs.declared.module.Collection.{Collection}
use Rattle.bloom_forms.specs.declared.module.Kind.TheVariants.{Input}
use Rattle.bloom_forms.specs.declared.program.Program.TheVariants.{Module, Split, Latest, Number}
use Rattle.bloom_forms.specs.Checks.{IsChecked}
use Rattle.bloom_forms.specs.Fits.{has_name, repeats}
use Rattle.bloom_forms.specs.Form.{Accepted}
use Rattle.bloom_forms.specs.Kinds.{same_kind}
use Rattle.bloom_forms.specs.Query.{Name}
use Rattle.bloom_forms.specs.Program.{IsStock, port_columns}
use Rattle.bloom_forms.specs.Proper.{IsProper, HasDistinctColumns}
use Rattle.bloom_forms.specs.declared.program.Program.{Program}

-- a stock body that is proper is as it should be
pub proper_is_stock : (program : Program) → IsProper program → IsStock program
proper_is_stock (Module a) proper = tt
proper_is_stock (Split columns split) proper = proper
proper_is_stock (Latest columns keys) proper = proper
proper_is_stock (Number columns) proper = proper

-- no port has a column twice
abbrev pub HasOwnColumns : Program → Type 0
HasOwnColumns program = (columns : List Name) → Has columns (port_columns program) → repeats columns ≡ false

-- a column stands first at its own place
pub own_position : (i : ℕ) (columns : List Name) → repeats columns ≡ false → (place : ℕ) → place < length columns
    → position_from (λ held. bytes_eq held (get_or columns place [])) i columns ≡ Some (i + place)
own_position i [] distinct place lt = absurd (omega arith)
own_position i (c ∷ cs) distinct zero lt = let same : bytes_eq c c ≡ true = (bytes_eq-Decides c c).1 refl in rw same (ap Some (omega arith))
own_position i (c ∷ cs) distinct (suc place) lt =
    let none = neither (has_name cs c) (repeats cs) distinct in
    let name = get_or cs place [] in
    let other : bytes_eq c name ≡ false = elim (cases_Bool (bytes_eq c name)) [
      | inr f ↦ f
      | inl t ↦ absurd (
          let same : c ≡ name = (bytes_eq-Decides c name).0 t in
          let stands : Has name cs = Has-get_or cs place [] (omega (arith, lt)) in
          let yes : bytes_eq name c ≡ true = (bytes_eq-Decides name c).1 (sym same) in
          true≢false (sym (any_from_Has (λ held. bytes_eq held c) name cs stands yes) ∙ none.0))
    ] in
    rw other (own_position (i + 1) cs none.1 place (omega (arith, lt)) ∙ ap Some (omega arith))

pub module_own_columns : (a : Accepted) → IsChecked a.form a.heads → HasOwnColumns (Module a)
module_own_columns a checked columns h =
    let m = Has-from_map (λ (c : Collection). c.columns) columns _ h in
    let c = Has-from_filter (λ (d : Collection). same_kind Input d.kind) m.0 a.form.collections m.1 in
    subst (λ (own : List Name). repeats own ≡ false) m.2 (checked.collections m.0 c.0).distinct

-- ---- the key columns

module _ (columns : List Name) (distinct : repeats columns ≡ false) where
  abbrev at : ℕ → Name
  at i = get_or columns i []

  -- a name stands at one place
  one_place : (i j : ℕ) → i < length columns → j < length columns → at i ≡ at j → i ≡ j
  one_place i j lt lu same =
      let first : place_of columns (at i) ≡ Some (0 + i) = own_position 0 columns distinct i lt in
      let second : place_of columns (at j) ≡ Some (0 + j) = own_position 0 columns distinct j lu in
      let both : Some (0 + i) ≡ Some (0 + j) = sym first ∙ ap (place_of columns) same ∙ second in
      let sums : 0 + i ≡ 0 + j = cc in
      omega (arith, sums)

  apart : (is_key : ℕ → Bool) (from count : ℕ) → from + count ≤ length columns
      → repeats (map at (filter is_key (range_with_len from count))) ≡ false
  apart is_key from zero le = refl
  apart is_key from (suc count) le = go (is_key from) (apart is_key (from + 1) count (omega (arith, le)))
    where
      rest : List ℕ
      rest = filter is_key (range_with_len (from + 1) count)

      new : has_name (map at rest) (at from) ≡ false
      new = elim (cases_Bool (has_name (map at rest) (at from))) [
        | inr f ↦ f
        | inl t ↦ absurd (
            let found = Has-from_any (λ held. bytes_eq held (at from)) (map at rest) t in
            let j = Has-from_map at found.0 rest found.1 in
            let there = (Has-from_filter is_key j.0 (range_with_len (from + 1) count) j.1).0 in
            let bounds = from_range (from + 1) count j.0 there in
            let same : at j.0 ≡ at from = j.2 ∙ (bytes_eq-Decides found.0 (at from)).0 found.2 in
            let one = one_place j.0 from (omega (arith, bounds.1, le)) (omega (arith, le)) same in
            omega (arith, bounds.0, one))
      ]

      go : (b : Bool) → repeats (map at rest) ≡ false → repeats (map at (cond b (from ∷ rest) rest)) ≡ false
      go true more = rw (new, more) refl
      go false more = more

  pub latest_own_columns : (keys : List ℕ) → HasOwnColumns (Latest columns keys)
  latest_own_columns keys own (inl e) = subst (λ (c : List Name). repeats c ≡ false) e distinct
  latest_own_columns keys own (inr (inl e)) = subst (λ (c : List Name). repeats c ≡ false) e (apart (λ i. list_any (λ key. key == i) keys) 0 (length columns) (omega arith))
  latest_own_columns keys own (inr (inr never)) = absurd never

  pub split_own_columns : (split : ℕ) → HasOwnColumns (Split columns split)
  split_own_columns split own (inl e) = subst (λ (c : List Name). repeats c ≡ false) e distinct
  split_own_columns split own (inr never) = absurd never

  pub number_own_columns : HasOwnColumns (Number columns)
  number_own_columns own (inl e) = subst (λ (c : List Name). repeats c ≡ false) e distinct
  number_own_columns own (inr never) = absurd never

-- no port of a proper program of distinct columns has a column twice
pub own_columns : (program : Program) → IsProper program → HasDistinctColumns program → HasOwnColumns program
own_columns (Module a) checked distinct = module_own_columns a checked
own_columns (Split columns split) proper distinct = split_own_columns columns distinct split
own_columns (Latest columns keys) proper distinct = latest_own_columns columns distinct keys
own_columns (Number columns) proper distinct = number_own_columns columns distinct

-- where no port has a column twice, the columns are distinct
pub distinct_columns : (program : Program) → HasOwnColumns program → HasDistinctColumns program
distinct_columns (Module a) own = tt
distinct_columns (Split columns split) own = own columns (inl refl)
distinct_columns (Latest columns keys) own = own columns (inl refl)
distinct_columns (Number columns) own = own columns (inl refl)
