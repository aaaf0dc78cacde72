-- No port has a column twice: neither of a checked module nor of a stock body whose columns are distinct.
use Rattle.std.proofs.Common.{◌≡◌, ◌≢◌, ◌<◌, ◌||◌, ℕ, zero, suc, Bool, true, false, not, List, [], ◌∷◌, length, map, get_or, refl, ap, ◌∙◌, sym, subst, inl, inr, arith}
use Rattle.std.specs.Prelude.{◌==◌}
use Rattle.std.specs.Cmp.{IsEquivalence}
use Rattle.std.specs.List.{AllPairs, list_any, range_with_len}
use Rattle.std.specs.Set.{distinct_count}
use Rattle.std.specs.Str.{bytes_eq}
use Rattle.std.proofs.lemmas.Bool.{cases_Bool, eqb-true, true≢false}
use Rattle.std.proofs.lemmas.List.{get_or-map, get_or_default, length-map}
use Rattle.std.proofs.lemmas.List.FromFn.{get_or-range_with_len, length-range_with_len}
use Rattle.std.proofs.lemmas.List.Kept.{AllPairs-filter}
use Rattle.std.proofs.lemmas.Map.Made.{IsDistinct-from_count, AllPairs-from_IsDistinct}
use Rattle.std.proofs.lemmas.Slice.Eq.{bytes_eq-Decides}
use Rattle.blz_value.specs.Members.{Has}
use Rattle.blz_value.proofs.Membership.{Has-get_or, Has-from_map, Has-from_filter, Has-from_any, Contains-from_Has, any_from_Has}
use Rattle.blz_value.proofs.Booleans.{not_false, neither}
use Rattle.blz_value.proofs.Ranges.{Has-below as from_below}
use Rattle.bloom_forms.specs.declared.module.Kind.TheVariants.{Input}
use Rattle.bloom_forms.specs.declared.module.Collection.{Collection}
use Rattle.bloom_forms.specs.declared.program.Program.{Program}
use Rattle.bloom_forms.specs.declared.program.Program.TheVariants as program
use Rattle.bloom_forms.specs.Checks.{IsChecked}
use Rattle.bloom_forms.specs.Fits.{has_name, repeats}
use Rattle.bloom_forms.specs.Kinds.{same_kind, of_kind}
use Rattle.bloom_forms.specs.Query.{Name}
use Rattle.bloom_forms.specs.StockSteps.{keys_in_order}
use Rattle.bloom_forms.specs.Program.{port_columns}
use Rattle.topo_forms.specs.declared.topology.Stock.{Stock}
use Rattle.topo_forms.specs.declared.topology.Stock.TheVariants as stock
use Rattle.topo_forms.specs.Validity.Twice.{names_are_distinct, repeats_in_stock}
use Rattle.topo_forms.specs.Sites.{stock_program}

-- no port of it has a column twice
abbrev pub HasOwnPorts : Program → Type 0
HasOwnPorts p = (columns : List Name) → Has columns (port_columns p) → repeats columns ≡ false

-- ---- lists without repeats

no_name : (x : Name) (xs : List Name) → ((i : ℕ) → i < length xs → x ≢ get_or xs i []) → has_name xs x ≡ false
no_name x xs none = elim (cases_Bool (has_name xs x)) [
  | inr f ↦ f
  | inl t ↦
      let m = Has-from_any (λ held. bytes_eq held x) xs t in
      let place = Contains-from_Has xs m.0 m.1 in
      let same : m.0 ≡ x = (bytes_eq-Decides m.0 x).0 m.2 in
      absurd (none place.0 place.1 (sym same ∙ sym place.2 ∙ get_or_default xs place.0 m.0 [] place.1))
]

no_repeats : (xs : List Name) → ((i j : ℕ) → i < j → j < length xs → get_or xs i [] ≢ get_or xs j []) → repeats xs ≡ false
no_repeats [] apart = refl
no_repeats (x ∷ xs) apart =
    let first = no_name x xs (λ i lt. apart 0 (suc i) (omega arith) (omega (arith, lt))) in
    let rest = no_repeats xs (λ i j low high. apart (suc i) (suc j) (omega (arith, low)) (omega (arith, high))) in
    ap (λ (b : Bool). b || repeats xs) first ∙ rest

pub distinct_places : (columns : List Name) → repeats columns ≡ false → (n k : ℕ) → n < length columns → k < length columns → get_or columns n [] ≡ get_or columns k [] → n ≡ k
distinct_places [] distinct n k low high e = absurd (omega (arith, low))
distinct_places (c ∷ cs) distinct zero zero low high e = refl
distinct_places (c ∷ cs) distinct zero (suc k) low high e =
    let none = neither (has_name cs c) (repeats cs) distinct in
    let yes : bytes_eq (get_or cs k []) c ≡ true = (bytes_eq-Decides (get_or cs k []) c).1 (sym e) in
    absurd (true≢false (sym (any_from_Has (λ held. bytes_eq held c) (get_or cs k []) cs (Has-get_or cs k [] (omega (arith, high))) yes) ∙ none.0))
distinct_places (c ∷ cs) distinct (suc n) zero low high e =
    let none = neither (has_name cs c) (repeats cs) distinct in
    let yes : bytes_eq (get_or cs n []) c ≡ true = (bytes_eq-Decides (get_or cs n []) c).1 e in
    absurd (true≢false (sym (any_from_Has (λ held. bytes_eq held c) (get_or cs n []) cs (Has-get_or cs n [] (omega (arith, low))) yes) ∙ none.0))
distinct_places (c ∷ cs) distinct (suc n) (suc k) low high e =
    let none = neither (has_name cs c) (repeats cs) distinct in
    ap suc (distinct_places cs none.1 n k (omega (arith, low)) (omega (arith, high)) e)

equal_names : IsEquivalence bytes_eq
equal_names = record {
  refl = λ x. (bytes_eq-Decides x x).1 refl;
  symm = λ x y. both (bytes_eq x y) (bytes_eq y x) (λ e. (bytes_eq-Decides y x).1 (sym ((bytes_eq-Decides x y).0 e))) (λ e. (bytes_eq-Decides x y).1 (sym ((bytes_eq-Decides y x).0 e)));
  congr = λ x y z e. ap (λ (n : Name). bytes_eq n z) ((bytes_eq-Decides x y).0 e);
}
  where
    both : (a b : Bool) → (a ≡ true → b ≡ true) → (b ≡ true → a ≡ true) → a ≡ b
    both true b there back = sym (there refl)
    both false true there back = back refl
    both false false there back = refl

distinct_columns : (columns : List Name) → names_are_distinct columns ≡ true → repeats columns ≡ false
distinct_columns columns h =
    let apart = AllPairs-from_IsDistinct bytes_eq-Decides columns (IsDistinct-from_count equal_names columns (eqb-true (distinct_count bytes_eq columns) (length columns) h)) in
    no_repeats columns (λ i j low high. apart i j [] low high)

-- ---- programs

-- the columns of a stock body are distinct
abbrev pub HasDistinctColumns : Program → Type 0
HasDistinctColumns (program.Module m) = IsChecked m.form m.heads
HasDistinctColumns (program.Split columns split) = repeats columns ≡ false
HasDistinctColumns (program.Latest columns keys) = repeats columns ≡ false
HasDistinctColumns (program.Number columns) = repeats columns ≡ false

some_columns : (columns : List Name) → repeats columns ≡ false → (ns : List ℕ) → ((i j : ℕ) → i < j → j < length ns → get_or ns i 0 < get_or ns j 0) → ((n : ℕ) → Has n ns → n < length columns)
    → repeats (map (λ n. get_or columns n []) ns) ≡ false
some_columns columns distinct ns rising small =
    no_repeats (map (λ n. get_or columns n []) ns) (λ i j low high e.
    let within : j < length ns = subst (λ (n : ℕ). j < n) (length-map ns _) high in
    let before : i < length ns = omega (arith, low, within) in
    let left = get_or-map (λ n. get_or columns n []) ns i 0 [] before in
    let right = get_or-map (λ n. get_or columns n []) ns j 0 [] within in
    let same = distinct_places columns distinct (get_or ns i 0) (get_or ns j 0) (small (get_or ns i 0) (Has-get_or ns i 0 before)) (small (get_or ns j 0) (Has-get_or ns j 0 within)) (sym left ∙ e ∙ right) in
    let less = rising i j low within in
    omega (arith, same, less))

rising_keys : (count : ℕ) (keys : List ℕ) → AllPairs (λ a b. a < b) (keys_in_order count keys)
rising_keys count keys = AllPairs-filter (λ a b. a < b) (λ column. list_any (λ key. key == column) keys) (range_with_len 0 count) (λ i j d low high.
    let within : j < count = subst (λ (n : ℕ). j < n) (length-range_with_len 0 count) high in
    let left = get_or-range_with_len 0 count i d (omega (arith, low, within)) in
    let right = get_or-range_with_len 0 count j d within in
    omega (arith, left, right, low))

pub own_ports : (p : Program) → HasDistinctColumns p → HasOwnPorts p
own_ports (program.Module m) checked columns h =
    let c = Has-from_map (λ (c : Collection). c.columns) columns (of_kind Input m.form.collections) h in
    subst (λ (l : List Name). repeats l ≡ false) c.2 (checked.collections c.0 (Has-from_filter (λ (c : Collection). same_kind Input c.kind) c.0 m.form.collections c.1).0).distinct
own_ports (program.Split own split) distinct columns h = elim h [ inl e ↦ subst (λ (l : List Name). repeats l ≡ false) e distinct | inr none ↦ absurd none ]
own_ports (program.Latest own keys) distinct columns h = elim h [
  | inl e ↦ subst (λ (l : List Name). repeats l ≡ false) e distinct
  | inr ask ↦ elim ask [
    | inl e ↦
        let ns = keys_in_order (length own) keys in
        subst (λ (l : List Name). repeats l ≡ false) e
        (some_columns own distinct ns (λ i j low high. rising_keys (length own) keys i j 0 low high) (λ n m. from_below (length own) n (Has-from_filter (λ column. list_any (λ key. key == column) keys) n (range_with_len 0 (length own)) m).0))
    | inr none ↦ absurd none
  ]
]
own_ports (program.Number own) distinct columns h = elim h [ inl e ↦ subst (λ (l : List Name). repeats l ≡ false) e distinct | inr none ↦ absurd none ]

pub stock_distinct : (s : Stock) → repeats_in_stock s ≡ false → HasDistinctColumns (stock_program s)
stock_distinct (stock.Split columns split) none = distinct_columns columns (not_false (names_are_distinct columns) none)
stock_distinct (stock.Latest columns keys) none = distinct_columns columns (not_false (names_are_distinct columns) (neither (not (names_are_distinct columns)) (not (names_are_distinct keys)) none).0)
stock_distinct (stock.Number columns) none = distinct_columns columns (not_false (names_are_distinct columns) none)
