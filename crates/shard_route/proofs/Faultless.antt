-- A copy of a module without a fault has none, but that its rules may be too deep.
use Rattle.std.proofs.Common.{◌≡◌, ◌∙◌, ◌&&◌, ◌||◌, ◌+◌, not, ℕ, Bool, true, false, if◌then◌else◌, nat_lt, bit_or, pos, None, Some, List, [], ◌∷◌, ◌++◌, length, map, refl, ap, sym, inl, inr}
use Rattle.std.specs.Prelude.{◌==◌, int_lt}
use Rattle.std.specs.List.{list_all, list_any}
use Rattle.std.specs.Option.{option_or}
use Rattle.std.proofs.lemmas.Bool.{cases_Bool}
use Rattle.std.proofs.lemmas.List.Folds.{list_any-append}
use Rattle.blz_value.specs.FirstPlace.{first_place}
use Rattle.blz_value.specs.Members.{Has}
use Rattle.blz_value.specs.Bits.{meets}
use Rattle.blz_value.specs.Closure.{closure}
use Rattle.bloom_forms.specs.declared.fault.ModuleFault.{ModuleFault}
use Rattle.bloom_forms.specs.declared.fault.ModuleKind.{ModuleKind}
use Rattle.bloom_forms.specs.declared.fault.ModuleKind.TheVariants as kind
use Rattle.bloom_forms.specs.declared.module.Collection.{Collection}
use Rattle.bloom_forms.specs.Bounds.{most_levels, query_levels, formulas_of, is_long, passes_bounds}
use Rattle.bloom_forms.specs.Checks.{IsChecked}
use Rattle.bloom_forms.specs.Columns.{columns_of, joined_columns}
use Rattle.bloom_forms.specs.Faults.{bad_collection, at_places, later_kinds}
use Rattle.bloom_forms.specs.FirstFault.{mixes_momentary, is_faulty, fault_among, first_fault}
use Rattle.bloom_forms.specs.Fits.{has_name, are_columns, formula_fits, pairs_fit, items_fit, keys_fit, aggregate_fits, query_fits}
use Rattle.bloom_forms.specs.Form.{RuleForm, Form}
use Rattle.bloom_forms.specs.Heads.{names_of}
use Rattle.bloom_forms.specs.Kinds.{has_kind, is_input, is_head, is_readable, is_scratch}
use Rattle.bloom_forms.specs.Lookup.{collection_number, declared}
use Rattle.bloom_forms.specs.Query.{Name, Formula, Query}
use Rattle.bloom_forms.specs.Query.Query.{base, select, project, join, notin, group, at_least}
use Rattle.bloom_forms.specs.Reads.{set_of_name, named, arrows, scratch_arrows, cone, kind_set, is_momentary}
use Rattle.blz_value.specs.Arrows.{arrow_from}
use Rattle.blz_value.proofs.Lists.{none_any, any-none}
use Rattle.blz_value.proofs.Booleans.{none_of, neither}
use Rattle.bloom_forms.specs.Shards.{over_bucket, copied_rule}
use Rattle.shard_route.specs.Copies.{copied_form, is_too_deep}
use Rattle.shard_route.specs.Copying.{IsTestOf}

-- How the proof goes.
-- A copy's expression names the same collections and has the same columns, so all but the bounds is as before.
-- So each test of each kind answers the same of a rule and of its copy, and the first fault is the same.

twice : (b : Bool) → (b && b) ≡ b
twice true = refl
twice false = refl

module _ (cs : List Collection) (test : Formula) where
  abbrev copied : Query → Query
  copied q = over_bucket cs test q

  abbrev copied_rules : List RuleForm → List RuleForm
  copied_rules rules = map (copied_rule cs test) rules

  -- ---- names, columns and what fits

  pub same_names : (q : Query) → names_of (copied q) ≡ names_of q
  same_names (base name) = elim (cases_Bool (has_kind is_input cs name)) [ inl t ↦ rw t refl | inr f ↦ rw f refl ]
  same_names (select q f) = same_names q
  same_names (project q items) = same_names q
  same_names (join a b pairs) = λ i. same_names a i ++ same_names b i
  same_names (notin a b pairs) = λ i. same_names a i ++ same_names b i
  same_names (group q keys agg name) = same_names q
  same_names (at_least q keys bound) = same_names q

  pub same_named : (q : Query) → named cs (copied q) ≡ named cs q
  same_named (base name) = elim (cases_Bool (has_kind is_input cs name)) [ inl t ↦ rw t refl | inr f ↦ rw f refl ]
  same_named (select q f) = same_named q
  same_named (project q items) = same_named q
  same_named (join a b pairs) = λ i. bit_or (same_named a i) (same_named b i)
  same_named (notin a b pairs) = λ i. bit_or (same_named a i) (same_named b i)
  same_named (group q keys agg name) = same_named q
  same_named (at_least q keys bound) = same_named q

  same_columns : (q : Query) → columns_of (declared cs) (copied q) ≡ columns_of (declared cs) q
  same_columns (base name) = elim (cases_Bool (has_kind is_input cs name)) [ inl t ↦ rw t refl | inr f ↦ rw f refl ]
  same_columns (select q f) = same_columns q
  same_columns (project q items) = refl
  same_columns (join a b pairs) = λ i. joined_columns (same_columns a i) (same_columns b i) pairs
  same_columns (notin a b pairs) = same_columns a
  same_columns (group q keys agg name) = refl
  same_columns (at_least q keys bound) = refl

  -- ---- what is read

  pub same_arrows : (rules : List RuleForm) → arrows cs (copied_rules rules) ≡ arrows cs rules
  same_arrows [] = refl
  same_arrows (r ∷ rules) = λ i. arrow_from (set_of_name cs r.0) (same_named r.1 i) ∷ same_arrows rules i

  same_scratch_arrows : (rules : List RuleForm) → scratch_arrows cs (copied_rules rules) ≡ scratch_arrows cs rules
  same_scratch_arrows [] = refl
  same_scratch_arrows (r ∷ rules) = λ i. arrow_from (set_of_name cs r.0) (if has_kind is_scratch cs r.0 then same_named r.1 i else 0) ∷ same_scratch_arrows rules i

  module _ (rules : List RuleForm) where
    same_cone : (q : Query) → cone cs (copied_rules rules) (copied q) ≡ cone cs rules q
    same_cone q = λ i. closure (same_named q i) (same_arrows rules i)

    same_momentary : (q : Query) → is_momentary cs (copied_rules rules) (copied q) ≡ is_momentary cs rules q
    same_momentary q = λ i. meets (kind_set is_input cs) (closure (same_named q i) (same_scratch_arrows rules i))

    same_mixes : (q : Query) → mixes_momentary cs (copied_rules rules) (copied q) ≡ mixes_momentary cs rules q
    same_mixes (base name) = elim (cases_Bool (has_kind is_input cs name)) [ inl t ↦ rw t refl | inr f ↦ rw f refl ]
    same_mixes (select q f) = same_mixes q
    same_mixes (project q items) = same_mixes q
    same_mixes (join a b pairs) = λ i. same_mixes a i || (same_mixes b i || (same_momentary a i && same_momentary b i))
    same_mixes (notin a b pairs) = λ i. same_mixes a i || (same_mixes b i || same_momentary b i)
    same_mixes (group q keys agg name) = λ i. same_mixes q i || same_momentary q i
    same_mixes (at_least q keys bound) = λ i. same_mixes q i || same_momentary q i

    same_heads : (name : Name) (some : List RuleForm)
        → list_any (λ (r : RuleForm). (collection_number cs r.0 == collection_number cs name) && is_momentary cs (copied_rules rules) r.1) (copied_rules some)
        ≡ list_any (λ (r : RuleForm). (collection_number cs r.0 == collection_number cs name) && is_momentary cs rules r.1) some
    same_heads name [] = refl
    same_heads name (r ∷ some) = λ i. ((collection_number cs r.0 == collection_number cs name) && same_momentary r.1 i) || same_heads name some i

-- ---- where the test is one of a column that each port has

module _ (cs : List Collection) (column : Name) (test : Formula) (is : IsTestOf column test) (ports : (n : Name) → has_kind is_input cs n ≡ true → has_name (declared cs n) column ≡ true) where
  port_fits : (columns : List Name) → has_name columns column ≡ true → (are_columns columns && (formula_fits columns test && are_columns columns)) ≡ are_columns columns
  port_fits columns has = rw (is.fits columns has) (twice (are_columns columns))

  same_fits : (q : Query) → query_fits (declared cs) (over_bucket cs test q) ≡ query_fits (declared cs) q
  same_fits (base name) = elim (cases_Bool (has_kind is_input cs name)) [ inl t ↦ rw t (port_fits (declared cs name) (ports name t)) | inr f ↦ rw f refl ]
  same_fits (select q f) = λ i. same_fits q i && (formula_fits (same_columns cs test q i) f && are_columns (same_columns cs test q i))
  same_fits (project q items) = λ i. same_fits q i && (items_fit (same_columns cs test q i) items && are_columns (map (λ (item : Name × Name). item.1) items))
  same_fits (join a b pairs) = λ i. same_fits a i && (same_fits b i && (pairs_fit (same_columns cs test a i) (same_columns cs test b i) pairs && are_columns (joined_columns (same_columns cs test a i) (same_columns cs test b i) pairs)))
  same_fits (notin a b pairs) = λ i. same_fits a i && (same_fits b i && (pairs_fit (same_columns cs test a i) (same_columns cs test b i) pairs && are_columns (same_columns cs test a i)))
  same_fits (group q keys agg name) = λ i. same_fits q i && ((keys_fit (same_columns cs test q i) keys && aggregate_fits (same_columns cs test q i) agg) && are_columns (keys ++ name ∷ []))
  same_fits (at_least q keys bound) = λ i. same_fits q i && ((keys_fit (same_columns cs test q i) keys && int_lt (pos 0) bound) && are_columns keys)

  -- ---- bounds

  two_short : (xs ys others more : List Formula) → (list_any is_long xs ≡ false → list_any is_long others ≡ false) → (list_any is_long ys ≡ false → list_any is_long more ≡ false) → list_any is_long (xs ++ ys) ≡ false → list_any is_long (others ++ more) ≡ false
  two_short xs ys others more f g e =
      let n = neither (list_any is_long xs) (list_any is_long ys) (sym (list_any-append is_long xs ys) ∙ e) in
      list_any-append is_long others more ∙ none_of (list_any is_long others) (list_any is_long more) (f n.0) (g n.1)

  no_longer : (q : Query) → list_any is_long (formulas_of q) ≡ false → list_any is_long (formulas_of (over_bucket cs test q)) ≡ false
  no_longer (base name) e = elim (cases_Bool (has_kind is_input cs name)) [ inl t ↦ rw t (none_of (is_long test) false is.short refl) | inr f ↦ rw f refl ]
  no_longer (select q f) e = let n = neither (is_long f) (list_any is_long (formulas_of q)) e in none_of (is_long f) (list_any is_long (formulas_of (over_bucket cs test q))) n.0 (no_longer q n.1)
  no_longer (project q items) e = no_longer q e
  no_longer (join a b pairs) e = two_short (formulas_of a) (formulas_of b) (formulas_of (over_bucket cs test a)) (formulas_of (over_bucket cs test b)) (no_longer a) (no_longer b) e
  no_longer (notin a b pairs) e = two_short (formulas_of a) (formulas_of b) (formulas_of (over_bucket cs test a)) (formulas_of (over_bucket cs test b)) (no_longer a) (no_longer b) e
  no_longer (group q keys agg name) e = no_longer q e
  no_longer (at_least q keys bound) e = no_longer q e

  -- a rule within the bounds whose copy isn't too deep
  record IsKept (r : RuleForm) : Type 0 where
    bounded : passes_bounds r.1 ≡ false
    shallow : nat_lt most_levels (query_levels (over_bucket cs test r.1)) ≡ false

  copy_bounded : (r : RuleForm) → IsKept r → passes_bounds (over_bucket cs test r.1) ≡ false
  copy_bounded r k =
      let n = neither (nat_lt most_levels (query_levels r.1)) (list_any is_long (formulas_of r.1)) k.bounded in
      none_of (nat_lt most_levels (query_levels (over_bucket cs test r.1))) (list_any is_long (formulas_of (over_bucket cs test r.1))) k.shallow (no_longer r.1 n.1)

  -- ---- faults

  module _ (rules : List RuleForm) where
    same_faulty : (k : ModuleKind) (n : ℕ) (r : RuleForm) → IsKept r
        → is_faulty k cs (map (copied_rule cs test) rules) n (copied_rule cs test r) ≡ is_faulty k cs rules n r
    same_faulty kind.TooMany n r kept = ap (λ b. nat_lt 63 n || b) (copy_bounded r kept ∙ sym kept.bounded)
    same_faulty kind.Twice n r kept = refl
    same_faulty kind.Unknown n r kept = λ i. not (has_kind is_head cs r.0 && list_all (has_kind is_readable cs) (same_names cs test r.1 i))
    same_faulty kind.Columns n r kept = λ i. not (same_fits r.1 i && length (same_columns cs test r.1 i) == length (declared cs r.0))
    same_faulty kind.Recursive n r kept = λ i. meets (set_of_name cs r.0) (same_cone cs test rules r.1 i)
    same_faulty kind.MomentaryMix n r kept = same_mixes cs test rules r.1
    same_faulty kind.MixedScratch n r kept = λ i. has_kind is_scratch cs r.0 && (not (same_momentary cs test rules r.1 i) && same_heads cs test rules r.0 rules i)

    same_place : (k : ModuleKind) (n : ℕ) (some : List RuleForm) → ((r : RuleForm) → Has r some → IsKept r)
        → first_place (is_faulty k cs (map (copied_rule cs test) rules)) n (map (copied_rule cs test) some) ≡ first_place (is_faulty k cs rules) n some
    same_place k n [] kept = refl
    same_place k n (r ∷ some) kept = λ i. if same_faulty k n r (kept r (inl refl)) i then Some n else same_place k (n + 1) some (λ s h. kept s (inr h)) i

    same_among : (kinds : List ModuleKind) → ((r : RuleForm) → Has r rules → IsKept r) → fault_among kinds cs (map (copied_rule cs test) rules) ≡ fault_among kinds cs rules
    same_among [] kept = refl
    same_among (k ∷ kinds) kept = λ i. option_or (at_places k (first_place (bad_collection k cs) 0 cs) (same_place k 0 rules kept i)) (same_among kinds kept i)

    kept_rules : ((r : RuleForm) → Has r rules → passes_bounds r.1 ≡ false) → list_any (λ (r : RuleForm). nat_lt most_levels (query_levels r.1)) (map (copied_rule cs test) rules) ≡ false
        → (r : RuleForm) → Has r rules → IsKept r
    kept_rules least levels r h = record { bounded = least r h; shallow = any-none (λ (s : RuleForm). nat_lt most_levels (query_levels (over_bucket cs test s.1))) rules (go rules levels) r h }
      where
        go : (some : List RuleForm) → list_any (λ (s : RuleForm). nat_lt most_levels (query_levels s.1)) (map (copied_rule cs test) some) ≡ false
            → list_any (λ (s : RuleForm). nat_lt most_levels (query_levels (over_bucket cs test s.1))) some ≡ false
        go [] e = refl
        go (s ∷ some) e = let n = neither (nat_lt most_levels (query_levels (over_bucket cs test s.1))) (list_any (λ (t : RuleForm). nat_lt most_levels (query_levels t.1)) (map (copied_rule cs test) some)) e in
            none_of (nat_lt most_levels (query_levels (over_bucket cs test s.1))) (list_any (λ (t : RuleForm). nat_lt most_levels (query_levels (over_bucket cs test t.1))) some) n.0 (go some n.1)

-- ---- a checked module

module _ (m : Form) (heads : List ℕ) (checked : IsChecked m heads) (column : Name) (test : Formula) (is : IsTestOf column test) (ports : (n : Name) → has_kind is_input m.collections n ≡ true → has_name (declared m.collections n) column ≡ true) where
  bounded_rules : (r : RuleForm) → Has r m.rules → passes_bounds r.1 ≡ false
  bounded_rules r h = (checked.rules r h).bounded

  -- a copy that isn't too deep has no fault
  pub faultless : is_too_deep (copied_form m test) ≡ false → first_fault (copied_form m test) ≡ None
  faultless levels = same_among m.collections column test is ports m.rules (kind.TooMany ∷ later_kinds) (kept_rules m.collections column test is ports m.rules bounded_rules levels) ∙ checked.clean

  -- a copy with a fault is too deep
  pub deep : (fault : ModuleFault) → first_fault (copied_form m test) ≡ Some fault → is_too_deep (copied_form m test) ≡ true
  deep fault e = elim (cases_Bool (is_too_deep (copied_form m test))) [ inl t ↦ t | inr f ↦ absurd (let bad : None ≡ Some fault = sym (faultless f) ∙ e in cc) ]

-- a module without a fault isn't too deep
pub not_deep : (m : Form) (heads : List ℕ) → IsChecked m heads → is_too_deep m ≡ false
not_deep m heads checked = none_any (λ (r : RuleForm). nat_lt most_levels (query_levels r.1)) m.rules
    (λ r h. (neither (nat_lt most_levels (query_levels r.1)) (list_any is_long (formulas_of r.1)) ((checked.rules r h).bounded)).0)
