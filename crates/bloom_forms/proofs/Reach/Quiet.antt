-- The rows of an expression where what it reads has none, and of a momentary one where nothing arrives.
use Rattle.std.proofs.Common.{◌≡◌, ◌<◌, ◌≤◌, length, ◌||◌, ◌&&◌, ℕ, Bool, true, false, not, bit_or, Some, Option, List, [], ◌∷◌, refl, ap, ◌∙◌, sym, subst, inl, inr, ◌⊎◌, arith}
use Rattle.std.specs.Option.{option_map_or}
use Rattle.std.proofs.lemmas.Bool.{or_cases, true≢false}
use Rattle.blz_value.specs.Members.{Has}
use Rattle.blz_value.specs.Operators.{Pairs, select_rows, project_rows, join_rows, notin_rows}
use Rattle.blz_value.specs.Groups.{group_rows, at_least_rows}
use Rattle.blz_value.specs.Record.{Row}
use Rattle.blz_value.specs.Sets.{set_of}
use Rattle.blz_value.proofs.Membership.{Has-append_left, Has-append_right}
use Rattle.blz_value.specs.Bits.{bit_of, meets}
use Rattle.blz_value.proofs.Within.{within-refl}
use Rattle.blz_value.proofs.Members.{meets-some, some-meets, in-bit, bit-in, in-or, within-meets, one_number}
use Rattle.blz_value.proofs.Booleans.{neither}
use Rattle.bloom_forms.proofs.Reach.MomentaryLemmas.{kind_is}
use Rattle.bloom_forms.specs.declared.module.Kind.{Kind}
use Rattle.bloom_forms.specs.declared.module.Kind.TheVariants.{Input, Output, Table, Scratch}
use Rattle.bloom_forms.specs.declared.module.Collection.{Collection}
use Rattle.bloom_forms.specs.Columns.{columns_of, pair_numbers}
use Rattle.bloom_forms.specs.Equations.{Env}
use Rattle.bloom_forms.specs.Faults.{mixes, is_mixed}
use Rattle.bloom_forms.specs.Form.{RuleForm}
use Rattle.bloom_forms.specs.Heads.{names_of}
use Rattle.bloom_forms.specs.Kinds.{has_kind, is_input, is_scratch, kind_at}
use Rattle.bloom_forms.specs.Lookup.{collection_number, kind_of}
use Rattle.bloom_forms.specs.Query.{Name, Query}
use Rattle.bloom_forms.specs.Query.Query.{base, select, project, join, notin, group, at_least}
use Rattle.bloom_forms.specs.Reads.{set_of_name, named, scratch_arrows, kind_set, is_momentary, facts_of, momentary_heads, reads_input}
use Rattle.bloom_forms.specs.Rows.{formula_holds, item_numbers, column_numbers, numbered_agg, row_bound, rows_of}
use Rattle.bloom_forms.proofs.Collections.Chosen.{in_chosen}
use Rattle.bloom_forms.proofs.Collections.KindSets.{in_kind_set, from_kind_set, kind_set-lt, kind-named}
use Rattle.bloom_forms.proofs.Collections.Numbers.{kind-number}
use Rattle.bloom_forms.proofs.Faults.Ordering.{in_named}
use Rattle.bloom_forms.proofs.Reach.Unfolding.{number_small, bit_small, momentary_unfolds, momentary_folds}

-- ---- rows of no rows

-- no row agrees with one of none
pub no_matches : (pairs : Pairs) (lefts : List Row) → join_rows pairs lefts [] ≡ []
no_matches pairs [] = refl
no_matches pairs (left ∷ lefts) = no_matches pairs lefts

-- where every collection is empty, so is every expression
pub empty_rows : (columns : Name → List Name) (env : Env) → ((n : Name) → env n ≡ []) → (q : Query) → rows_of columns env q ≡ []
empty_rows columns env none (base n) = none n
empty_rows columns env none (select q f) = ap (λ rows. set_of (select_rows (formula_holds (columns_of columns q) f) rows)) (empty_rows columns env none q)
empty_rows columns env none (project q items) = ap (λ rows. set_of (project_rows (item_numbers (columns_of columns q) items) rows)) (empty_rows columns env none q)
empty_rows columns env none (join a b pairs) = ap (λ rows. set_of (join_rows (pair_numbers (columns_of columns a) (columns_of columns b) pairs) rows (rows_of columns env b))) (empty_rows columns env none a)
empty_rows columns env none (notin a b pairs) = ap (λ rows. set_of (notin_rows (pair_numbers (columns_of columns a) (columns_of columns b) pairs) rows (rows_of columns env b))) (empty_rows columns env none a)
empty_rows columns env none (group q keys agg name) = ap (λ rows. set_of (group_rows (column_numbers (columns_of columns q) keys) (numbered_agg (columns_of columns q) agg) rows)) (empty_rows columns env none q)
empty_rows columns env none (at_least q keys bound) = ap (λ rows. set_of (at_least_rows (column_numbers (columns_of columns q) keys) (row_bound bound) rows)) (empty_rows columns env none q)

-- ---- which expressions are momentary

pub only_input : (kind : Kind) → is_input kind ≡ true → kind ≡ Input
only_input Input e = refl
only_input Output e = cc
only_input Table e = cc
only_input Scratch e = cc

module _ (cs : List Collection) (rules : List RuleForm) (few : length cs ≤ 32) where
  small_number : (n : Name) → collection_number cs n < 64
  small_number n = omega (arith, number_small cs n, few)

  own_number : (n : Name) → meets (bit_of (collection_number cs n)) (bit_of (collection_number cs n)) ≡ true
  own_number n = within-meets (collection_number cs n) (bit_of (collection_number cs n)) (small_number n) (within-refl (bit_of (collection_number cs n)))

  -- a momentary name is a port, or a scratch that has a momentary rule
  pub record IsScratchRule (n : Name) : Type 0 where
    pub rule : RuleForm
    pub stands : Has rule rules
    pub head : collection_number cs rule.0 ≡ collection_number cs n
    pub scratch : has_kind is_scratch cs rule.0 ≡ true
    pub momentary : is_momentary cs rules rule.1 ≡ true

  pub name_momentary : (n : Name) → is_momentary cs rules (base n) ≡ true → (kind_of cs n ≡ Some Input) ⊎ IsScratchRule n
  name_momentary n h = elim (momentary_unfolds cs rules (base n) few h) [
    | inl t ↦
        let k = collection_number cs n in
        let m = meets-some (kind_set is_input cs) (bit_of k) t in
        let small : m.0 < 64 = bit_small (kind_set is_input cs) m.0 (kind_set-lt is_input cs) m.1.0 in
        let same : k ≡ m.0 = one_number m.0 k small (bit-in m.0 (bit_of k) small m.1.1) in
        let found = from_kind_set is_input cs m.0 small (bit-in m.0 (kind_set is_input cs) small m.1.0) in
        inl (sym (kind-number cs n) ∙ ap (kind_at cs) same ∙ found.1 ∙ ap Some (only_input found.0 found.2))
    | inr found ↦ inr (record {
      rule = found.0;
      stands = found.1.rule.stands;
      head = sym (one_number (collection_number cs found.0.0) (collection_number cs n) (small_number found.0.0) found.1.rule.named);
      scratch = found.1.scratch;
      momentary = found.2;
    })
  ]

  pub input_momentary : (n : Name) → kind_of cs n ≡ Some Input → is_momentary cs rules (base n) ≡ true
  input_momentary n is =
      let k = collection_number cs n in
      let there = in_kind_set is_input cs k Input (small_number n) (kind-number cs n ∙ is) refl in
      momentary_folds cs rules (base n) few (inl (some-meets (kind_set is_input cs) (bit_of k) k (in-bit k (kind_set is_input cs) (small_number n) there) (in-bit k (bit_of k) (small_number n) (own_number n))))

  pub scratch_momentary : (n : Name) (rule : RuleForm) → Has rule rules → rule.0 ≡ n → has_kind is_scratch cs n ≡ true → is_momentary cs rules rule.1 ≡ true → is_momentary cs rules (base n) ≡ true
  scratch_momentary n rule stands head scratch t =
      let own : meets (set_of_name cs rule.0) (bit_of (collection_number cs n)) ≡ true = subst (λ (m : Name). meets (set_of_name cs m) (bit_of (collection_number cs n)) ≡ true) (sym head) (own_number n) in
      momentary_folds cs rules (base n) few (inr (rule, record { rule = record { stands = stands; named = own }; scratch = ap (has_kind is_scratch cs) head ∙ scratch }, t))

  -- an expression that names a momentary name is momentary
  pub names_momentary : (q : Query) (n : Name) → Has n (names_of q) → is_momentary cs rules (base n) ≡ true → is_momentary cs rules q ≡ true
  names_momentary q n h t =
      let k = collection_number cs n in
      let inside : meets (bit_of k) (named cs q) ≡ true = in_named cs q n h (small_number n) in
      elim (name_momentary n t) [
        | inl is ↦
            let there = in_kind_set is_input cs k Input (small_number n) (kind-number cs n ∙ is) refl in
            momentary_folds cs rules q few (inl (some-meets (kind_set is_input cs) (named cs q) k (in-bit k (kind_set is_input cs) (small_number n) there) (in-bit k (named cs q) (small_number n) inside)))
        | inr r ↦
            let here : meets (set_of_name cs r.rule.0) (named cs q) ≡ true = subst (λ (j : ℕ). meets (bit_of j) (named cs q) ≡ true) (sym r.head) inside in
            momentary_folds cs rules q few (inr (r.rule, record { rule = record { stands = r.stands; named = here }; scratch = r.scratch }, r.momentary))
      ]

  -- tables aren't momentary
  pub table_later : (n : Name) → kind_of cs n ≡ Some Table → is_momentary cs rules (base n) ≡ true → ⊥
  table_later n is t = elim (name_momentary n t) [
    | inl port ↦ (let bad : Table ≡ Input = kind_is Table Input (sym is ∙ port) in cc)
    | inr r ↦
        let kind = kind-named is_scratch cs r.rule.0 r.scratch in
        let same : Table ≡ kind.0 = kind_is Table kind.0 (sym (kind-number cs n ∙ is) ∙ ap (kind_at cs) (sym r.head) ∙ kind.1) in
        let bad : is_scratch Table ≡ true = subst (λ (k : Kind). is_scratch k ≡ true) (sym same) kind.2 in
        true≢false (sym bad)
  ]

  -- each rule of a momentary scratch is momentary, where none is mixed
  pub rule_momentary : (n : Name) (rule : RuleForm) → kind_of cs n ≡ Some Scratch → rule.0 ≡ n → is_mixed cs (facts_of cs rules) rule ≡ false → is_momentary cs rules (base n) ≡ true → is_momentary cs rules rule.1 ≡ true
  rule_momentary n rule is head pure t = elim (name_momentary n t) [
    | inl port ↦ absurd (let bad : Scratch ≡ Input = kind_is Scratch Input (sym is ∙ port) in cc)
    | inr r ↦
        let heads = momentary_heads cs (scratch_arrows cs rules) (kind_set is_input cs) rules in
        let there : meets (set_of_name cs r.rule.0) heads ≡ true = in_chosen (λ (f : RuleForm). reads_input cs (scratch_arrows cs rules) (kind_set is_input cs) f.1) (λ (f : RuleForm). collection_number cs f.0) rules r.rule r.stands r.momentary (small_number r.rule.0) in
        let here : meets (set_of_name cs rule.0) heads ≡ true = subst (λ (k : ℕ). meets (bit_of k) heads ≡ true) (r.head ∙ ap (collection_number cs) (sym head)) there in
        let scratch : has_kind is_scratch cs rule.0 ≡ true = ap (has_kind is_scratch cs) head ∙ ap (λ (o : Option Kind). option_map_or is_scratch o false) is in
        unmixed (is_momentary cs rules rule.1) (meets (set_of_name cs rule.0) heads) (rw scratch at pure) here
  ]
    where
      unmixed : (x y : Bool) → (true && (not x && y)) ≡ false → y ≡ true → x ≡ true
      unmixed true y e t = refl
      unmixed false true e t = cc
      unmixed false false e t = cc

  -- of two parts that are momentary together one is
  pub either_momentary : (p q : Query) (pairs : List (Name × Name)) → is_momentary cs rules (join p q pairs) ≡ true → (is_momentary cs rules p ≡ true) ⊎ (is_momentary cs rules q ≡ true)
  either_momentary p q pairs h = elim (momentary_unfolds cs rules (join p q pairs) few h) [
    | inl t ↦
        let m = meets-some (kind_set is_input cs) (bit_or (named cs p) (named cs q)) t in
        let small : m.0 < 64 = bit_small (kind_set is_input cs) m.0 (kind_set-lt is_input cs) m.1.0 in
        elim (or_cases _ _ (sym (in-or m.0 (named cs p) (named cs q) small) ∙ bit-in m.0 (bit_or (named cs p) (named cs q)) small m.1.1)) [
          | inl l ↦ inl (momentary_folds cs rules p few (inl (some-meets (kind_set is_input cs) (named cs p) m.0 m.1.0 (in-bit m.0 (named cs p) small l))))
          | inr r ↦ inr (momentary_folds cs rules q few (inl (some-meets (kind_set is_input cs) (named cs q) m.0 m.1.0 (in-bit m.0 (named cs q) small r))))
        ]
    | inr found ↦
        elim (or_cases _ _ (sym (in-or (collection_number cs found.0.0) (named cs p) (named cs q) (small_number found.0.0)) ∙ found.1.rule.named)) [
          | inl l ↦ inl (momentary_folds cs rules p few (inr (found.0, record { rule = record { stands = found.1.rule.stands; named = l }; scratch = found.1.scratch }, found.2)))
          | inr r ↦ inr (momentary_folds cs rules q few (inr (found.0, record { rule = record { stands = found.1.rule.stands; named = r }; scratch = found.1.scratch }, found.2)))
        ]
  ]

  -- a momentary expression has no rows where nothing arrives
  pub momentary_none : (columns : Name → List Name) (env : Env) (q : Query) → mixes cs (facts_of cs rules) q ≡ false → ((n : Name) → Has n (names_of q) → is_momentary cs rules (base n) ≡ true → env n ≡ []) → is_momentary cs rules q ≡ true → rows_of columns env q ≡ []
  momentary_none columns env (base n) unmixed none t = none n (inl refl) t
  momentary_none columns env (select q f) unmixed none t = ap (λ rows. set_of (select_rows (formula_holds (columns_of columns q) f) rows)) (momentary_none columns env q unmixed none t)
  momentary_none columns env (project q items) unmixed none t = ap (λ rows. set_of (project_rows (item_numbers (columns_of columns q) items) rows)) (momentary_none columns env q unmixed none t)
  momentary_none columns env (join a b pairs) unmixed none t =
      let numbers = pair_numbers (columns_of columns a) (columns_of columns b) pairs in
      let parts = neither (mixes cs (facts_of cs rules) a) (mixes cs (facts_of cs rules) b || (is_momentary cs rules a && is_momentary cs rules b)) unmixed in
      let second = neither (mixes cs (facts_of cs rules) b) (is_momentary cs rules a && is_momentary cs rules b) parts.1 in
      elim (either_momentary a b pairs t) [
        | inl l ↦ ap (λ rows. set_of (join_rows numbers rows (rows_of columns env b))) (momentary_none columns env a parts.0 (λ n h. none n (Has-append_left n (names_of a) (names_of b) h)) l)
        | inr r ↦
            ap (λ rows. set_of (join_rows numbers (rows_of columns env a) rows)) (momentary_none columns env b second.0 (λ n h. none n (Has-append_right n (names_of a) (names_of b) h)) r)
            ∙ ap set_of (no_matches numbers (rows_of columns env a))
      ]
  momentary_none columns env (notin a b pairs) unmixed none t =
      let numbers = pair_numbers (columns_of columns a) (columns_of columns b) pairs in
      let parts = neither (mixes cs (facts_of cs rules) a) (mixes cs (facts_of cs rules) b || is_momentary cs rules b) unmixed in
      let second = neither (mixes cs (facts_of cs rules) b) (is_momentary cs rules b) parts.1 in
      elim (either_momentary a b pairs t) [
        | inl l ↦ ap (λ rows. set_of (notin_rows numbers rows (rows_of columns env b))) (momentary_none columns env a parts.0 (λ n h. none n (Has-append_left n (names_of a) (names_of b) h)) l)
        | inr r ↦ absurd (true≢false (sym r ∙ second.1))
      ]
  momentary_none columns env (group q keys agg name) unmixed none t = absurd (true≢false (sym t ∙ (neither (mixes cs (facts_of cs rules) q) (is_momentary cs rules q) unmixed).1))
  momentary_none columns env (at_least q keys bound) unmixed none t = absurd (true≢false (sym t ∙ (neither (mixes cs (facts_of cs rules) q) (is_momentary cs rules q) unmixed).1))
