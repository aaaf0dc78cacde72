-- The faults that are found by arrows and sets of bits are those by what is read.
use Rattle.std.proofs.Common.{◌≡◌, ◌≤◌, ◌<◌, ◌&&◌, ◌||◌, not, ℕ, Bool, true, false, Option, None, Some, List, [], ◌∷◌, length, refl, ap, ◌∙◌, sym, subst, inl, inr, ◌⊎◌, arith}
use Rattle.std.specs.Prelude.{◌==◌}
use Rattle.std.specs.Option.{option_or}
use Rattle.std.proofs.lemmas.Bool.{cases_Bool, eq-eqb, eqb-true, and_parts, and_from, true≢false}
use Rattle.blz_value.specs.FirstPlace.{first_place}
use Rattle.blz_value.proofs.Membership.{any_from_Has, Has-from_any}
use Rattle.blz_value.specs.Bits.{bit_of, meets}
use Rattle.bloom_forms.specs.declared.fault.ModuleFault.{ModuleFault}
use Rattle.bloom_forms.specs.declared.fault.ModuleKind.{ModuleKind}
use Rattle.bloom_forms.specs.declared.fault.ModuleKind.TheVariants as kind
use Rattle.bloom_forms.specs.declared.module.Collection.{Collection}
use Rattle.bloom_forms.specs.Faults.{mixes, is_mixed, bad_collection, bad_rule, at_places, kind_fault, fault_in, later_kinds, fault_of}
use Rattle.bloom_forms.specs.FirstFault.{mixes_momentary, has_momentary_rule, is_mixed_scratch, is_faulty, fault_at, fault_among, first_fault}
use Rattle.bloom_forms.specs.Form.{RuleForm, Form}
use Rattle.bloom_forms.specs.Kinds.{has_kind, is_input, is_scratch}
use Rattle.bloom_forms.specs.Lookup.{collection_number}
use Rattle.bloom_forms.specs.Query.{Name, Query}
use Rattle.bloom_forms.specs.Query.Query.{base, select, project, join, notin, group, at_least}
use Rattle.bloom_forms.specs.Reads.{set_of_name, scratch_arrows, kind_set, is_momentary, facts_of, momentary_heads, reads_input}
use Rattle.bloom_forms.proofs.Collections.Chosen.{from_chosen, in_chosen}
use Rattle.bloom_forms.proofs.Faults.Firsts.{are_few}
use Rattle.bloom_forms.proofs.Reach.Unfolding.{number_small}

module _ (cs : List Collection) (rules : List RuleForm) where
  mixes_same : (q : Query) → mixes cs (facts_of cs rules) q ≡ mixes_momentary cs rules q
  mixes_same (base n) = refl
  mixes_same (select q f) = mixes_same q
  mixes_same (project q items) = mixes_same q
  mixes_same (join a b pairs) = λ i. mixes_same a i || (mixes_same b i || (is_momentary cs rules a && is_momentary cs rules b))
  mixes_same (notin a b pairs) = λ i. mixes_same a i || (mixes_same b i || is_momentary cs rules b)
  mixes_same (group q keys agg name) = λ i. mixes_same q i || is_momentary cs rules q
  mixes_same (at_least q keys bound) = λ i. mixes_same q i || is_momentary cs rules q

  module _ (few : length cs ≤ 32) where
    -- the heads that have a momentary rule
    heads_same : (name : Name) → meets (set_of_name cs name) (momentary_heads cs (scratch_arrows cs rules) (kind_set is_input cs) rules) ≡ has_momentary_rule cs rules name
    heads_same name = go (cases_Bool (has_momentary_rule cs rules name))
      where
        small : (n : Name) → collection_number cs n < 64
        small n = omega (arith, number_small cs n, few)

        go : (has_momentary_rule cs rules name ≡ true) ⊎ (has_momentary_rule cs rules name ≡ false) → meets (set_of_name cs name) (momentary_heads cs (scratch_arrows cs rules) (kind_set is_input cs) rules) ≡ has_momentary_rule cs rules name
        go (inl t) =
            let found = Has-from_any (λ (r : RuleForm). collection_number cs r.0 == collection_number cs name && is_momentary cs rules r.1) rules t in
            let both = and_parts (collection_number cs found.0.0 == collection_number cs name) (is_momentary cs rules found.0.1) found.2 in
            let there = in_chosen (λ (r : RuleForm). reads_input cs (scratch_arrows cs rules) (kind_set is_input cs) r.1) (λ (r : RuleForm). collection_number cs r.0) rules found.0 found.1 both.1 (small found.0.0) in
            subst (λ (k : ℕ). meets (bit_of k) (momentary_heads cs (scratch_arrows cs rules) (kind_set is_input cs) rules) ≡ true) (eqb-true (collection_number cs found.0.0) (collection_number cs name) both.0) there ∙ sym t
        go (inr f) = elim (cases_Bool (meets (set_of_name cs name) (momentary_heads cs (scratch_arrows cs rules) (kind_set is_input cs) rules))) [
          | inr g ↦ g ∙ sym f
          | inl t ↦ absurd (
              let c = from_chosen (λ (r : RuleForm). reads_input cs (scratch_arrows cs rules) (kind_set is_input cs) r.1) (λ (r : RuleForm). collection_number cs r.0) rules (collection_number cs name) (small name) t in
              let yes = any_from_Has (λ (r : RuleForm). collection_number cs r.0 == collection_number cs name && is_momentary cs rules r.1) c.element rules c.stands (and_from (collection_number cs c.element.0 == collection_number cs name) (is_momentary cs rules c.element.1) (eq-eqb (collection_number cs c.element.0) (collection_number cs name) c.is) c.passes) in
              true≢false (sym yes ∙ f)
              )
        ]

    mixed_same : (r : RuleForm) → is_mixed cs (facts_of cs rules) r ≡ is_mixed_scratch cs rules r
    mixed_same r = ap (λ (b : Bool). has_kind is_scratch cs r.0 && (not (is_momentary cs rules r.1) && b)) (heads_same r.0)

    rule_same : (k : ModuleKind) (i : ℕ) (r : RuleForm) → bad_rule k cs (facts_of cs rules) i r ≡ is_faulty k cs rules i r
    rule_same kind.TooMany i r = refl
    rule_same kind.Twice i r = refl
    rule_same kind.Unknown i r = refl
    rule_same kind.Columns i r = refl
    rule_same kind.Recursive i r = refl
    rule_same kind.MomentaryMix i r = mixes_same r.1
    rule_same kind.MixedScratch i r = mixed_same r

    kind_same : (k : ModuleKind) → kind_fault (facts_of cs rules) k cs rules ≡ fault_at k cs rules
    kind_same k = λ j. at_places k (first_place (bad_collection k cs) 0 cs) (first_place (λ (i : ℕ) (r : RuleForm). rule_same k i r j) 0 rules)

    kinds_same : (kinds : List ModuleKind) → fault_in (facts_of cs rules) kinds cs rules ≡ fault_among kinds cs rules
    kinds_same [] = refl
    kinds_same (k ∷ kinds) = λ j. option_or (kind_same k j) (kinds_same kinds j)

-- the first fault is the same
pub fault_same : (m : Form) → fault_of m ≡ first_fault m
fault_same m = go (kind_fault (facts_of m.collections m.rules) kind.TooMany m.collections m.rules) refl
  where
    go : (o : Option ModuleFault) → kind_fault (facts_of m.collections m.rules) kind.TooMany m.collections m.rules ≡ o → fault_of m ≡ first_fault m
    go None is = kinds_same m.collections m.rules (are_few m.collections (facts_of m.collections m.rules) m.rules is).0 (kind.TooMany ∷ later_kinds)
    go (Some fault) is =
        ap (λ (o : Option ModuleFault). option_or o (fault_in (facts_of m.collections m.rules) later_kinds m.collections m.rules)) is
        ∙ sym (ap (λ (o : Option ModuleFault). option_or o (fault_among later_kinds m.collections m.rules)) is)
