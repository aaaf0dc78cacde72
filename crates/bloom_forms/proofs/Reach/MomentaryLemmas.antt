-- A name is momentary where it is a port or a scratch with a momentary rule, and a join where a part is.
use Rattle.std.proofs.Common.{◌≡◌, ◌<◌, ◌&&◌, ℕ, Bool, true, false, not, bit_or, Some, List, refl, ap, ◌∙◌, sym, subst, inl, inr, ◌⊎◌}
use Rattle.std.proofs.lemmas.Bool.{cases_Bool, or_cases, true≢false}
use Rattle.blz_value.specs.Members.{Has}
use Rattle.blz_value.specs.Bits.{bit_of, meets}
use Rattle.blz_value.proofs.Within.{within-or_l, within-or_r, within-refl}
use Rattle.blz_value.proofs.Members.{meets-some, some-meets, in-bit, bit-in, in-or, within-meets, one_number, meets_more}
use Rattle.blz_value.proofs.Least.{closure-least}
use Rattle.blz_value.proofs.Reached.{least-monotone}
use Rattle.bloom_forms.specs.declared.module.Kind.{Kind}
use Rattle.bloom_forms.specs.declared.module.Kind.TheVariants.{Input, Output, Table, Scratch}
use Rattle.bloom_forms.specs.declared.module.Collection.{Collection}
use Rattle.bloom_forms.specs.Checks.{IsChecked}
use Rattle.bloom_forms.specs.Faults.{is_mixed}
use Rattle.bloom_forms.specs.Form.{RuleForm, Accepted}
use Rattle.bloom_forms.specs.Kinds.{has_kind, is_input, is_scratch, kind_at}
use Rattle.bloom_forms.specs.Lookup.{collection_number}
use Rattle.bloom_forms.specs.Query.{Name, Query}
use Rattle.bloom_forms.specs.Query.Query.{base, join}
use Rattle.bloom_forms.specs.Reads.{set_of_name, named, scratch_arrows, direct, kind_set, is_momentary, facts_of, momentary_heads, reads_input}
use Rattle.bloom_forms.proofs.Reach.Unfolding.{bit_small, momentary_unfolds, momentary_folds}
use Rattle.bloom_forms.proofs.Collections.Chosen.{in_chosen}
use Rattle.bloom_forms.proofs.Collections.KindSets.{in_kind_set, from_kind_set, kind_set-lt, named-kind, kind-named}
use Rattle.bloom_forms.proofs.Reach.ReadsLemmas.{number_of, small_number, rules_named, rule_stands, IsIn}

pub kind_is : (k l : Kind) → Some k ≡ Some l → k ≡ l
kind_is k l e = cc

module _ (a : Accepted) (checked : IsChecked a.form a.heads) where
  abbrev cs : List Collection
  cs = a.form.collections

  abbrev all_rules : List RuleForm
  all_rules = a.form.rules

  -- an expression is momentary
  abbrev pub now : Query → Bool
  now q = is_momentary cs all_rules q

  -- a port that is read makes an expression momentary
  pub port_now : (q : Query) (n : Name) → IsIn a checked q n → kind_at cs (number_of a checked n) ≡ Some Input → now q ≡ true
  port_now q n inside is =
      let k = number_of a checked n in
      let small = small_number a checked n in
      some-meets (kind_set is_input cs) (direct cs all_rules q) k (in-bit k (kind_set is_input cs) small (in_kind_set is_input cs k Input small is refl)) (in-bit k (direct cs all_rules q) small inside)

  -- ---- two parts

  pub join_now : (p q : Query) (pairs : List (Name × Name)) → now (join p q pairs) ≡ true → (now p ≡ true) ⊎ (now q ≡ true)
  join_now p q pairs h = elim (momentary_unfolds cs all_rules (join p q pairs) checked.few_collections h) [
    | inl t ↦
        let m = meets-some (kind_set is_input cs) (bit_or (named cs p) (named cs q)) t in
        let small : m.0 < 64 = bit_small (kind_set is_input cs) m.0 (kind_set-lt is_input cs) m.1.0 in
        elim (or_cases _ _ (sym (in-or m.0 (named cs p) (named cs q) small) ∙ bit-in m.0 (bit_or (named cs p) (named cs q)) small m.1.1)) [
          | inl l ↦ inl (momentary_folds cs all_rules p checked.few_collections (inl (some-meets (kind_set is_input cs) (named cs p) m.0 m.1.0 (in-bit m.0 (named cs p) small l))))
          | inr r ↦ inr (momentary_folds cs all_rules q checked.few_collections (inl (some-meets (kind_set is_input cs) (named cs q) m.0 m.1.0 (in-bit m.0 (named cs q) small r))))
        ]
    | inr found ↦
        elim (or_cases _ _ (sym (in-or (collection_number cs found.0.0) (named cs p) (named cs q) (small_number a checked found.0.0)) ∙ found.1.rule.named)) [
          | inl l ↦ inl (momentary_folds cs all_rules p checked.few_collections (inr (found.0, record { rule = record { stands = found.1.rule.stands; named = l }; scratch = found.1.scratch }, found.2)))
          | inr r ↦ inr (momentary_folds cs all_rules q checked.few_collections (inr (found.0, record { rule = record { stands = found.1.rule.stands; named = r }; scratch = found.1.scratch }, found.2)))
        ]
  ]

  pub left_now : (p q : Query) (pairs : List (Name × Name)) → now p ≡ true → now (join p q pairs) ≡ true
  left_now p q pairs h = meets_more (kind_set is_input cs) (direct cs all_rules p) (direct cs all_rules (join p q pairs)) h
      (least-monotone (named cs p) (bit_or (named cs p) (named cs q)) (scratch_arrows cs all_rules) _ _ (within-or_l (named cs p) (named cs q)) (closure-least (named cs p) (scratch_arrows cs all_rules)) (closure-least (bit_or (named cs p) (named cs q)) (scratch_arrows cs all_rules)))

  pub right_now : (p q : Query) (pairs : List (Name × Name)) → now q ≡ true → now (join p q pairs) ≡ true
  right_now p q pairs h = meets_more (kind_set is_input cs) (direct cs all_rules q) (direct cs all_rules (join p q pairs)) h
      (least-monotone (named cs q) (bit_or (named cs p) (named cs q)) (scratch_arrows cs all_rules) _ _ (within-or_r (named cs p) (named cs q)) (closure-least (named cs q) (scratch_arrows cs all_rules)) (closure-least (bit_or (named cs p) (named cs q)) (scratch_arrows cs all_rules)))

  -- ---- names

  -- a name that is momentary is a port, or a scratch with a momentary rule
  pub name_now : (n : Name) → now (base n) ≡ true
      → (kind_at cs (number_of a checked n) ≡ Some Input) ⊎ ((rule : RuleForm) × Has rule all_rules × (number_of a checked rule.0 ≡ number_of a checked n) × (has_kind is_scratch cs rule.0 ≡ true) × (now rule.1 ≡ true))
  name_now n h = elim (momentary_unfolds cs all_rules (base n) checked.few_collections h) [
    | inl t ↦
        let k = number_of a checked n in
        let m = meets-some (kind_set is_input cs) (bit_of k) t in
        let small : m.0 < 64 = bit_small (kind_set is_input cs) m.0 (kind_set-lt is_input cs) m.1.0 in
        let same : k ≡ m.0 = one_number m.0 k small (bit-in m.0 (bit_of k) small m.1.1) in
        let found = from_kind_set is_input cs m.0 small (bit-in m.0 (kind_set is_input cs) small m.1.0) in
        inl (ap (kind_at cs) same ∙ found.1 ∙ ap Some (input_kind found.0 found.2))
    | inr found ↦
        let same : number_of a checked n ≡ number_of a checked found.0.0 = one_number (collection_number cs found.0.0) (number_of a checked n) (small_number a checked found.0.0) found.1.rule.named in
        inr (found.0, found.1.rule.stands, sym same, found.1.scratch, found.2)
  ]
    where
      input_kind : (kind : Kind) → is_input kind ≡ true → kind ≡ Input
      input_kind Input e = refl
      input_kind Output e = cc
      input_kind Table e = cc
      input_kind Scratch e = cc

  pub table_later : (n : Name) → kind_at cs (number_of a checked n) ≡ Some Table → now (base n) ≡ false
  table_later n is = elim (cases_Bool (now (base n))) [
    | inr f ↦ f
    | inl t ↦ absurd (elim (name_now n t) [
      | inl port ↦ (let bad : Table ≡ Input = kind_is Table Input (sym is ∙ port) in cc)
      | inr found ↦
          let kind = kind-named is_scratch cs found.0.0 found.3 in
          let same : Table ≡ kind.0 = kind_is Table kind.0 (sym is ∙ ap (kind_at cs) (sym found.2) ∙ kind.1) in
          let bad : is_scratch Table ≡ true = subst (λ (k : Kind). is_scratch k ≡ true) (sym same) kind.2 in
          true≢false (sym bad)
    ])
  ]

  -- the rules of a scratch are momentary exactly where it is
  pub scratch_now : (n : Name) → kind_at cs (number_of a checked n) ≡ Some Scratch → (rule : RuleForm)
      → Has rule (rules_named a checked n) → now rule.1 ≡ now (base n)
  scratch_now n is rule of_head = by (cases_Bool (now rule.1)) (cases_Bool (now (base n)))
    where
      stands : Has rule all_rules × (number_of a checked rule.0 ≡ number_of a checked n)
      stands = rule_stands a checked (number_of a checked n) rule of_head

      scratch : has_kind is_scratch cs rule.0 ≡ true
      scratch = named-kind is_scratch cs rule.0 Scratch (ap (kind_at cs) stands.1 ∙ is) refl

      own : meets (set_of_name cs rule.0) (bit_of (number_of a checked n)) ≡ true
      own = rw stands.1 (within-meets (number_of a checked n) (bit_of (number_of a checked n)) (small_number a checked n) (within-refl (bit_of (number_of a checked n))))

      up : now rule.1 ≡ true → now (base n) ≡ true
      up t = momentary_folds cs all_rules (base n) checked.few_collections (inr (rule, record { rule = record { stands = stands.0; named = own }; scratch = scratch }, t))

      unmixed : (x y : Bool) → (true && (not x && y)) ≡ false → y ≡ true → x ≡ true
      unmixed true y e t = refl
      unmixed false true e t = cc
      unmixed false false e t = cc

      down : now (base n) ≡ true → now rule.1 ≡ true
      down t = elim (name_now n t) [
        | inl port ↦ absurd (let bad : Scratch ≡ Input = kind_is Scratch Input (sym is ∙ port) in cc)
        | inr found ↦
            let heads = momentary_heads cs (scratch_arrows cs all_rules) (kind_set is_input cs) all_rules in
            let same : number_of a checked found.0.0 ≡ number_of a checked rule.0 = found.2 ∙ sym stands.1 in
            let there : meets (set_of_name cs found.0.0) heads ≡ true = in_chosen (λ (r : RuleForm). reads_input cs (scratch_arrows cs all_rules) (kind_set is_input cs) r.1) (λ (r : RuleForm). collection_number cs r.0) all_rules found.0 found.1 found.4 (small_number a checked found.0.0) in
            let here : meets (set_of_name cs rule.0) heads ≡ true = subst (λ (k : ℕ). meets (bit_of k) heads ≡ true) same there in
            let pure : is_mixed cs (facts_of cs all_rules) rule ≡ false = (checked.rules rule stands.0).pure in
            unmixed (now rule.1) (meets (set_of_name cs rule.0) heads) (rw scratch at pure) here
      ]

      by : (now rule.1 ≡ true) ⊎ (now rule.1 ≡ false) → (now (base n) ≡ true) ⊎ (now (base n) ≡ false) → now rule.1 ≡ now (base n)
      by (inl t) s = t ∙ sym (up t)
      by (inr f) (inl t) = absurd (true≢false (sym (down t) ∙ f))
      by (inr f) (inr g) = f ∙ sym g
