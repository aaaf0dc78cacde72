-- What holds of a name where it holds of all that its rules name holds of each name of a checked module.
use Rattle.std.proofs.Common.{◌≡◌, ◌<◌, ℕ, zero, suc, true, false, Some, List, refl, ap, ◌∙◌, inl, inr, ◌⊎◌, arith}
use Rattle.std.specs.Prelude.{◌==◌}
use Rattle.std.proofs.lemmas.Bool.{eqb-true}
use Rattle.blz_value.specs.Members.{Has}
use Rattle.blz_value.proofs.Membership.{Has-from_filter, all_member}
use Rattle.blz_value.specs.Bits.{bit_of, meets}
use Rattle.blz_value.specs.Closure.{within, closure, IsLeastClosed}
use Rattle.blz_value.proofs.Members.{meets-within, in-within}
use Rattle.blz_value.proofs.Least.{closure-least}
use Rattle.blz_value.proofs.Reached.{closed-map}
use Rattle.bloom_forms.specs.declared.module.Kind.{Kind}
use Rattle.bloom_forms.specs.declared.module.Kind.TheVariants.{Input, Output, Table, Scratch}
use Rattle.bloom_forms.specs.declared.module.Collection.{Collection}
use Rattle.bloom_forms.specs.Checks.{IsChecked}
use Rattle.bloom_forms.specs.Form.{RuleForm, Accepted}
use Rattle.bloom_forms.specs.Heads.{names_of}
use Rattle.bloom_forms.specs.Kinds.{has_kind, is_readable, is_scratch, kind_at}
use Rattle.bloom_forms.specs.Lookup.{collection_number}
use Rattle.bloom_forms.specs.Query.{Name, Query}
use Rattle.bloom_forms.specs.Reads.{named, arrows, scratch_arrow, scratch_arrows, direct}
use Rattle.bloom_forms.specs.Step.{rules_at}
use Rattle.bloom_forms.proofs.Faults.Ordering.{in_named, smaller}
use Rattle.bloom_forms.proofs.Reach.Unfolding.{number_small}
use Rattle.bloom_forms.proofs.Collections.KindSets.{kind-named, named-kind}

module _ (a : Accepted) (checked : IsChecked a.form a.heads) where
  abbrev cs : List Collection
  cs = a.form.collections

  abbrev all_rules : List RuleForm
  all_rules = a.form.rules

  -- the number of a name
  abbrev pub number_of : Name → ℕ
  number_of n = collection_number cs n

  pub small_number : (n : Name) → number_of n < 64
  small_number n = omega (arith, number_small cs n, checked.few_collections)

  -- the rules of a name
  abbrev pub rules_named : Name → List RuleForm
  rules_named n = rules_at cs all_rules (number_of n)

  pub rule_stands : (k : ℕ) (rule : RuleForm) → Has rule (rules_at cs all_rules k) → Has rule all_rules × (number_of rule.0 ≡ k)
  rule_stands k rule h =
      let m = Has-from_filter (λ (r : RuleForm). collection_number cs r.0 == k) rule all_rules h in
      (m.0, eqb-true (collection_number cs rule.0) k m.1)

  rank : ℕ → ℕ
  rank k = closure (bit_of k) (arrows cs all_rules)

  -- what holds of a name where it holds of all that its rules name holds of each name
  pub by_names : (P : Name → Type 0)
      → ((n : Name) → ((rule : RuleForm) (m : Name) → Has rule (rules_named n) → Has m (names_of rule.1) → P m) → P n)
      → (n : Name) → P n
  unfolding rank
  by_names P each n = go (suc (rank (number_of n))) n (omega arith)
    where
      go : (fuel : ℕ) (n : Name) → rank (number_of n) < fuel → P n
      go zero n lt = absurd (omega arith)
      go (suc fuel) n lt = each n (λ rule m of_head names.
          let k = number_of n in
          let stands = rule_stands k rule of_head in
          let lower : rank (number_of m) < rank k = smaller cs all_rules (λ r s. (checked.rules r s).free) k (number_of m) (small_number n) (small_number m)
          (record { rule = rule; stands = stands.0; head = stands.1; name = m; read = names; is = refl }) in
          go fuel m (omega (arith, lower, lt)))

  -- a rule names ports, tables and scratches
  abbrev pub IsRead : Name → Type 0
  IsRead n = (kind_at cs (number_of n) ≡ Some Input) ⊎ (kind_at cs (number_of n) ≡ Some Table) ⊎ (kind_at cs (number_of n) ≡ Some Scratch)

  pub reads : (rule : RuleForm) → Has rule all_rules → (n : Name) → Has n (names_of rule.1) → IsRead n
  reads rule stands n h = let found = kind-named is_readable cs n (all_member (has_kind is_readable cs) (names_of rule.1) n (checked.rules rule stands).known h) in by found.0 found.1 found.2
    where
      by : (kind : Kind) → kind_at cs (number_of n) ≡ Some kind → is_readable kind ≡ true → IsRead n
      by Input e t = inl e
      by Output e t = absurd (let bad : false ≡ true = t in cc)
      by Table e t = inr (inl e)
      by Scratch e t = inr (inr e)

  -- ---- what an expression reads through scratches

  module _ (q : Query) where
    -- the name is read
    abbrev pub IsIn : Name → Type 0
    IsIn n = meets (bit_of (number_of n)) (direct cs all_rules q) ≡ true

    pub named_in : (n : Name) → Has n (names_of q) → IsIn n
    named_in n h =
        let own : IsLeastClosed (named cs q) (scratch_arrows cs all_rules) (direct cs all_rules q) = closure-least (named cs q) (scratch_arrows cs all_rules) in
        in-within (number_of n) (named cs q) (direct cs all_rules q) (small_number n) (in_named cs q n h (small_number n)) own.contains

    -- what the rules of a scratch name that is read is read
    pub scratch_in : (n : Name) → IsIn n → kind_at cs (number_of n) ≡ Some Scratch → (rule : RuleForm) (m : Name)
        → Has rule (rules_named n) → Has m (names_of rule.1) → IsIn m
    scratch_in n inside is rule m of_head names =
        let own : IsLeastClosed (named cs q) (scratch_arrows cs all_rules) (direct cs all_rules q) = closure-least (named cs q) (scratch_arrows cs all_rules) in
        let stands = rule_stands (number_of n) rule of_head in
        let through : has_kind is_scratch cs rule.0 ≡ true = named-kind is_scratch cs rule.0 Scratch (ap (kind_at cs) stands.1 ∙ is) refl in
        let fires : within (bit_of (number_of rule.0)) (direct cs all_rules q) ≡ true = rw stands.1 (meets-within (number_of n) (direct cs all_rules q) inside) in
        let to = closed-map (scratch_arrow cs) all_rules (direct cs all_rules q) own.closed rule stands.0 fires in
        let whole : within (named cs rule.1) (direct cs all_rules q) ≡ true = rw through at to in
        in-within (number_of m) (named cs rule.1) (direct cs all_rules q) (small_number m) (in_named cs rule.1 m names (small_number m)) whole

    -- what holds of the ports and tables that are read, and of a scratch where it holds of what its rules name, holds of all that is read
    pub through_scratches : (P : Name → Type 0) → ((n : Name) → IsIn n → kind_at cs (number_of n) ≡ Some Input → P n)
        → ((n : Name) → IsIn n → kind_at cs (number_of n) ≡ Some Table → P n)
        → ((n : Name) → IsIn n → kind_at cs (number_of n) ≡ Some Scratch → ((rule : RuleForm) (m : Name) → Has rule (rules_named n) → Has m (names_of rule.1) → P m) → P n)
        → (n : Name) → IsRead n → IsIn n → P n
    through_scratches P ports tables scratches = by_names (λ n. IsRead n → IsIn n → P n) each
      where
        each : (n : Name)
            → ((rule : RuleForm) (m : Name) → Has rule (rules_named n) → Has m (names_of rule.1) → IsRead m → IsIn m → P m)
            → IsRead n → IsIn n → P n
        each n below (inl is) inside = ports n inside is
        each n below (inr (inl is)) inside = tables n inside is
        each n below (inr (inr is)) inside = scratches n inside is (λ rule m of_head names. below rule m of_head names (reads rule (rule_stands (number_of n) rule of_head).0 m names) (scratch_in n inside is rule m of_head names))
