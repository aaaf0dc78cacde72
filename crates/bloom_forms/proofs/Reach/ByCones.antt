-- What holds of a name where it holds of all in the cones of its rules holds of each name of a checked module.
use Rattle.std.proofs.Common.{◌≡◌, ◌<◌, ℕ, zero, suc, true, false, Some, List, ◌∙◌, sym, inl, inr, arith}
use Rattle.std.proofs.lemmas.Bool.{cases_Bool, true≢false}
use Rattle.blz_value.specs.Members.{Has}
use Rattle.blz_value.specs.Bits.{bit_of, meets}
use Rattle.blz_value.specs.Closure.{closure}
use Rattle.blz_value.proofs.Members.{in-within}
use Rattle.blz_value.proofs.Reached.{closure-lt, closure-trans}
use Rattle.bloom_forms.specs.declared.module.Kind.TheVariants.{Input}
use Rattle.bloom_forms.specs.declared.module.Collection.{Collection}
use Rattle.bloom_forms.specs.Checks.{IsChecked}
use Rattle.bloom_forms.specs.Faults.{recursive_rule}
use Rattle.bloom_forms.specs.Form.{RuleForm, Accepted}
use Rattle.bloom_forms.specs.Kinds.{kind_at}
use Rattle.bloom_forms.specs.Query.{Name}
use Rattle.bloom_forms.specs.Reads.{named, arrows, cone, direct}
use Rattle.bloom_forms.proofs.Reach.ReadsLemmas.{number_of, small_number, rules_named, rule_stands, IsIn}
use Rattle.bloom_forms.proofs.Reach.Cones.{IsReadByRule, in_head, direct-cone}

module _ (a : Accepted) (checked : IsChecked a.form a.heads) where
  abbrev cs : List Collection
  cs = a.form.collections

  abbrev all_rules : List RuleForm
  all_rules = a.form.rules

  -- the name is in the cone of a rule
  abbrev pub IsBelow : RuleForm → Name → Type 0
  IsBelow rule n = meets (bit_of (number_of a checked n)) (cone cs all_rules rule.1) ≡ true

  pub read_below : (rule : RuleForm) (n : Name) → IsIn a checked rule.1 n → IsBelow rule n
  read_below rule n inside = in-within (number_of a checked n) (direct cs all_rules rule.1) (cone cs all_rules rule.1) (small_number a checked n) inside (direct-cone cs all_rules rule.1)

  rank : ℕ → ℕ
  rank k = closure (bit_of k) (arrows cs all_rules)

  lower : (n m : Name) (rule : RuleForm) → Has rule (rules_named a checked n) → IsBelow rule m
      → rank (number_of a checked m) < rank (number_of a checked n)
  unfolding rank
  lower n m rule of_head below =
      let h = number_of a checked n in
      let k = number_of a checked m in
      let stands = rule_stands a checked h rule of_head in
      let read : IsReadByRule cs all_rules checked.few_collections h k = record { rule = rule; of_head = of_head; there = below } in
      let there : meets (bit_of k) (closure (bit_of h) (arrows cs all_rules)) ≡ true = in_head cs all_rules checked.few_collections h k (small_number a checked m) read in
      let back : meets (bit_of h) (closure (bit_of k) (arrows cs all_rules)) ≡ false = elim (cases_Bool (meets (bit_of h) (closure (bit_of k) (arrows cs all_rules)))) [
        | inr f ↦ f
        | inl t ↦ absurd (
            let met : meets (bit_of h) (cone cs all_rules rule.1) ≡ true = closure-trans (arrows cs all_rules) (named cs rule.1) k h (small_number a checked n) below t in
            let free : recursive_rule cs (arrows cs all_rules) rule ≡ false = (checked.rules rule stands.0).free in
            let not_met : meets (bit_of h) (cone cs all_rules rule.1) ≡ false = rw stands.1 at free in
            true≢false (sym met ∙ not_met))
      ] in
      closure-lt (arrows cs all_rules) h k (small_number a checked n) there back

  -- what holds of a name where it holds of all in the cones of its rules holds of each name
  pub by_cones : (P : Name → Type 0)
      → ((n : Name) → ((rule : RuleForm) (m : Name) → Has rule (rules_named a checked n) → IsBelow rule m → P m) → P n)
      → (n : Name) → P n
  by_cones P each n = go (suc (rank (number_of a checked n))) n (omega arith)
    where
      go : (fuel : ℕ) (n : Name) → rank (number_of a checked n) < fuel → P n
      go zero n lt = absurd (omega arith)
      go (suc fuel) n lt = each n (λ rule m of_head below. go fuel m (omega (arith, lower n m rule of_head below, lt)))

  -- a port is read through the rules by who reads a set of collections
  pub record IsFed (set : ℕ) : Type 0 where
    pub port : ℕ
    pub is : kind_at cs port ≡ Some Input
    pub small : port < 64
    pub there : meets (bit_of port) (closure set (arrows cs a.form.rules)) ≡ true
