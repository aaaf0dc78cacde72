-- The gate of an expression lies in the set of each of its operators.
use Rattle.std.proofs.Common.{◌≡◌, ℕ, true, List, [], ◌∷◌, map, filter, bit_and, refl, subst, inl, inr}
use Rattle.std.specs.List.{flat_map}
use Rattle.blz_value.specs.Members.{Has}
use Rattle.blz_value.proofs.Membership.{Has-flat_map, Has-map, Has-filter}
use Rattle.blz_value.specs.Bits.{meets}
use Rattle.blz_value.specs.Closure.{within}
use Rattle.blz_value.proofs.Within.{within-trans, and-within_l, and-within_r}
use Rattle.bloom_forms.specs.Form.{RuleForm, Accepted}
use Rattle.bloom_forms.specs.Lookup.{declared}
use Rattle.bloom_forms.specs.Query.{Name, Query}
use Rattle.bloom_forms.specs.Reads.{set_of_name, cone}
use Rattle.bloom_forms.specs.Step.{rules_at}
use Rattle.bloom_forms.specs.Gates.{all_attributes, operator_sets, in_all, bodies_read, query_gate, head_gate}
use Rattle.bloom_forms.specs.HeadRoots.{roots_named, roots_table}
use Rattle.bloom_forms.specs.Annotation.{rule_gate}

pub in_all-member : (all : ℕ) (sets : List ℕ) (set : ℕ) → Has set sets → within (in_all all sets) set ≡ true
in_all-member all [] set h = absurd h
in_all-member all (first ∷ sets) set (inl e) = subst (λ (s : ℕ). within (bit_and first (in_all all sets)) s ≡ true) e (and-within_l first (in_all all sets))
in_all-member all (first ∷ sets) set (inr h) = within-trans (bit_and first (in_all all sets)) (in_all all sets) set (and-within_r first (in_all all sets)) (in_all-member all sets set h)

module _ (names : List Name) (a : Accepted) where
  -- the sets of the operators of an expression
  abbrev pub sets_of : Query → List ℕ
  sets_of q = operator_sets (declared a.form.collections) (roots_named a.form.collections (roots_table names a)) q

  -- a set lies in the set of each operator of an expression
  abbrev pub IsGated : ℕ → Query → Type 0
  IsGated gate q = (set : ℕ) → Has set (sets_of q) → within gate set ≡ true

  gated_by : (rule : RuleForm) (q : Query) → Has q (rule.1 ∷ bodies_read a.form rule.1) → IsGated (rule_gate names a rule) q
  gated_by rule q stands set h = in_all-member (all_attributes names) (flat_map sets_of (rule.1 ∷ bodies_read a.form rule.1)) set (Has-flat_map sets_of q set (rule.1 ∷ bodies_read a.form rule.1) stands h)

  pub own_gated : (rule : RuleForm) → IsGated (rule_gate names a rule) rule.1
  own_gated rule = gated_by rule rule.1 (inl refl)

  pub other_gated : (rule other : RuleForm) → Has other a.form.rules
      → meets (set_of_name a.form.collections other.0) (cone a.form.collections a.form.rules rule.1) ≡ true
      → IsGated (rule_gate names a rule) other.1
  other_gated rule other stands read = gated_by rule other.1 (inr (Has-map (λ (r : RuleForm). r.1) other (filter (λ (r : RuleForm). meets (set_of_name a.form.collections r.0) (cone a.form.collections a.form.rules rule.1)) a.form.rules)
      (Has-filter (λ (r : RuleForm). meets (set_of_name a.form.collections r.0) (cone a.form.collections a.form.rules rule.1)) other a.form.rules stands read)))

  -- the gate of a head lies in that of each of its rules
  pub head_within : (head : ℕ) (rule : RuleForm) → Has rule (rules_at a.form.collections a.form.rules head)
      → within (head_gate names a.form (roots_table names a) head) (rule_gate names a rule) ≡ true
  head_within head rule of_head = in_all-member (all_attributes names) (map (λ (r : RuleForm). query_gate names a.form (roots_table names a) r.1) (rules_at a.form.collections a.form.rules head)) (rule_gate names a rule) (Has-map (λ (r : RuleForm). query_gate names a.form (roots_table names a) r.1) rule (rules_at a.form.collections a.form.rules head) of_head)
