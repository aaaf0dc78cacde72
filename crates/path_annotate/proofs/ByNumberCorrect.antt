-- What is made of each rule by numbers is what is made of it by names.
use Rattle.std.proofs.Common.{◌≡◌, ◌==◌, ℕ, Bool, true, false, cond, List, [], ◌∷◌, length, map, filter, refl, ap}
use Rattle.std.specs.List.{range_with_len}
use Rattle.bloom_forms.specs.declared.module.Collection.{Collection}
use Rattle.bloom_forms.specs.declared.numbered.NumberedRule.{NumberedRule}
use Rattle.bloom_forms.specs.Form.{RuleForm, Form}
use Rattle.bloom_forms.specs.Lookup.{collection_number}
use Rattle.bloom_forms.specs.Numbered.{IsNumberedRule, AreNumbered}
use Rattle.bloom_forms.specs.Step.{rules_at}
use Rattle.path_annotate.specs.Code.ByNumber.{head_roots_by, roots_by}
use Rattle.bloom_forms.specs.HeadRoots.{agreed_root, roots_numbered, rule_roots, head_roots}
use Rattle.bloom_forms.specs.Roots.{Roots}
use Rattle.path_annotate.proofs.ByNumberLemmas.{roots-same}

module _ {Y : Type 0} (cs : List Collection) (of_number : NumberedRule → Y) (of_name : RuleForm → Y) (same : (form : RuleForm) (rule : NumberedRule) → IsNumberedRule cs form rule → of_number rule ≡ of_name form) where
  pub map-numbered : (forms : List RuleForm) (rules : List NumberedRule) → AreNumbered cs forms rules → map of_number rules ≡ map of_name forms
  map-numbered [] [] are = refl
  map-numbered [] (rule ∷ rules) are = absurd are
  map-numbered (form ∷ forms) [] are = absurd are
  map-numbered (form ∷ forms) (rule ∷ rules) are = λ i. same form rule are.0 i ∷ map-numbered forms rules are.1 i

  chosen : (b c : Bool) (form : RuleForm) (forms : List RuleForm) (rule : NumberedRule) (rules : List NumberedRule) → b ≡ c → of_number rule ≡ of_name form → map of_number rules ≡ map of_name forms → map of_number (cond b (rule ∷ rules) rules) ≡ map of_name (cond c (form ∷ forms) forms)
  chosen true true form forms rule rules e one more = λ i. one i ∷ more i
  chosen false false form forms rule rules e one more = more
  chosen true false form forms rule rules e one more = cc
  chosen false true form forms rule rules e one more = cc

  -- the same of the rules of a head
  pub map-rules_at : (forms : List RuleForm) (rules : List NumberedRule) (head : ℕ) → AreNumbered cs forms rules → map of_number (filter (λ rule. rule.head == head) rules) ≡ map of_name (rules_at cs forms head)
  map-rules_at [] [] head are = refl
  map-rules_at [] (rule ∷ rules) head are = absurd are
  map-rules_at (form ∷ forms) [] head are = absurd are
  map-rules_at (form ∷ forms) (rule ∷ rules) head are =
      chosen (rule.head == head) (collection_number cs form.0 == head) form (rules_at cs forms head) rule (filter (λ rule. rule.head == head) rules)
      (ap (λ (n : ℕ). n == head) are.0.head) (same form rule are.0) (map-rules_at forms rules head are.1)

-- the roots of a head
pub head-same : (form : Form) (table : List Roots) (rules : List NumberedRule) (head : ℕ) → AreNumbered form.collections form.rules rules → head_roots_by table rules head ≡ head_roots form table head
head-same form table rules head are =
    ap (λ (given : List Roots). map (agreed_root given) (range_with_len 0 (length (roots_numbered table head))))
    (map-rules_at form.collections (λ rule. roots_by table rule.body) (rule_roots form.collections table) (λ f rule is. roots-same form.collections table f.1 rule.body is.body) form.rules rules head are)
