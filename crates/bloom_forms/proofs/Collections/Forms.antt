-- Lists of rules and of their forms.
use Rattle.std.proofs.Common.{◌≡◌, ◌<◌, ◌+◌, ℕ, suc, List, [], ◌∷◌, ◌++◌, length, take, get_or, refl, ap, ◌∙◌, sym, subst}
use Rattle.std.proofs.lemmas.List.{map_more}
use Rattle.blz_value.specs.Members.{Has}
use Rattle.blz_value.proofs.Membership.{Has-map, Has-get_or}
use Rattle.bloom_forms.specs.declared.module.Rule.{Rule}
use Rattle.bloom_forms.specs.Form.{rule_form, rule_forms}

pub length_rule_forms : (rules : List Rule) → length (rule_forms rules) ≡ length rules
length_rule_forms [] = refl
length_rule_forms (r ∷ rules) = ap suc (length_rule_forms rules)

-- a rule at a place
pub rule_in : (rules : List Rule) (i : ℕ) (rule : Rule) → i < length rules → rule ≡ get_or rules i rule → Has (rule_form rule) (rule_forms rules)
rule_in rules i rule lt is = subst (λ (r : Rule). Has (rule_form r) (rule_forms rules)) (sym is) (Has-map rule_form (get_or rules i rule) rules (Has-get_or rules i rule lt))

-- the rules up to one
pub rules_more : (rules : List Rule) (i : ℕ) (rule : Rule) → i < length rules → rule ≡ get_or rules i rule → rule_forms (take (i + 1) rules) ≡ rule_forms (take i rules) ++ rule_form rule ∷ []
rules_more rules i rule lt is = map_more rule_form rules i rule lt ∙ ap (λ (r : Rule). rule_forms (take i rules) ++ rule_form r ∷ []) (sym is)
