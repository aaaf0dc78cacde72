use Rattle.std.proofs.Common.{List, sym, ap, subst}
use Rattle.blz_value.specs.Members.{Has}
use Rattle.bloom_forms.specs.declared.module.Collection.{Collection}
use Rattle.bloom_forms.specs.Form.{RuleForm, form_of, rule_forms}
use Rattle.bloom_forms.specs.Lookup.{declared}
use Rattle.bloom_forms.specs.Numbered.{IsNumberable}
use Rattle.bloom_forms.proofs.Collections.NameNumbers.{rules_numberable}
use Rattle.bloom_forms.proofs.checked.Checked.new.Goals as goal

pub numbered_rules-requires-clause-numberable : goal.numbered_rules-requires-clause-numberable
numbered_rules-requires-clause-numberable c = λ rule stands.
    subst (λ (cs : List Collection). IsNumberable (declared cs) rule.1) (sym c.as_slice.ensures)
    (rules_numberable (form_of c.args.module) c.args.heads.items c.requires rule (subst (λ (rules : List RuleForm). Has rule rules) (ap rule_forms c.as_slice-2.ensures) stands))
