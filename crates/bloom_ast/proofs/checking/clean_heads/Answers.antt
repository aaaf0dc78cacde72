use Rattle.std.proofs.Common.{◌∙◌, sym, ap}
use Rattle.bloom_forms.specs.Form.{form_of, rule_forms}
use Rattle.bloom_ast.proofs.WholeCheck.{checks_lent}
use Rattle.bloom_ast.proofs.checking.clean_heads.Goals as goal

pub returns : goal.returns
returns c = checks_lent (form_of c.args.module.now) c.as_slice-collections.result.now (rule_forms c.as_slice-rules.result.now) c.as_slice-collections.ensures (ap rule_forms c.as_slice-rules.ensures) c.later.result c.requires (sym c.in_ok-size.ensures.fault ∙ c.in_default.is) c.later.ensures
