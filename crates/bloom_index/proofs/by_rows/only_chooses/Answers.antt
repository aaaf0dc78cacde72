use Rattle.std.proofs.Common.{◌≡◌, ◌∙◌, ◌&&◌, Bool, true, List, ap, sym}
use Rattle.std.specs.List.{list_all}
use Rattle.bloom_forms.specs.declared.module.Collection.{Collection}
use Rattle.bloom_forms.specs.declared.numbered.NumberedRule.{NumberedRule}
use Rattle.bloom_forms.specs.Form.{Form, RuleForm}
use Rattle.bloom_index.specs.Code.ByRows.{is_choice, is_choice_of, is_passing}
use Rattle.bloom_index.proofs.ByRowsLemmas.{same_choices}
use Rattle.bloom_index.proofs.by_rows.only_chooses.Goals as goal

pub returns-then-all_pass : goal.returns-then-all_pass
returns-then-all_pass c =
    let a = c.args.program.now in
    let cs = a.form.collections in
    let same = c.as_slice-collections.ensures ∙ ap (λ (f : Form). f.collections) c.module.ensures.form in
    let rules = c.rules.result.now in
    let passing : list_all (λ (d : Collection). is_passing d.kind) cs ≡ true = ap (λ (l : List Collection). list_all (λ (d : Collection). is_passing d.kind) l) (sym same) ∙ sym c.all_pass.ensures ∙ c.if-all_pass.true in
    c.all_choose.ensures
    ∙ ap (λ (l : List Collection). list_all (λ (rule : NumberedRule). is_choice_of l rule.body) rules) same
    ∙ same_choices cs a.form.rules rules c.rules.ensures.numbered
    ∙ sym (ap (λ (b : Bool). b && list_all (λ (rule : RuleForm). is_choice cs rule.1) a.form.rules) passing)
