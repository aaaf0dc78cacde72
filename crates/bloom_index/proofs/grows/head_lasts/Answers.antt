use Rattle.std.proofs.Common.{◌∙◌, ap}
use Rattle.bloom_forms.specs.Form.{Form}
use Rattle.bloom_index.specs.Code.Lasting.{rules_last}
use Rattle.bloom_index.proofs.LastsLemmas.{head_is}
use Rattle.bloom_index.proofs.Marking.{ruled_head}
use Rattle.bloom_index.proofs.grows.head_lasts.Goals as goal

pub returns-in-Output : goal.returns-in-Output
returns-in-Output c =
    let a = c.args.program.now in
    c.rules_last.ensures
    ∙ head_is a c.module.ensures.checked c.args.lasting.now c.args.head c.rules.result.now c.rules.ensures.numbered c.requires.marked
    ∙ ruled_head c.as_slice-collections.result.now a.form.collections c.args.head _ (rules_last a.form c.args.head) (c.as_slice-collections.ensures ∙ ap (λ (f : Form). f.collections) c.module.ensures.form) c.requires.within c.in-Output.is
