use Rattle.std.proofs.Common.{below_more, subst, ◌∙◌}
use Rattle.std.proofs.lemmas.List.{get_or_default}
use Rattle.bloom_forms.specs.Checks.{IsChecked}
use Rattle.bloom_forms.specs.Form.{Accepted}
use Rattle.topo_types.proofs.validation.known.Goals as goal

pub loop-checked-preserved : goal.loop-checked-preserved
loop-checked-preserved c =
    below_more _ _ c.loop-checked.invariant
    (λ d. subst (λ (m : Accepted). IsChecked m.form m.heads)
    (c.checked-item.is ∙ get_or_default c.args.modules.now c.loop-checked.checked-index c.checked-item.result d c.loop-checked-test.true)
    c.module-written.ensures.checked)
