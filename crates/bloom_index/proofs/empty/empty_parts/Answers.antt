use Rattle.std.proofs.Common.{◌≡◌, ◌∙◌, Bool, List, [], length, map, ap, subst}
use Rattle.std.specs.List.{AllZip}
use Rattle.bloom_forms.specs.declared.module.Collection.{Collection}
use Rattle.bloom_forms.specs.declared.numbered.NumberedRule.{NumberedRule}
use Rattle.bloom_forms.specs.Form.{Form}
use Rattle.bloom_index.specs.declared.plan.Plan.{Plan}
use Rattle.bloom_index.specs.Code.Emptiness.{IsFresh, AreNoBags}
use Rattle.bloom_index.proofs.EmptyLemmas.{fresh_tables, parts_fresh}
use Rattle.bloom_index.proofs.empty.empty_parts.Goals as goal

pub returns-clause-stands : goal.returns-clause-stands
returns-clause-stands c =
    let same : c.as_slice-collections.result.now ≡ c.args.program.now.form.collections = c.as_slice-collections.ensures ∙ ap (λ (form : Form). form.collections) c.module.ensures.form in
    parts_fresh c.args.program.now (record { growing = c.in_ok-growing.growing; lasting = c.in_ok-lasting.lasting; rows = c.in_ok-rows.rows; bags = c.in_ok-bags.bags; plans = c.in_ok-plans.plans })
    c.rules.result.now c.rules.ensures.numbered c.in_ok-growing.ensures c.in_ok-lasting.ensures (c.in_ok-rows.ensures ∙ ap (map (λ (d : Collection). [])) same)
    (subst (λ (cs : List Collection). AreNoBags (length cs) c.in_ok-bags.bags.items) same c.in_ok-bags.ensures)
    (subst (λ (growing : List Bool). AllZip (λ (rule : NumberedRule) (plan : Plan). IsFresh growing rule.body plan) c.rules.result.now c.in_ok-plans.plans.items) c.deref.ensures.value c.in_ok-plans.ensures)

pub returns-clause-tables : goal.returns-clause-tables
returns-clause-tables c =
    fresh_tables c.args.program.now c.in_ok-rows.rows.items (c.in_ok-rows.ensures ∙ ap (map (λ (d : Collection). [])) (c.as_slice-collections.ensures ∙ ap (λ (form : Form). form.collections) c.module.ensures.form))
