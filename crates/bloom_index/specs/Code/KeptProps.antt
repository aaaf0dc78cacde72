-- That what is kept stands is a fact.
use Rattle.std.specs.Prelude.{Bool, Option, None, Some, List}
use Rattle.std.specs.Coded.{Π_prop}
use Rattle.std.proofs.Props.{props}
use Rattle.blz_value.specs.declared.aggregate.Agg.TheVariants.{Count}
use Rattle.bloom_forms.specs.declared.module.Kind.TheVariants.{Table}
use Rattle.bloom_forms.specs.declared.numbered.NumberedRule.{NumberedRule}
use Rattle.bloom_forms.specs.Form.{Accepted}
use Rattle.bloom_forms.specs.Program.{columns_of_kind}
use Rattle.bloom_forms.specs.Step.{Sets}
use Rattle.bloom_forms.specs.Widths.{AreSetsOf-prop}
use Rattle.bloom_eval.specs.NumberedRows.{numbered_rows}
use Rattle.bloom_growth.specs.declared.bag.Bag.{Bag}
use Rattle.bloom_growth.specs.Facts.{IsBag-prop, TalliesStand-prop}
use Rattle.bloom_growth.specs.Whole.{counted_rows}
use Rattle.bloom_index.specs.declared.plan.Plan.{Plan}
use Rattle.bloom_index.specs.declared.plan.Plan as plan
use Rattle.bloom_index.specs.declared.step.Parts.{Parts}
use Rattle.bloom_index.specs.Code.Evaluation.{PlanStands}
use Rattle.bloom_index.specs.Code.Heads.{kept_rules, rows_given}
use Rattle.bloom_index.specs.Code.Kept.{tables_in, held_over, PlansStand, BagsStand, PartsStand, KeptStands}
use Rattle.bloom_index.specs.Code.NumberedProps.{ArePlans-prop}
use Rattle.bloom_index.specs.Code.Plans.{expr_of, rules_by}

PlanStands-prop : (growing lasting : List Bool) (sets : Sets) (m : Plan) → IsProp (PlanStands growing lasting sets m)
PlanStands-prop growing lasting sets (plan.Base number) = hlevel
PlanStands-prop growing lasting sets (plan.Select' p m test) = PlanStands-prop growing lasting sets m
PlanStands-prop growing lasting sets (plan.Project' p m columns bag) =
    let part = PlanStands-prop growing lasting sets m in
    let own = IsBag-prop (counted_rows columns (numbered_rows sets (expr_of m))) bag in
    hlevel (part, own, props)
PlanStands-prop growing lasting sets (plan.Join' p m q n pairs kept) =
    let left = PlanStands-prop growing lasting sets m in
    let right = PlanStands-prop growing lasting sets n in
    hlevel (left, right, props)
PlanStands-prop growing lasting sets (plan.NotIn' p m q n pairs kept) =
    let left = PlanStands-prop growing lasting sets m in
    let right = PlanStands-prop growing lasting sets n in
    hlevel (left, right, props)
PlanStands-prop growing lasting sets (plan.Group' p m groups) =
    let part = PlanStands-prop growing lasting sets m in
    let own = TalliesStand-prop groups.keys.items groups.agg (numbered_rows sets (expr_of m)) groups in
    hlevel (part, own, props)
PlanStands-prop growing lasting sets (plan.AtLeast' p m bound groups) =
    let part = PlanStands-prop growing lasting sets m in
    let own = TalliesStand-prop groups.keys.items Count (numbered_rows sets (expr_of m)) groups in
    hlevel (part, own, props)

PlansStand-prop : (growing lasting : List Bool) (sets : Sets) (plans : List Plan) → IsProp (PlansStand growing lasting sets plans)
PlansStand-prop growing lasting sets plans = Π_prop (λ m. Π_prop (λ among. PlanStands-prop growing lasting sets m))

BagsStand-prop : (growing lasting : List Bool) (sets : Sets) (rules : List NumberedRule) (bags : List Bag) → IsProp (BagsStand growing lasting sets rules bags)
BagsStand-prop growing lasting sets rules bags = Π_prop (λ number. Π_prop (λ bag. Π_prop (λ is. Π_prop (λ other. Π_prop (λ needs. IsBag-prop (rows_given sets (kept_rules lasting rules number)) bag)))))

PartsStand-prop : (a : Accepted) (parts : Parts) → IsProp (PartsStand a parts)
PartsStand-prop a parts =
    let wide = AreSetsOf-prop (columns_of_kind Table a.form.collections) (tables_in a parts.rows.items) in
    let numbered = ArePlans-prop a.form.collections a.form.rules parts.plans.items in
    let plans = PlansStand-prop parts.growing.items parts.lasting.items (held_over a (tables_in a parts.rows.items)) parts.plans.items in
    let bags = BagsStand-prop parts.growing.items parts.lasting.items (held_over a (tables_in a parts.rows.items)) (rules_by a.form.collections a.form.rules parts.plans.items) parts.bags.items in
    hlevel (wide, numbered, plans, bags, props)

pub KeptStands-prop : (a : Accepted) (parts : Option Parts) → IsProp (KeptStands a parts)
KeptStands-prop a None = hlevel
KeptStands-prop a (Some parts) = PartsStand-prop a parts
