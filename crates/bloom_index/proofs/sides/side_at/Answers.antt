use Rattle.std.proofs.Common.{List, length, take_all, ap, arith}
use Rattle.bloom_index.specs.declared.plan.Plan.{Plan}
use Rattle.bloom_index.specs.Code.SideParts.{plans_sides}
use Rattle.bloom_index.proofs.SidePlaces.{side_of_all, plan_at, passed_more}
use Rattle.bloom_index.proofs.sides.side_at.Goals as goal

pub loop-plan-init : goal.loop-plan-init
loop-plan-init c = λ has. omega arith

pub returns-in-Break : goal.returns-in-Break
returns-in-Break c = λ has.
    side_of_all has.growing c.args.plans.now has.kept.sets c.loop-plan.plan-index c.plan-item.result c.loop-plan.left c.args.number c.in-Break.side.now c.loop-plan-test.true c.plan-item.is (c.loop-plan.invariant has)
    (c.in-Break.ensures has.growing (plan_at has.growing c.args.plans.now has.kept c.loop-plan.plan-index c.plan-item.result c.loop-plan-test.true c.plan-item.is))

pub loop-plan-preserved : goal.loop-plan-preserved
loop-plan-preserved c = λ has.
    passed_more has.growing c.args.plans.now c.loop-plan.plan-index c.plan-item.result c.loop-plan.left c.in-Continue.later c.args.number c.loop-plan-test.true c.plan-item.is (c.loop-plan.invariant has)
    (c.in-Continue.ensures has.growing (plan_at has.growing c.args.plans.now has.kept c.loop-plan.plan-index c.plan-item.result c.loop-plan-test.true c.plan-item.is))

pub unreachable-requires : goal.unreachable-requires
unreachable-requires c =
    let all = ap (λ (l : List Plan). length (plans_sides c.requires.growing l)) (take_all c.loop-plan.plan-index c.args.plans.now c.loop-plan-test.false) in
    omega (arith, c.loop-plan.invariant c.requires, c.requires.within, all)
