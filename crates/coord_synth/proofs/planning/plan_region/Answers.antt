-- The region is cyclic, or a component alone.
use Rattle.std.proofs.Common.{◌≡◌, ◌∙◌}
use Rattle.std.proofs.lemmas.Result.{IfOk-weaker}
use Rattle.label_walk.specs.Paths.{region_at}
use Rattle.coord_synth.specs.Code.Shapes.{plan_at}
use Rattle.coord_modes.specs.Plan.{plan_cycle}
use Rattle.coord_synth.proofs.FirstLemmas.{at_cycle}
use Rattle.coord_synth.proofs.planning.plan_region.Goals as goal

pub returns-in-Some-clause-view : goal.returns-in-Some-clause-view
returns-in-Some-clause-view c =
    let is = c.in-Some.ensures in
    IfOk-weaker c.plan_cycle.result (λ n. n.view ≡ plan_cycle c.args.steps c.args.now.view (region_at c.args.now.view c.in-Some.region)) (λ n. n.view ≡ plan_at c.args.steps c.args.now.view c.args.first)
    (λ n e. e ∙ at_cycle c.args.steps c.args.now.view c.args.first (region_at c.args.now.view c.in-Some.region) is.cyclic is.members) c.plan_cycle.ensures.view
