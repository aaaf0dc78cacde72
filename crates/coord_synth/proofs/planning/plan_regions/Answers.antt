-- One region more.
use Rattle.std.proofs.Common.{◌<◌, length, get_or, arith, ap, ◌∙◌}
use Rattle.topo_forms.specs.View.{View}
use Rattle.coord_synth.specs.Code.Shapes.{plan_at}
use Rattle.coord_synth.proofs.CountLemmas.{at_count}
use Rattle.coord_synth.proofs.FirstLemmas.{fold_more}
use Rattle.coord_synth.proofs.planning.plan_regions.Goals as goal

pub loop-first-preserved : goal.loop-first-preserved
loop-first-preserved c =
    let lt : c.loop-first.first-index < length c.args.firsts.now = omega arith in
    let first = get_or c.args.firsts.now c.loop-first.first-index 0 in
    record {
      view = c.in_ok-now.ensures.view ∙ ap (λ (v : View). plan_at c.args.steps v first) c.loop-first.invariant.view ∙ fold_more (plan_at c.args.steps) c.args.start.view c.args.firsts.now c.loop-first.first-index lt;
      count = ap (λ (v : View). length v.components) c.in_ok-now.ensures.view ∙ at_count c.args.steps c.loop-first.now.view first ∙ c.loop-first.invariant.count;
      written = λ t w. c.in_ok-now.ensures.written t (c.loop-first.invariant.written t w);
    }
