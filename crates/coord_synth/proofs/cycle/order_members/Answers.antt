-- One member more.
use Rattle.std.proofs.Common.{◌<◌, length, get_or, arith, ap, ◌∙◌}
use Rattle.topo_forms.specs.View.{View}
use Rattle.coord_modes.specs.Plan.{order_member}
use Rattle.coord_synth.proofs.CountLemmas.{order_member_count}
use Rattle.coord_synth.proofs.FirstLemmas.{fold_more}
use Rattle.coord_synth.proofs.cycle.order_members.Goals as goal

pub loop-member-preserved : goal.loop-member-preserved
loop-member-preserved c =
    let lt : c.loop-member.member-index < length c.args.members.now = omega arith in
    let member = get_or c.args.members.now c.loop-member.member-index 0 in
    record {
      view = c.in_ok-now.ensures.view ∙ ap (λ (v : View). order_member v member) c.loop-member.invariant.view ∙ fold_more order_member c.args.valid.view c.args.members.now c.loop-member.member-index lt;
      count = ap (λ (v : View). length v.components) c.in_ok-now.ensures.view ∙ order_member_count c.loop-member.now.view member ∙ c.loop-member.invariant.count;
      written = λ t w. c.in_ok-now.ensures.written t (c.loop-member.invariant.written t w);
    }
