-- Another mode of a component that has an O note and isn't Order yet.
use Rattle.coord_synth.proofs.ChosenLemmas.{member_fits, member_planned}
use Rattle.coord_synth.proofs.cycle.order_member.Goals as goal

pub with_chosen-requires : goal.with_chosen-requires
with_chosen-requires c = member_fits c.args.now c.args.component c.requires c.member_mode-mode.result c.member_mode-mode.ensures

pub returns : goal.returns
returns c =
    let planned = member_planned c.args.now c.args.component c.requires c.member_mode-mode.result c.member_mode-mode.ensures c.with_chosen.result c.with_chosen.ensures in
    record { view = planned.view; written = planned.written }
