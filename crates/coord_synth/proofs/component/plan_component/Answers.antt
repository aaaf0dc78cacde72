-- What was chosen may be written, and gives what the plan says.
use Rattle.coord_synth.proofs.ChosenLemmas.{component_fits, component_planned}
use Rattle.coord_synth.proofs.component.plan_component.Goals as goal

pub with_chosen-requires : goal.with_chosen-requires
with_chosen-requires c = component_fits c.args.now c.whole.ensures c.known.ensures c.args.steps c.args.component c.requires.component c.requires.outside c.in_ok-chosen.chosen c.in_ok-chosen.ensures

pub returns : goal.returns
returns c =
    let planned = component_planned c.args.now c.whole.ensures c.known.ensures c.args.steps c.args.component c.requires.component c.requires.outside c.in_ok-chosen.chosen c.in_ok-chosen.ensures c.with_chosen.result c.with_chosen.ensures in
    record { view = planned.view; written = planned.written }
