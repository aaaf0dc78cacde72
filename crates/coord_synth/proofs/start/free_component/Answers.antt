-- Another mode of a component that is neither Free nor Order.
use Rattle.std.proofs.Common.{◌≡◌, ◌∙◌}
use Rattle.std.proofs.lemmas.Result.{IfOk-weaker}
use Rattle.topo_forms.specs.Valid.{Validated}
use Rattle.coord_synth.specs.Code.Chosen.{with_chosen}
use Rattle.coord_synth.specs.Code.Start.{free_component}
use Rattle.coord_synth.proofs.ChosenLemmas.{freed_fits, freed_is}
use Rattle.coord_synth.proofs.start.free_component.Goals as goal

pub with_chosen-requires : goal.with_chosen-requires
with_chosen-requires c = freed_fits c.args.now c.whole.ensures c.args.component c.requires c.freed_mode-mode.result c.freed_mode-mode.ensures

pub returns : goal.returns
returns c = IfOk-weaker c.with_chosen.result (λ n. n ≡ with_chosen c.args.now c.args.component c.freed_mode-mode.result) (λ n. n ≡ free_component c.args.now c.args.component)
    (λ n is. is ∙ freed_is c.args.now c.whole.ensures c.args.component c.requires c.freed_mode-mode.result c.freed_mode-mode.ensures) c.with_chosen.ensures
