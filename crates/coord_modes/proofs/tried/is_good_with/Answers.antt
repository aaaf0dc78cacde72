-- The labels of the component's streams are those of the topology with the mode.
use Rattle.std.proofs.Common.{◌≡◌, ◌∙◌}
use Rattle.std.proofs.lemmas.Result.{IfOk-weaker}
use Rattle.topo_forms.specs.View.{with_mode}
use Rattle.coord_modes.specs.Code.Tried.{is_good_with}
use Rattle.coord_modes.specs.Plan.{is_good}
use Rattle.coord_modes.proofs.TriedLemmas.{good_with}
use Rattle.coord_modes.proofs.tried.is_good_with.Goals as goal

pub are_good_with-requires : goal.are_good_with-requires
are_good_with-requires c = let labels = c.requires.labels in labels.each

pub returns : goal.returns
returns c =
    let v = c.args.valid.now.view in
    IfOk-weaker c.are_good_with.result (λ g. g ≡ is_good_with v c.args.labels.now c.args.component c.args.mode) (λ g. g ≡ is_good (with_mode v c.args.component c.args.mode) c.args.component)
    (λ g is. is ∙ good_with v c.known.ensures c.args.component c.requires.component c.requires.unordered c.requires.outside c.args.mode c.requires.mode c.args.labels.now c.requires.labels) c.are_good_with.ensures
