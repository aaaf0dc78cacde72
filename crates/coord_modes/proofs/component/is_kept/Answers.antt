-- The mode that is tried isn't Order.
use Rattle.std.proofs.Common.{◌≡◌, ap, ◌∙◌}
use Rattle.std.proofs.lemmas.Result.{IfOk-weaker}
use Rattle.bloom_forms.specs.declared.mode.Mode.{Mode}
use Rattle.topo_forms.specs.View.{with_mode}
use Rattle.coord_modes.specs.Plan.{is_good, trial}
use Rattle.coord_modes.proofs.KeptLemmas.{tried_unordered}
use Rattle.coord_modes.proofs.component.is_kept.Goals as goal

pub is_good_with-requires-clause-mode : goal.is_good_with-requires-clause-mode
is_good_with-requires-clause-mode c = tried_unordered c.args.now.now.view c.args.component c.args.key c.tried_mode-tried.result c.tried_mode-tried.ensures

pub returns : goal.returns
returns c =
    let v = c.args.now.now.view in
    IfOk-weaker c.is_good_with.result (λ g. g ≡ is_good (with_mode v c.args.component c.tried_mode-tried.result) c.args.component) (λ g. g ≡ is_good (trial v c.args.component c.args.key) c.args.component)
    (λ g is. is ∙ ap (λ (m : Mode). is_good (with_mode v c.args.component m) c.args.component) c.tried_mode-tried.ensures) c.is_good_with.ensures
