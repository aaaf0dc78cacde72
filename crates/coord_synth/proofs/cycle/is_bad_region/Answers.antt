-- There is one labelling.
use Rattle.std.proofs.Common.{List, ap, ◌∙◌}
use Rattle.label_rules.specs.declared.label.Label.{Label}
use Rattle.label_walk.specs.Labels.{region_label}
use Rattle.label_walk.specs.Paths.{region_at}
use Rattle.coord_modes.specs.Plan.{is_bad}
use Rattle.coord_modes.proofs.GoodLemmas.{labels_are}
use Rattle.coord_synth.proofs.cycle.is_bad_region.Goals as goal

pub returns : goal.returns
returns c =
    let v = c.args.now.now.view in
    c.is_bad.ensures ∙ ap is_bad (c.in_ok-label.ensures ∙ ap (λ (ls : List Label). region_label v ls (region_at v c.args.region)) (c.as_slice.ensures ∙ labels_are v c.known.ensures c.in_ok-labels.labels c.in_ok-labels.ensures))
