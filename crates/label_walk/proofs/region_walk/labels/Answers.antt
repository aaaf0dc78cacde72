-- All regions were gone through.
use Rattle.std.proofs.Common.{◌≡◌, length, arith, ◌∙◌}
use Rattle.topo_forms.specs.Regions.{regions}
use Rattle.label_walk.proofs.Labelling.RemadeLemmas.{walked}
use Rattle.label_walk.proofs.region_walk.labels.Goals as goal

pub returns : goal.returns
returns c =
    let all : c.loop-region.region ≡ length (regions c.args.valid.now.view) = omega arith in
    walked c.args.valid.now.view c.known.ensures c.from_vec.result c.loop-region.region all (c.from_vec.ensures ∙ c.loop-region.invariant)
