-- One stream that is worse is enough.
use Rattle.std.proofs.Common.{◌<◌, length, arith, not, sym, ◌∙◌}
use Rattle.topo_forms.specs.View.{comes_from}
use Rattle.label_walk.specs.Paths.{label_at}
use Rattle.coord_modes.specs.Plan.{is_bad}
use Rattle.coord_modes.proofs.WalkLemmas.{broken_by, held_by}
use Rattle.coord_modes.proofs.goodness.are_good.Goals as goal

pub returns-then-is_bad_output : goal.returns-then-is_bad_output
returns-then-is_bad_output c =
    let lt : c.loop-stream.stream < length c.args.valid.now.view.streams = omega arith in
    sym (broken_by (comes_from c.args.valid.now.view c.args.component) (λ s. not (is_bad (label_at c.args.labels.now s))) (length c.args.valid.now.view.streams) c.loop-stream.stream lt (sym c.is_bad_output.ensures ∙ c.if-is_bad_output.true))

pub loop-stream-preserved : goal.loop-stream-preserved
loop-stream-preserved c =
    held_by (comes_from c.args.valid.now.view c.args.component) (λ s. not (is_bad (label_at c.args.labels.now s))) c.loop-stream.stream c.loop-stream.invariant (sym c.is_bad_output.ensures ∙ c.if-is_bad_output.false)
