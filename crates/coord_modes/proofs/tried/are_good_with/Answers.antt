-- One stream that is worse is enough.
use Rattle.std.proofs.Common.{◌<◌, length, arith, sym, ◌∙◌}
use Rattle.topo_forms.specs.View.{comes_from, origin_of}
use Rattle.coord_modes.specs.Code.Tried.{is_fine_with}
use Rattle.coord_modes.proofs.WalkLemmas.{broken_by, held_by}
use Rattle.coord_modes.proofs.tried.are_good_with.Goals as goal

pub returns-then-bad : goal.returns-then-bad
returns-then-bad c =
    let v = c.args.valid.now.view in
    let lt : c.loop-stream.stream < length c.args.valid.now.view.streams = omega arith in
    sym (broken_by (comes_from v c.args.component) (λ s. is_fine_with v c.args.labels.now c.args.mode (origin_of v s)) (length v.streams) c.loop-stream.stream lt (sym c.in_ok-bad.ensures ∙ c.if-bad.true))

pub loop-stream-preserved : goal.loop-stream-preserved
loop-stream-preserved c =
    let v = c.args.valid.now.view in
    held_by (comes_from v c.args.component) (λ s. is_fine_with v c.args.labels.now c.args.mode (origin_of v s)) c.loop-stream.stream c.loop-stream.invariant (sym c.in_ok-bad.ensures ∙ c.if-bad.false)
