-- The first number that passes.
use Rattle.std.proofs.Common.{◌<◌, length, arith, sym, ◌∙◌}
use Rattle.topo_forms.specs.View.{goes_to}
use Rattle.coord_modes.proofs.WalkLemmas.{found_first, none_more}
use Rattle.coord_modes.proofs.ports.first_into.Goals as goal

pub returns-then-goes_to-clause-first : goal.returns-then-goes_to-clause-first
returns-then-goes_to-clause-first c =
    let lt : c.loop-stream.stream < length c.args.valid.now.view.streams = omega arith in
    sym (found_first (goes_to c.args.valid.now.view c.args.component c.args.port) (length c.args.valid.now.view.streams) c.loop-stream.stream lt c.loop-stream.invariant (sym c.goes_to.ensures ∙ c.if-goes_to.true))

pub loop-stream-preserved : goal.loop-stream-preserved
loop-stream-preserved c = none_more (goes_to c.args.valid.now.view c.args.component c.args.port) c.loop-stream.stream c.loop-stream.invariant (sym c.goes_to.ensures ∙ c.if-goes_to.false)
