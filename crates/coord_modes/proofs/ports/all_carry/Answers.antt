-- One stream that doesn't carry the key is enough.
use Rattle.std.proofs.Common.{◌<◌, length, arith, sym, ◌∙◌}
use Rattle.topo_forms.specs.Carried.{carries_key}
use Rattle.topo_forms.specs.View.{goes_to}
use Rattle.coord_modes.proofs.WalkLemmas.{broken_by, held_by}
use Rattle.coord_modes.proofs.ports.all_carry.Goals as goal

pub returns-then-is_other : goal.returns-then-is_other
returns-then-is_other c =
    let lt : c.loop-stream.stream < length c.args.valid.now.view.streams = omega arith in
    sym (broken_by (goes_to c.args.valid.now.view c.args.component c.args.port) (carries_key c.args.valid.now.view c.args.key.bits) (length c.args.valid.now.view.streams) c.loop-stream.stream lt (sym c.is_other.ensures ∙ c.if-is_other.true))

pub loop-stream-preserved : goal.loop-stream-preserved
loop-stream-preserved c =
    held_by (goes_to c.args.valid.now.view c.args.component c.args.port) (carries_key c.args.valid.now.view c.args.key.bits) c.loop-stream.stream c.loop-stream.invariant (sym c.is_other.ensures ∙ c.if-is_other.false)
