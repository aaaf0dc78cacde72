-- A turn of the loop finds one more, and in the end there is none left.
use Rattle.std.proofs.Common.{ap, ◌∙◌, sym, Some}
use Rattle.topo_read.proofs.Front.{one_more, none_left}
use Rattle.topo_read.proofs.values.all_in.Goals as goal

pub loop-value-preserved : goal.loop-value-preserved
loop-value-preserved g c =
    one_more g.T.FromValue.reading c.loop-value.items.items c.push.new.self.items c.in_ok-from_value.field-0 c.value-item.result c.args.values.now c.loop-value.value-index _ c.loop-value-test.true c.value-item.is c.in_ok-from_value.ensures c.in_ok-push.ensures.items c.loop-value.invariant

pub returns : goal.returns
returns g c = none_left g.T.FromValue.reading c.loop-value.items.items c.args.values.now c.loop-value.value-index _ c.loop-value-test.false c.loop-value.invariant ∙ ap Some (sym c.from_vec.ensures)
