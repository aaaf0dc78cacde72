-- the outlets for the streams so far
use Rattle.std.proofs.Common.{◌≡◌, map, filter}
use Rattle.blz_value.specs.NumberSets.{below}
use Rattle.topo_forms.specs.View.{comes_from}
use Rattle.inbox.specs.Outlets.{outlet_for}
use Rattle.inbox.proofs.outlets.outlets_of.Given as goal

abbrev pub invariant-loop-stream : goal.invariant-loop-stream
invariant-loop-stream l = l.outlets.items ≡ map (outlet_for l.valid.view l.replica) (filter (comes_from l.valid.view l.component) (below l.stream))
