use Rattle.std.proofs.Common.{◌≡◌, drop}
use Rattle.toml.specs.View.{items_view}
use Rattle.topo_read.specs.Values.{all_in}
use Rattle.topo_read.proofs.Front.{with_front}
use Rattle.topo_read.proofs.values.all_in.Given as goal

-- the items so far, and those of the rest, are those of all
abbrev pub invariant-loop-value : goal.invariant-loop-value
invariant-loop-value g l = with_front l.items.items (all_in g.T.FromValue.reading (items_view (drop l.value-index l.values))) ≡ all_in g.T.FromValue.reading (items_view l.values)
