use Rattle.std.proofs.Common.{◌≡◌, take}
use Rattle.bloom_forms.specs.HeadRoots.{attribute_roots}
use Rattle.topo_types.proofs.view.numbers.attributes_of.Given as goal

abbrev pub invariant-loop-column : goal.invariant-loop-column
invariant-loop-column l = l.roots.items ≡ attribute_roots l.names (take l.column-index l.columns)
