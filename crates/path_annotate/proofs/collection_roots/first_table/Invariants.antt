use Rattle.std.proofs.Common.{◌≡◌, map, take}
use Rattle.bloom_forms.specs.HeadRoots.{first_roots}
use Rattle.path_annotate.proofs.collection_roots.first_table.Given as goal

abbrev pub invariant-loop-collection : goal.invariant-loop-collection
invariant-loop-collection l = l.table.items ≡ map (first_roots l.names) (take l.collection-index l.collections)
