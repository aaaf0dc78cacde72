use Rattle.std.proofs.Common.{◌≡◌, ◌++◌, map, drop}
use Rattle.bloom_forms.specs.Kinds.{of_kind}
use Rattle.topo_forms.specs.Sites.{collection_side}
use Rattle.topo_types.proofs.view.bodies.sides_of_kind.Given as goal

abbrev pub invariant-loop-collection : goal.invariant-loop-collection
invariant-loop-collection l = l.sides.items ++ map collection_side (of_kind l.kind (drop l.collection-index l.collections)) ≡ map collection_side (of_kind l.kind l.collections)
