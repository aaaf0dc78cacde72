use Rattle.std.proofs.Common.{◌≡◌, ◌<◌, [], length, drop, slice_index_or}
use Rattle.bloom_forms.specs.Kinds.{of_kind}
use Rattle.bloom_forms.specs.Program.{columns_of_kind}
use Rattle.bloom_forms.proofs.program.width_at.Given as goal

abbrev pub invariant-loop-collection : goal.invariant-loop-collection
invariant-loop-collection l = (l.left < length (of_kind l.kind (drop l.collection-index l.collections))) × (slice_index_or (columns_of_kind l.kind (drop l.collection-index l.collections)) l.left [] ≡ slice_index_or (columns_of_kind l.kind l.collections) l.place [])
