use Rattle.std.proofs.Common.{◌≡◌, ◌≤◌, ◌+◌, length, drop}
use Rattle.bloom_forms.specs.Kinds.{of_kind}
use Rattle.bloom_forms.proofs.program.count_of.Given as goal

abbrev pub invariant-loop-collection : goal.invariant-loop-collection
invariant-loop-collection l = (l.count ≤ l.collection-index) × (l.count + length (of_kind l.kind (drop l.collection-index l.collections)) ≡ length (of_kind l.kind l.collections))
