-- the collection is among those that are left
use Rattle.std.proofs.Common.{◌≡◌, ◌<◌, ◌+◌, length, drop}
use Rattle.bloom_forms.specs.Kinds.{of_kind, place_in_kind}
use Rattle.bloom_index.proofs.places.collection_at.Given as goal

abbrev pub invariant-loop-i : goal.invariant-loop-i
invariant-loop-i l = record {
  left : l.left < length (of_kind l.kind (drop l.i l.collections));
  place : l.left + place_in_kind l.kind l.collections l.i ≡ l.place;
}
