-- the places of the partitions so far
use Rattle.std.proofs.Common.{◌≡◌, take}
use Rattle.std.specs.List.{flat_map}
use Rattle.inbox.specs.Code.Places.{places_of}
use Rattle.inbox.proofs.waiting.Waiting.all_places.Given as goal

abbrev pub invariant-loop-key : goal.invariant-loop-key
invariant-loop-key l = l.places.items ≡ flat_map (places_of l.self.places) (take l.key-index l.keys)
