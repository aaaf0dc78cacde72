-- the entries at the places so far
use Rattle.std.proofs.Common.{◌≡◌, take}
use Rattle.std.specs.List.{filter_map, slice_get}
use Rattle.inbox.proofs.waiting.Waiting.released.Given as goal

abbrev pub invariant-loop-place : goal.invariant-loop-place
invariant-loop-place l = l.entries.items ≡ filter_map (slice_get l.self.log) (take l.place-index l.place-items)
