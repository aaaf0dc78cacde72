use Rattle.std.proofs.Common.{◌≡◌, map, take}
use Rattle.std.specs.List.{fold}
use Rattle.blz_value.specs.Test.{cell}
use Rattle.blz_value.specs.Hash.{record_writes}
use Rattle.data_read.proofs.dependencies.sides.feed.Given as goal

abbrev pub invariant-loop-place : goal.invariant-loop-place
invariant-loop-place g l = l.state ≡ fold g.H.Hasher.write l.initial.state (record_writes (map (cell l.side.row.now) (take l.place-index l.side.places.now)))
