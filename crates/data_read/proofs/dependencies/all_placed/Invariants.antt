use Rattle.std.proofs.Common.{◌≡◌, ◌++◌, drop}
use Rattle.std.specs.List.{flat_map, enumerate_from}
use Rattle.data_read.specs.Broken.{sides_in}
use Rattle.data_read.specs.Code.Earliest.{placed_sides}
use Rattle.data_read.proofs.dependencies.all_placed.Given as goal

-- those so far, and those of the rest, are all
abbrev pub invariant-loop-source : goal.invariant-loop-source
invariant-loop-source l =
    flat_map placed_sides l.all.items ++ flat_map (sides_in l.valid.view l.fd) (enumerate_from l.source (drop l.source l.sources)) ≡ flat_map (sides_in l.valid.view l.fd) (enumerate_from 0 l.sources)
