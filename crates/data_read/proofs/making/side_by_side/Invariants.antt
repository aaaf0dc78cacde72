use Rattle.std.proofs.Common.{◌≡◌, ◌++◌, map}
use Rattle.std.specs.List.{zip}
use Rattle.data_read.specs.Code.Pairs.{source_in}
use Rattle.data_read.proofs.making.side_by_side.Given as goal

-- the sources so far, and those of the rest, are all
abbrev pub invariant-loop-rows : goal.invariant-loop-rows
invariant-loop-rows l = l.sources.items ++ map source_in (zip l.rows-iterator.rest.items l.others.rest.items) ≡ map source_in (zip l.fn.rows.items l.fn.parts.items)
