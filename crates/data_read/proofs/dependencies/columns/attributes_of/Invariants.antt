use Rattle.std.proofs.Common.{◌≡◌, drop, map}
use Rattle.blz_value.specs.Arrows.{with_all}
use Rattle.bloom_forms.specs.Gates.{root_set}
use Rattle.data_read.proofs.dependencies.columns.attributes_of.Given as goal

-- the set with those of the rest is that of all
abbrev pub invariant-loop-column : goal.invariant-loop-column
invariant-loop-column l = with_all l.set.bits (map root_set (drop l.column-index l.columns)) ≡ with_all 0 (map root_set l.columns)
