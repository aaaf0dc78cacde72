-- the union of those before and after is that of all
use Rattle.std.proofs.Common.{◌≡◌, drop, map}
use Rattle.blz_value.specs.Bits.{bit_of}
use Rattle.blz_value.specs.Arrows.{with_all}
use Rattle.inbox.proofs.instance.attrs_of.Given as goal

abbrev pub invariant-loop-column : goal.invariant-loop-column
invariant-loop-column l = with_all l.attrs.bits (map bit_of (drop l.column-index l.columns)) ≡ with_all 0 (map bit_of l.columns)
