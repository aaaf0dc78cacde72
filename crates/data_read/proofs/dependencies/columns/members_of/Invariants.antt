-- the members so far
use Rattle.std.proofs.Common.{◌≡◌, filter}
use Rattle.std.specs.List.{range_with_len}
use Rattle.blz_value.specs.Bits.{bit_of, meets}
use Rattle.data_read.proofs.dependencies.columns.members_of.Given as goal

abbrev pub invariant-loop-attribute : goal.invariant-loop-attribute
invariant-loop-attribute l = l.members.items ≡ filter (λ n. meets (bit_of n) l.key.bits) (range_with_len 0 l.attribute)
