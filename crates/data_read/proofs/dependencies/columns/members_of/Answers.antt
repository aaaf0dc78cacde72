-- The loop ends at 64, past the last member.
use Rattle.std.proofs.Common.{◌≡◌, ℕ, filter, arith, ap, ◌∙◌}
use Rattle.std.specs.List.{range_with_len}
use Rattle.blz_value.specs.Bits.{bit_of, meets}
use Rattle.data_read.proofs.dependencies.columns.members_of.Goals as goal

pub returns : goal.returns
returns c =
    let end : c.loop-attribute.attribute ≡ 64 = omega arith in
    c.loop-attribute.invariant ∙ ap (λ (count : ℕ). filter (λ n. meets (bit_of n) c.args.key.bits) (range_with_len 0 count)) end
