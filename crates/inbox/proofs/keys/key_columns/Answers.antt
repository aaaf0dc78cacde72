-- The loop ends at 64, past the last member.
use Rattle.std.proofs.Common.{◌≡◌, ◌∙◌, ℕ, arith, ap, map, filter}
use Rattle.blz_value.specs.Bits.{bit_of, meets}
use Rattle.topo_forms.specs.Data.{place_of_attribute}
use Rattle.blz_value.specs.NumberSets.{below}
use Rattle.topo_forms.specs.View.{stream_at}
use Rattle.inbox.proofs.keys.key_columns.Goals as goal

pub returns : goal.returns
returns c =
    let end : c.loop-attribute.attribute ≡ 64 = omega arith in
    c.loop-attribute.invariant ∙ ap (λ (count : ℕ). map (place_of_attribute (stream_at c.args.valid.now.view c.args.stream).columns) (filter (λ n. meets (bit_of n) c.args.key.bits) (below count))) end
