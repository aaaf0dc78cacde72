-- The loop ends at 64, past the last member.
use Rattle.std.proofs.Common.{◌≡◌, ℕ, filter, arith, ap, ◌∙◌}
use Rattle.blz_value.specs.Graph.{is_in}
use Rattle.blz_value.specs.NumberSets.{below}
use Rattle.label_walk.proofs.sets.members.Goals as goal

pub returns : goal.returns
returns c =
    let end : c.loop-number.number ≡ 64 = omega arith in
    c.loop-number.invariant ∙ ap (λ (count : ℕ). filter (λ n. is_in n c.args.set.bits) (below count)) end
