use Rattle.std.proofs.Common.{◌≡◌, ◌++◌, ◌∙◌, map, ap, arith}
use Rattle.blz_value.specs.NumberSets.{below}
use Rattle.blazes_commands.specs.Soak.{tweet, tweets_of}
use Rattle.blazes_commands.proofs.batches.push_batch.Goals as goal

pub returns : goal.returns
unfolding tweets_of
returns c =
    let all : c.loop-place.place ≡ 16 = omega (arith, c.loop-place-test.false, c.loop-place.auto.place-end) in
    c.loop-place.invariant ∙ ap (λ n. c.args.rows.now.items ++ map (tweet c.args.batch) (below n)) all
