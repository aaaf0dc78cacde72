use Rattle.std.proofs.Common.{◌≡◌, List, true, sym, subst, arith}
use Rattle.blz_value.specs.Record.{Row}
use Rattle.topo_forms.specs.Data.{IsData}
use Rattle.blazes_commands.specs.Soak.{one_source, takes_tweets}
use Rattle.blazes_commands.proofs.TweetsLemmas.{tweets_fit}
use Rattle.blazes_commands.proofs.batches.tweets_data.Goals as goal

pub data_of-requires : goal.data_of-requires
data_of-requires c =
    let v = c.args.valid.now.view in
    let takes : takes_tweets v ≡ true = grind (arith, c.takes_tweets.ensures, c.if-not-takes_tweets.false) in
    subst (λ (rows : List Row). IsData v (one_source rows)) (sym c.in_ok-tweets.ensures) (tweets_fit v c.args.batches takes)
