use Rattle.std.proofs.Common.{◌∙◌, ◌<◌, arith, length}
use Rattle.std.proofs.Math.ListN.{length-set}
use Rattle.messages.specs.Code.Hearing.{IsEmptyAgain}
use Rattle.messages.proofs.FeedsLemmas.{changed_more, others_more}
use Rattle.messages.proofs.feeds.clear_feeds.Goals as goal

pub loop-feed-preserved : goal.loop-feed-preserved
loop-feed-preserved c =
    let i = c.loop-feed.invariant in
    let first = c.args.feeds.now.items in
    let now = c.loop-feed.feeds.items in
    let within : c.loop-feed.feed < length now = omega (arith, i.count, c.loop-feed-test.true, c.len-feed-end.ensures) in
    let cleared = c.clear.ensures in
    let fresh : IsEmptyAgain c.index_mut.result.now c.clear.new.self = record { port_is = cleared.port; carries_is = cleared.carries; known = cleared.known; counts = cleared.counts } in
    record {
      count = length-set now c.loop-feed.feed c.clear.new.self ∙ i.count;
      cleared = changed_more IsEmptyAgain first now c.loop-feed.feed c.index_mut.result.now c.clear.new.self within c.index_mut.ensures.value fresh i.cleared i.others;
      others = others_more first now c.loop-feed.feed c.clear.new.self i.others;
    }
