use Rattle.std.proofs.Common.{◌==◌, ◌&&◌, rules, ◌∙◌, ap, position}
use Rattle.std.proofs.lemmas.List.Sorted.{answers_always}
use Rattle.topo_forms.specs.Feeds.{Feed}
use Rattle.inbox.specs.Events.{Part}
use Rattle.sched_net.proofs.FeedsSorted.{searched_feed}
use Rattle.sched_net.proofs.parts.feed_of.Goals as goal

pub returns : goal.returns
returns c =
    c.ok.ensures.value
    ∙ searched_feed c.args.feeds.now c.requires (record { port = c.part.inside.port; stream = c.part.inside.stream; sender = c.part.inside.replica }) c.binary_search_by_key.result c.binary_search_by_key.ensures.bound
    (c.binary_search_by_key.ensures.position (λ (f : Feed). (f.port, f.stream, f.sender)) (answers_always _ _ _ (λ f a r g called. search rules)))
    ∙ ap (λ (p : Part). position (λ feed. feed.port == p.port && (feed.stream == p.sent.stream && feed.sender == p.sent.replica)) c.args.feeds.now) c.part.view_is
