-- the ports of the feeds so far
use Rattle.std.proofs.Common.{◌≡◌, map, take}
use Rattle.topo_forms.specs.Feeds.{Feed}
use Rattle.inbox.proofs.instance.ports_of_feeds.Given as goal

abbrev pub invariant-loop-feed : goal.invariant-loop-feed
invariant-loop-feed l = l.ports.items ≡ map (λ (feed : Feed). feed.port) (take l.feed-index l.feeds)
