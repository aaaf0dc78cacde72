-- the feeds of the ports so far
use Rattle.std.proofs.Common.{◌≡◌}
use Rattle.std.specs.List.{flat_map}
use Rattle.topo_forms.specs.Feeds.{feeds_from}
use Rattle.blz_value.specs.NumberSets.{below}
use Rattle.topo_forms.specs.View.{streams_to}
use Rattle.inbox.specs.Senders.{senders_for}
use Rattle.inbox.proofs.instance.feeds_of.Given as goal

abbrev pub invariant-loop-port : goal.invariant-loop-port
invariant-loop-port l = l.feeds.items ≡ flat_map (λ p. flat_map (λ s. feeds_from p s (senders_for l.valid.view l.component l.replica s)) (streams_to l.valid.view l.component p)) (below l.port)
