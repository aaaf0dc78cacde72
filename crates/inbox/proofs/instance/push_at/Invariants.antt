-- the feeds from the streams so far
use Rattle.std.proofs.Common.{◌≡◌, ◌++◌, filter}
use Rattle.std.specs.List.{flat_map}
use Rattle.topo_forms.specs.Feeds.{feeds_from}
use Rattle.blz_value.specs.NumberSets.{below}
use Rattle.topo_forms.specs.View.{goes_to}
use Rattle.inbox.specs.Senders.{senders_for}
use Rattle.inbox.proofs.instance.push_at.Given as goal

abbrev pub invariant-loop-stream : goal.invariant-loop-stream
invariant-loop-stream l = l.into.items ≡ l.initial.into.items ++ flat_map (λ s. feeds_from l.port s (senders_for l.valid.view l.component l.replica s)) (filter (goes_to l.valid.view l.component l.port) (below l.stream))
