-- the feeds of the senders so far
use Rattle.std.proofs.Common.{◌≡◌, ◌++◌, filter}
use Rattle.topo_forms.specs.Feeds.{feeds_from}
use Rattle.blz_value.specs.NumberSets.{below}
use Rattle.inbox.specs.Senders.{is_sender}
use Rattle.inbox.proofs.instance.push_from.Given as goal

abbrev pub invariant-loop-sender : goal.invariant-loop-sender
invariant-loop-sender l = l.into.items ≡ l.initial.into.items ++ feeds_from l.port l.stream (filter (is_sender l.valid.view l.component l.replica l.stream) (below l.sender))
