-- the feeds so far
use Rattle.std.proofs.Common.{take}
use Rattle.messages.specs.Code.Hearing.{AreEmpty}
use Rattle.messages.specs.Ports.{port_keys}
use Rattle.messages.proofs.feeds.fresh_feeds.Given as goal

abbrev pub invariant-loop-port : goal.invariant-loop-port
invariant-loop-port l = AreEmpty (port_keys l.ports) (take l.port-index l.feed_ports) l.feeds.items
