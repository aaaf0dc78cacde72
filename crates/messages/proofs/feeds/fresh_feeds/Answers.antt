use Rattle.std.proofs.Common.{◌∙◌, ℕ, List, get_or, subst}
use Rattle.std.proofs.lemmas.List.{take_all}
use Rattle.messages.specs.Code.Hearing.{IsEmpty, AreEmpty}
use Rattle.messages.specs.Feeds.{carries_at}
use Rattle.messages.specs.Ports.{port_keys}
use Rattle.messages.proofs.FeedsLemmas.{empty_more}
use Rattle.messages.proofs.feeds.fresh_feeds.Goals as goal

pub loop-port-preserved : goal.loop-port-preserved
loop-port-preserved c =
    let ports = port_keys c.args.ports.now in
    let port = get_or c.args.feed_ports.now c.loop-port.port-index 0 in
    let empty : IsEmpty port (carries_at ports port) c.new.result = record { port_is = c.new.ensures.port; carries_is = c.new.ensures.carries ∙ c.is_carrying.ensures; known = c.new.ensures.known; counts = c.new.ensures.counts } in
    empty_more ports c.args.feed_ports.now c.loop-port.port-index c.loop-port.feeds.items c.push.new.self.items c.new.result c.loop-port-test.true c.loop-port.invariant empty c.in_ok-push.ensures.items

pub returns : goal.returns
returns c =
    subst (λ (feed_ports : List ℕ). AreEmpty (port_keys c.args.ports.now) feed_ports c.loop-port.feeds.items) (take_all c.loop-port.port-index c.args.feed_ports.now c.loop-port-test.false) c.loop-port.invariant
