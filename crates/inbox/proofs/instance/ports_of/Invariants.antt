-- the ports so far
use Rattle.std.proofs.Common.{◌≡◌, map}
use Rattle.blz_value.specs.NumberSets.{below}
use Rattle.messages.specs.Ports.{port_keys}
use Rattle.inbox.specs.Wiring.{port_for}
use Rattle.inbox.proofs.instance.ports_of.Given as goal

abbrev pub invariant-loop-port : goal.invariant-loop-port
invariant-loop-port l = port_keys l.ports.items ≡ map (λ p. port_for l.valid.view l.component p l.key) (below l.port)
