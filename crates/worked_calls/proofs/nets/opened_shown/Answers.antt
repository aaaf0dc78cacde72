use Rattle.std.proofs.Common.{ap, map}
use Rattle.topo_forms.specs.Valid.{Validated}
use Rattle.worked_calls.proofs.NetRuns.{first_runs}
use Rattle.worked_calls.proofs.nets.opened_shown.Goals as goal

pub net_shown-requires : goal.net_shown-requires
net_shown-requires g c =
    let net = c.in_ok-net.net in
    first_runs c.args.valid.now.view net.valid.now.view c.args.given (map (λ b. (goal.Component-dyn g (b.vtable, b.value)).program b.value) net.shells.items) (map (λ b. (goal.Component-dyn g (b.vtable, b.value)).kept b.value) net.shells.items) net.books
    (ap (λ (t : Validated). t.view) c.in_ok-net.ensures.valid) c.in_ok-net.ensures.stands
