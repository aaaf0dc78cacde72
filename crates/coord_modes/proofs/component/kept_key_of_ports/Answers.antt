-- The first key that is kept, or none.
use Rattle.std.proofs.Common.{◌<◌, length, arith, sym, ◌∙◌}
use Rattle.topo_forms.specs.Carried.{port_key}
use Rattle.topo_forms.specs.View.{component_at}
use Rattle.coord_modes.specs.Plan.{is_good, trial}
use Rattle.coord_modes.proofs.WalkLemmas.{kept_ends, kept_goes}
use Rattle.coord_modes.proofs.component.kept_key_of_ports.Goals as goal

pub returns-then-is_some : goal.returns-then-is_some
returns-then-is_some c =
    let v = c.args.now.now.view in
    let lt : c.loop-port.port < length (component_at c.args.now.now.view c.args.component).ports = omega arith in
    kept_ends (port_key v c.args.component) (λ k. is_good (trial v c.args.component k) c.args.component) (length (component_at v c.args.component).ports) c.loop-port.port lt c.loop-port.invariant c.in_ok-kept.kept c.in_ok-kept.ensures (sym c.is_some.ensures ∙ c.if-is_some.true)

pub loop-port-preserved : goal.loop-port-preserved
loop-port-preserved c =
    let v = c.args.now.now.view in
    kept_goes (port_key v c.args.component) (λ k. is_good (trial v c.args.component k) c.args.component) c.loop-port.port c.loop-port.invariant c.in_ok-kept.kept c.in_ok-kept.ensures (sym c.is_some.ensures ∙ c.if-is_some.false)
