-- The component that is found stands in the view of the topology.
use Rattle.std.proofs.Common.{arith, sym}
use Rattle.std.specs.Str.{bytes_eq}
use Rattle.blz_value.proofs.Options.{place_within}
use Rattle.topo_forms.specs.View.{Component}
use Rattle.shard_route.proofs.Answering.{found}
use Rattle.shard_route.proofs.sharding.with_valid.Goals as goal

pub with_program-requires-clause-number : goal.with_program-requires-clause-number
with_program-requires-clause-number c =
    let within = place_within (λ (x : Component). bytes_eq x.name c.args.request.now.component.now) 0 c.args.valid.now.view.components c.in-Some.number (sym c.in-Some.ensures) in
    omega (arith, within)

pub returns-in-Some-clause-answer : goal.returns-in-Some-clause-answer
returns-in-Some-clause-answer c =
    found c.args.request.now.topology.now c.args.request.now.modules.now (record { component = c.args.request.now.component.now; column = c.args.request.now.column.now; bounds = c.args.request.now.bounds.now }) c.args.valid.now.view c.in-Some.number c.with_program.result
    c.requires.view (sym c.in-Some.ensures) c.with_program.ensures.answer
