-- The new topology with its modules may be validated.
use Rattle.std.proofs.Common.{ap}
use Rattle.topo_forms.specs.declared.topology.Topology.{Topology}
use Rattle.shard_route.proofs.NewTopology.{allowed_there, each_there}
use Rattle.shard_route.proofs.sharding.with_copies.Goals as goal

pub faultless-requires-clause-each : goal.faultless-requires-clause-each
faultless-requires-clause-each c =
    each_there c.args.request.now.topology.now c.args.request.now.component.now c.args.numbers.now c.in_ok-topology.topology c.in_ok-topology.ensures c.as_slice-components.result.now c.as_slice-components.ensures
    c.args.copies.now c.args.request.now.modules.now c.in_ok-modules.modules.items c.deref.result.now c.requires.numbers c.requires.given.each c.in_ok-modules.ensures c.deref.ensures.value

pub faultless-requires-clause-allowed : goal.faultless-requires-clause-allowed
faultless-requires-clause-allowed c =
    allowed_there c.args.request.now.topology.now c.args.request.now.component.now c.args.numbers.now c.in_ok-topology.topology c.in_ok-topology.ensures c.as_slice-components.result.now c.as_slice-components.ensures
    c.as_slice-streams.result.now c.in_ok-has_bad_names.field-0 c.as_slice-streams.ensures c.in_ok-has_bad_names.ensures c.if-branch.false c.requires.small c.requires.given.allowed

-- and written
pub returns-clause-writable : goal.returns-clause-writable
returns-clause-writable c = (
  allowed_there c.args.request.now.topology.now c.args.request.now.component.now c.args.numbers.now c.in_ok-topology.topology c.in_ok-topology.ensures c.as_slice-components.result.now c.as_slice-components.ensures
      c.as_slice-streams.result.now c.in_ok-has_bad_names.field-0 c.as_slice-streams.ensures c.in_ok-has_bad_names.ensures c.if-branch.false c.requires.small c.requires.given.allowed,
  ap (λ (t : Topology). t.format) c.in_ok-topology.ensures,
)
