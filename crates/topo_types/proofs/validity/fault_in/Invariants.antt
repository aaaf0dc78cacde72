use Rattle.std.proofs.Common.{◌≡◌, drop}
use Rattle.topo_types.specs.Code.Named.{named}
use Rattle.topo_forms.specs.Validity as spec
use Rattle.topo_types.proofs.validity.fault_in.Given as goal

abbrev pub invariant-loop-kind : goal.invariant-loop-kind
invariant-loop-kind l = spec.fault_in (drop l.kind-index l.kinds) (named l.parts) ≡ spec.fault_in l.kinds (named l.parts)
