use Rattle.std.proofs.Common.{◌≡◌, drop}
use Rattle.blz_value.specs.FirstPlace.{first_place}
use Rattle.topo_types.specs.Code.Named.{named}
use Rattle.topo_forms.specs.Validity.{bad_source}
use Rattle.topo_types.proofs.validity.first_source.Given as goal

abbrev pub invariant-loop-number : goal.invariant-loop-number
invariant-loop-number l = first_place (bad_source l.kind (named l.parts)) l.number (drop l.number l.parts.topology.now.sources) ≡ first_place (bad_source l.kind (named l.parts)) 0 l.parts.topology.now.sources
