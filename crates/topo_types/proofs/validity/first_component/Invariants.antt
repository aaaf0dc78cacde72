use Rattle.std.proofs.Common.{◌≡◌, drop}
use Rattle.blz_value.specs.FirstPlace.{first_place}
use Rattle.topo_types.specs.Code.Built.{sites_seen}
use Rattle.topo_types.specs.Code.Named.{named}
use Rattle.topo_forms.specs.Validity.{bad_component}
use Rattle.topo_types.proofs.validity.first_component.Given as goal

abbrev pub invariant-loop-number : goal.invariant-loop-number
invariant-loop-number l = first_place (bad_component l.kind (named l.parts)) l.number (sites_seen (drop l.number l.parts.sites.now)) ≡ first_place (bad_component l.kind (named l.parts)) 0 (sites_seen l.parts.sites.now)
