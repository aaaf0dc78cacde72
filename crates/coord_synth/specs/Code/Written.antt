-- A topology as it is written, beside its view.
use Rattle.std.specs.Prelude.{◌≡◌}
use Rattle.topo_forms.specs.declared.topology.Topology.{Topology}
use Rattle.topo_forms.specs.Valid.{Validated}
use Rattle.coord_modes.specs.Plan.{topology_with_modes}

-- what is written is this topology with the modes of the view
abbrev pub IsWritten : Topology → Validated → Type 0
IsWritten t seen = seen.topology ≡ topology_with_modes t seen.view

-- what was written with the modes of the view is so still
abbrev pub StaysWritten : Validated → Validated → Type 0
StaysWritten seen next = (t : Topology) → IsWritten t seen → IsWritten t next
