-- What a validation answers.
use Rattle.std.specs.Prelude.{◌≡◌, None, Some, List, Result, Ok, Err}
use Rattle.bloom_forms.specs.Form.{Accepted}
use Rattle.topo_forms.specs.declared.fault.ValidFault.{ValidFault}
use Rattle.topo_forms.specs.declared.fault.ValidFault.TheVariants.{Bad, NoMemory}
use Rattle.topo_forms.specs.declared.topology.Topology.{Topology}
use Rattle.topo_forms.specs.Valid.{Validated}
use Rattle.topo_forms.specs.Validity.{fault_of}
use Rattle.topo_forms.specs.ViewOf.{view_of}

-- the topology has no fault, and it is seen with its view
pub record IsAccepted (t : Topology) (modules : List Accepted) (seen : Validated) : Type 0 where
  pub topology : seen.topology ≡ t
  pub view : seen.view ≡ view_of t modules
  pub clean : fault_of t modules ≡ None

-- the topology with its view, or its first fault, where the modules of the components with one are these
abbrev pub Validates : Topology → List Accepted → Result Validated ValidFault → Type 0
Validates t modules (Ok seen) = IsAccepted t modules seen
Validates t modules (Err (Bad fault)) = fault_of t modules ≡ Some fault
Validates t modules (Err NoMemory) = Unit {0}
