-- A topology with the modules that it names, as the code keeps it.
use Rattle.std.specs.Prelude.{◌≡◌, None, length}
use Rattle.std.specs.List.{filter_map}
use Rattle.topo_forms.specs.Allowed.{IsAllowed}
use Rattle.topo_forms.specs.Valid.{needs_module}
use Rattle.topo_forms.specs.Validity.{fault_of}
use Rattle.command_checks.specs.Checks as check
use Rattle.command_checks.specs.declared.topologies.WithModules.{WithModules}

abbrev pub found_shown : WithModules → check.WithModules
found_shown found = record { valid = found.valid; modules = found.modules.items }

-- the topology is allowed and has no fault with these modules, one for each component that needs one
pub record HasModules (found : check.WithModules) : Type 0 where
  pub each : length found.modules ≡ length (filter_map needs_module found.valid.topology.components)
  pub allowed : IsAllowed found.valid.topology
  pub accepted : fault_of found.valid.topology found.modules ≡ None
