-- What follows on a topology that was read.
use Rattle.std.specs.Prelude.{List}
use Rattle.bloom_forms.specs.Form.{Accepted}
use Rattle.topo_forms.specs.Validity.{fault_of}
use Rattle.topo_forms.specs.declared.topology.Topology.{Topology}
use Rattle.command_checks.specs.Checks.{WithModules, each, module_file, module_names, valid_with}
use Rattle.command_checks.specs.FileChecks.{checked}
use Rattle.command_checks.specs.Script.{Script, ◌>>=◌}

-- with its modules: whether it is valid with them
abbrev pub from_modules : Topology → List Accepted → Script WithModules
from_modules t modules = checked (valid_with t modules (fault_of t modules)) >>= λ valid. Script.gives (record { valid = valid; modules = modules })

-- alone: its modules first
abbrev pub from_topology : Topology → Script WithModules
from_topology t = each module_file (module_names t) >>= from_modules t
