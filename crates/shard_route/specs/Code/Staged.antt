-- What private functions are given and give on the way to the answer.
use Rattle.std.specs.Prelude.{◌≡◌, None, Some, Result, Ok, Err, List, length}
use Rattle.std.specs.List.{filter_map}
use Rattle.bloom_forms.specs.Form.{Accepted}
use Rattle.topo_forms.specs.declared.topology.Topology.{Topology}
use Rattle.topo_forms.specs.Allowed.{IsAllowed}
use Rattle.topo_forms.specs.Valid.{needs_module}
use Rattle.topo_forms.specs.Validity.{fault_of}
use Rattle.shard_route.specs.declared.fault.ShardFault.{ShardFault}
use Rattle.shard_route.specs.declared.fault.ShardFault.TheVariants as fault

-- a topology with as many modules as components with one
pub record IsGiven (t : Topology) (modules : List Accepted) : Type 0 where
  pub each : length modules ≡ length (filter_map needs_module t.components)
  pub allowed : IsAllowed t

-- nothing where the topology has no fault, else its first
abbrev pub Passes : {X : Type 0} → Topology → List Accepted → Result X ShardFault → Type 0
Passes t modules (Ok nothing) = fault_of t modules ≡ None
Passes t modules (Err (fault.Topology found)) = fault_of t modules ≡ Some found
Passes t modules (Err fault.NoMemory) = Unit {0}
Passes t modules (Err other) = ⊥

-- a topology that can be written as a file
abbrev pub IsWritable : Topology → Type 0
IsWritable t = IsAllowed t × (t.format ≡ 2)
