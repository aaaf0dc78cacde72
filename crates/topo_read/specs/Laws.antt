-- What is written is read as the same topology.
use Rattle.std.specs.Prelude.{◌≡◌, Ok}
use Rattle.topo_forms.specs.declared.topology.Topology.{Topology}
use Rattle.topo_forms.specs.Allowed.{IsAllowed}
use Rattle.topo_read.specs.Topology.{topology_of}
use Rattle.topo_read.specs.Written.{table_of}

-- the table that a topology of format 2 is written as gives this topology
abbrev pub ReadBack : Type 0
ReadBack = (t : Topology) → IsAllowed t → t.format ≡ 2 → topology_of (table_of t) ≡ Ok t
