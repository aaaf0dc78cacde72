-- How a reading of a file's bytes ends.
use Rattle.std.specs.Prelude.{◌≡◌, ℕ, List, Some, None, Result, Ok, Err}
use Rattle.toml.specs.Data.{Members}
use Rattle.topo_forms.specs.declared.topology.Topology.{Topology}
use Rattle.topo_read.specs.declared.fault.TopoTextFault.{TopoTextFault}
use Rattle.topo_read.specs.declared.fault.TopoTextFault.TheVariants.{NotToml, Form, NoMemory}
use Rattle.topo_read.specs.Document.{document_of}
use Rattle.topo_read.specs.Fields.{Path}
use Rattle.topo_read.specs.Topology.{topology_of}

-- the bytes are a document that gives this topology, or that breaks at this path
abbrev pub IsFormOf : List ℕ → Result Topology Path → Type 0
IsFormOf bytes form = (top : Members) × (document_of bytes ≡ Some top) × (topology_of top ≡ form)

-- the topology that the document gives; NotToml where the bytes are no document; the path of the
-- document's first break. NoMemory may come for any bytes
abbrev pub IsReading : List ℕ → Result Topology TopoTextFault → Type 0
IsReading bytes (Ok t) = IsFormOf bytes (Ok t)
IsReading bytes (Err NotToml) = document_of bytes ≡ None
IsReading bytes (Err (Form path)) = IsFormOf bytes (Err path)
IsReading bytes (Err NoMemory) = Unit {0}
