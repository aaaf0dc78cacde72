-- What the kinds of faults before ReplicaMismatch look at: no more of a view than the names of its attributes.
use Rattle.std.specs.Prelude.{List, []}
use Rattle.bloom_forms.specs.Query.{Name}
use Rattle.topo_forms.specs.declared.topology.Topology.{Topology}
use Rattle.topo_types.specs.declared.validity.Parts.{Parts}
use Rattle.topo_types.specs.Code.Built.{sites_seen}
use Rattle.topo_forms.specs.Sites.{Site}
use Rattle.topo_forms.specs.Validity.{Written}
use Rattle.topo_forms.specs.View.{View}

-- a view of which only the attributes are there
abbrev pub view_of_names : List Name → View
view_of_names names = record { attributes = names; streams = []; components = []; fds = [] }

-- what Twice, Unknown and Columns look at
abbrev pub of_names : Topology → List Site → List Name → Written
of_names t sites names = record { topology = t; sites = sites; view = view_of_names names }

-- what TooMany looks at
abbrev pub sized : Topology → List Site → Written
sized t sites = of_names t sites []

abbrev pub named : Parts → Written
named parts = of_names parts.topology.now (sites_seen parts.sites.now) parts.names.now
