-- The first fault of a topology: the first kind that holds, at its first place.
pub mod TooMany
pub mod Twice
pub mod Unknown
pub mod Columns
pub mod OfView
use Rattle.std.specs.Prelude.{ℕ, ◌+◌, ◌≤◌, Bool, false, Option, None, Some, List, [], ◌∷◌, length, take}
use Rattle.std.specs.Option.{option_or}
use Rattle.blz_value.specs.FirstPlace.{first_place}
use Rattle.bloom_forms.specs.Form.{Accepted}
use Rattle.topo_forms.specs.declared.fault.TopoFault.{TopoFault}
use Rattle.topo_forms.specs.declared.fault.TopoKind.{TopoKind}
use Rattle.topo_forms.specs.declared.fault.TopoKind.TheVariants as kind
use Rattle.topo_forms.specs.declared.fault.TopoPlace.TheVariants as place
use Rattle.topo_forms.specs.declared.topology.SourceEntry.{SourceEntry}
use Rattle.topo_forms.specs.declared.topology.StreamEntry.{StreamEntry}
use Rattle.topo_forms.specs.declared.topology.FdEntry.{FdEntry}
use Rattle.topo_forms.specs.declared.topology.Topology.{Topology}
use Rattle.topo_forms.specs.Sites.{Site, sites_of, attributes_in}
use Rattle.topo_forms.specs.View.{View}
use Rattle.topo_forms.specs.ViewOf.{view_of}
use Rattle.topo_forms.specs.Validity.TooMany.{large_source, large_component, too_many_stream, too_many_fd}
use Rattle.topo_forms.specs.Validity.Twice.{twice_source, twice_component, twice_stream, twice_fd}
use Rattle.topo_forms.specs.Validity.Unknown.{unknown_source, unknown_component, unknown_stream, unknown_fd}
use Rattle.topo_forms.specs.Validity.Columns.{columns_source, columns_component, columns_stream}
use Rattle.topo_forms.specs.Validity.OfView.{is_mismatched, seals_in_cycle, is_understated}

-- what the tests look at: the topology as it is written, its components with their bodies, and its view, from which the kinds before ReplicaMismatch take the names of the attributes alone
pub record Written : Type 0 where
  pub topology : Topology
  pub sites : List Site
  pub view : View

abbrev pub written : Topology → List Accepted → Written
written t modules = record { topology = t; sites = sites_of t.components modules; view = view_of t modules }

-- the source with this number has a fault of the kind; a kind without a line holds of no source
abbrev pub bad_source : TopoKind → Written → ℕ → SourceEntry → Bool
bad_source kind.TooMany w i s = large_source w.topology.sources i s
bad_source kind.Twice w i s = twice_source (take i w.topology.sources) s
bad_source kind.Unknown w i s = unknown_source w.sites s
bad_source kind.Columns w i s = columns_source w.sites s
bad_source k w i s = false

-- the component with this number; a kind without a line holds of no component
abbrev pub bad_component : TopoKind → Written → ℕ → Site → Bool
bad_component kind.TooMany w i site = large_component w.topology.sources w.sites i site
bad_component kind.Twice w i site = twice_component (take i w.topology.components) site.entry
bad_component kind.Unknown w i site = unknown_component w.view.attributes site
bad_component kind.Columns w i site = columns_component site
bad_component kind.SealInCycle w i site = seals_in_cycle w.view i
bad_component kind.Understated w i site = is_understated w.view.attributes site
bad_component k w i site = false

-- the stream with this number; a kind without a line holds of no stream
abbrev pub bad_stream : TopoKind → Written → ℕ → StreamEntry → Bool
bad_stream kind.TooMany w i s = too_many_stream (length w.topology.sources) i
bad_stream kind.Twice w i s = twice_stream w.topology.sources (take i w.topology.streams) s
bad_stream kind.Unknown w i s = unknown_stream w.sites s
bad_stream kind.Columns w i s = columns_stream w.sites s
bad_stream kind.ReplicaMismatch w i s = is_mismatched w.view (length w.topology.sources + i)
bad_stream k w i s = false

-- the dependency with this number; a kind without a line holds of no dependency
abbrev pub bad_fd : TopoKind → Written → ℕ → FdEntry → Bool
bad_fd kind.TooMany w i fd = too_many_fd i
bad_fd kind.Twice w i fd = twice_fd (take i w.topology.fds) fd
bad_fd kind.Unknown w i fd = unknown_fd w.view.attributes fd
bad_fd k w i fd = false

-- a fault of the kind at the first of the numbers that is there: of a source, a component, a stream or a dependency. Places count from 1
abbrev pub at_places : TopoKind → (source component stream fd : Option ℕ) → Option TopoFault
at_places k (Some i) component stream fd = Some (record { kind = k; place = place.Source (i + 1) })
at_places k None (Some i) stream fd = Some (record { kind = k; place = place.Component (i + 1) })
at_places k None None (Some i) fd = Some (record { kind = k; place = place.Stream (i + 1) })
at_places k None None None (Some i) = Some (record { kind = k; place = place.Fd (i + 1) })
at_places k None None None None = None

-- the fault of the kind at its first place: sources, then components, then streams, then dependencies
abbrev pub kind_fault : TopoKind → Written → Option TopoFault
kind_fault k w =
    at_places k
    (first_place (bad_source k w) 0 w.topology.sources)
    (first_place (bad_component k w) 0 w.sites)
    (first_place (bad_stream k w) 0 w.topology.streams)
    (first_place (bad_fd k w) 0 w.topology.fds)

-- the fault of the first of these kinds that has one
abbrev pub fault_in : List TopoKind → Written → Option TopoFault
fault_in [] w = None
fault_in (k ∷ kinds) w = option_or (kind_fault k w) (fault_in kinds w)

-- the kinds after TooMany that go by names alone
abbrev pub kinds_of_names : List TopoKind
kinds_of_names = kind.Twice ∷ kind.Unknown ∷ kind.Columns ∷ []

-- the kinds in their order
abbrev pub kinds_in_order : List TopoKind
kinds_in_order = kind.TooMany ∷ kind.Twice ∷ kind.Unknown ∷ kind.Columns ∷ kind.ReplicaMismatch ∷ kind.SealInCycle ∷ kind.Understated ∷ []

-- the first fault of a topology, where the modules of the components with one are these
unfoldable pub fault_of : Topology → List Accepted → Option TopoFault
fault_of t modules = fault_in kinds_in_order (written t modules)

-- a kind after TooMany that asks what the names name, and nothing of the view but the names of its attributes
abbrev pub IsOfNames : TopoKind → Type 0
IsOfNames kind.TooMany = ⊥
IsOfNames kind.Twice = Unit {0}
IsOfNames kind.Unknown = Unit {0}
IsOfNames kind.Columns = Unit {0}
IsOfNames kind.ReplicaMismatch = ⊥
IsOfNames kind.SealInCycle = ⊥
IsOfNames kind.Understated = ⊥

-- no more sources, components, streams and dependencies than the limits
pub record AreFew (t : Topology) (sites : List Site) : Type 0 where
  pub sources : length t.sources ≤ 64
  pub components : length sites ≤ 32
  pub streams : length t.sources + length t.streams ≤ 64
  pub fds : length t.fds ≤ 64
