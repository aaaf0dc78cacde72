-- The parts of a validation: the faults of size and of names, and those of the view.
use Rattle.std.specs.Prelude.{ℕ, ◌≡◌, ◌+◌, Bool, Option, None, Some, List, Result, Ok, Err, length}
use Rattle.std.specs.Option.{option_or}
use Rattle.blz_value.specs.FirstPlace.{first_place}
use Rattle.bloom_forms.specs.Query.{Name}
use Rattle.topo_forms.specs.declared.fault.TopoFault.{TopoFault}
use Rattle.topo_forms.specs.declared.fault.TopoKind.TheVariants as kind
use Rattle.topo_forms.specs.declared.fault.ValidFault.{ValidFault}
use Rattle.topo_forms.specs.declared.fault.ValidFault.TheVariants.{Bad, NoMemory}
use Rattle.topo_forms.specs.declared.topology.Topology.{Topology}
use Rattle.topo_types.specs.Code.Named.{of_names, sized}
use Rattle.topo_forms.specs.Sites.{Site, attributes_in}
use Rattle.topo_forms.specs.Validity.{AreFew, at_places, kind_fault, fault_in, kinds_of_names}
use Rattle.topo_forms.specs.Validity.OfView.{is_mismatched, seals_in_cycle}
use Rattle.topo_forms.specs.View.{View}

-- the first fault of size or of names
abbrev pub early_fault : Topology → List Site → Option TopoFault
early_fault t sites = option_or (kind_fault kind.TooMany (sized t sites)) (fault_in kinds_of_names (of_names t sites (attributes_in t.sources sites)))

-- the first fault of the view, where this is told of each component, and this is the first that is understated
abbrev pub view_fault : Topology → View → (cycles : List Bool) → (understated : Option ℕ) → Option TopoFault
view_fault t v cycles understated =
    option_or (at_places kind.ReplicaMismatch None None (first_place (λ i s. is_mismatched v (length t.sources + i)) 0 t.streams) None)
    (option_or (at_places kind.SealInCycle None (first_place (λ i told. seals_in_cycle v i) 0 cycles) None None)
    (at_places kind.Understated None understated None None))

-- there is no fault of size or of names, and these are the names of the attributes
pub record IsNamed (t : Topology) (sites : List Site) (names : List Name) : Type 0 where
  pub are : names ≡ attributes_in t.sources sites
  pub clean : early_fault t sites ≡ None
  pub few : AreFew t sites

abbrev pub Names : Topology → List Site → Result (List Name) ValidFault → Type 0
Names t sites (Ok names) = IsNamed t sites names
Names t sites (Err (Bad fault)) = early_fault t sites ≡ Some fault
Names t sites (Err NoMemory) = Unit {0}
