-- What a validation knows once no fault of size or of names is found.
use Rattle.std.proofs.Common.{◌≡◌, ◌≤◌, ℕ, inl, inr, refl, Option, None, Some, Result, Err, Bool, List, length, map, arith, ap, sym, subst, ◌∙◌}
use Rattle.std.specs.List.{All}
use Rattle.std.proofs.lemmas.List.{length-map}
use Rattle.std.proofs.lemmas.List.FromFn.{length-range_with_len}
use Rattle.bloom_forms.specs.Form.{Accepted}
use Rattle.bloom_forms.specs.Query.{Name}
use Rattle.topo_forms.specs.declared.fault.TopoKind.TheVariants as kind
use Rattle.topo_forms.specs.declared.topology.ComponentEntry.{ComponentEntry}
use Rattle.topo_forms.specs.declared.topology.Topology.{Topology}
use Rattle.topo_types.specs.declared.view.sites.Site as held
use Rattle.topo_types.specs.Code.Built.{sites_seen, site_seen, IsBuilt}
use Rattle.topo_forms.specs.Found.{HasEnds}
use Rattle.topo_types.specs.Code.OfView.{HasKnownNotes}
use Rattle.topo_types.specs.Code.Validating.{early_fault, view_fault, IsNamed, Names}
use Rattle.topo_forms.specs.Sites.{Site, sites_of, attributes_in}
use Rattle.topo_forms.specs.declared.fault.TopoFault.{TopoFault}
use Rattle.topo_forms.specs.declared.fault.ValidFault.{ValidFault}
use Rattle.topo_forms.specs.declared.fault.ValidFault.TheVariants.{Bad, NoMemory}
use Rattle.topo_forms.specs.Regions.{is_in_cycle}
use Rattle.topo_forms.specs.Valid.{Validated}
use Rattle.topo_forms.specs.Validation.{Validates}
use Rattle.topo_forms.specs.Validity.{AreFew, fault_of}
use Rattle.topo_forms.specs.View.{View, component_numbers}
use Rattle.topo_forms.specs.ViewOf.{view_of, view_with, component_view}
use Rattle.topo_types.proofs.Faults.EarlyEnds.{early_ends}
use Rattle.topo_types.proofs.Faults.KnownNotes.{known_notes}
use Rattle.topo_types.proofs.Faults.EarlyKinds.{all_built}
use Rattle.topo_types.proofs.Faults.FaultParts.{early_is, first_understated, late_is, no_size, no_name}
use Rattle.topo_forms.proofs.Faults.NoFault.{length_sites}

-- as many components as are written
pub as_many : (components : List ComponentEntry) (modules : List Accepted) (sites : List held.Site) → sites_seen sites ≡ sites_of components modules → length sites ≡ length components
as_many components modules sites is = sym (length-map sites site_seen) ∙ ap length is ∙ length_sites components modules

-- what is found early is the first fault
pub early_fault_is : (t : Topology) (modules : List Accepted) (sites : List held.Site) → sites_seen sites ≡ sites_of t.components modules
    → (f : TopoFault) → early_fault t (sites_seen sites) ≡ Some f → fault_of t modules ≡ Some f
early_fault_is t modules sites is f e = early_is t modules f (ap (early_fault t) (sym is) ∙ e)

-- and it is the answer
pub names_answer : (t : Topology) (modules : List Accepted) (sites : List held.Site) → sites_seen sites ≡ sites_of t.components modules
    → (e : ValidFault) → Names t (sites_seen sites) (Err e) → (r : Result Validated ValidFault) → r ≡ Err e → Validates t modules r
names_answer t modules sites is (Bad f) found r e = subst (Validates t modules) (sym e) (early_fault_is t modules sites is f found)
names_answer t modules sites is NoMemory found r e = subst (Validates t modules) (sym e) tt

module _ (t : Topology) (modules : List Accepted) (sites : List held.Site) (is : sites_seen sites ≡ sites_of t.components modules) (names : List Name) (named : IsNamed t (sites_seen sites) names) where
  clean : early_fault t (sites_of t.components modules) ≡ None
  clean = ap (early_fault t) (sym is) ∙ named.clean

  few : AreFew t (sites_of t.components modules)
  few = subst (AreFew t) is named.few

  pub few_sites : length sites ≤ 32
  few_sites = let n = named.few.components in omega (arith, n, length-map sites site_seen)

  pub built : All IsBuilt (sites_seen sites)
  built = subst (All IsBuilt) (sym is) (all_built t modules (no_size t modules clean) (no_name t modules clean kind.Twice (inl refl)) (no_name t modules clean kind.Unknown (inr (inl refl))))

  pub notes : All HasKnownNotes (sites_seen sites)
  notes = subst (All HasKnownNotes) (sym is) (known_notes t modules (no_name t modules clean kind.Unknown (inr (inl refl))))

  module _ (v : View) (made : v ≡ view_with names (sites_seen sites) t) where
    same_parts : view_with names (sites_seen sites) t ≡ view_with (attributes_in t.sources (sites_of t.components modules)) (sites_of t.components modules) t
    same_parts = ap (λ ns. view_with ns (sites_seen sites) t) (named.are ∙ ap (attributes_in t.sources) is) ∙ ap (λ xs. view_with (attributes_in t.sources (sites_of t.components modules)) xs t) is

    pub view_is : v ≡ view_of t modules
    unfolding view_of
    view_is = made ∙ same_parts

    pub ends : HasEnds v
    ends = subst HasEnds (sym view_is) (early_ends t modules (no_size t modules clean) (no_name t modules clean kind.Unknown (inr (inl refl))))

    pub each_component : length v.components ≡ length sites
    each_component = ap (λ (x : View). length x.components) made ∙ length-map (sites_seen sites) (component_view names) ∙ length-map sites site_seen

    -- each component is told of
    each_told : (cycles : List Bool) → cycles ≡ map (is_in_cycle v) (component_numbers v) → length cycles ≡ length sites
    each_told cycles told = ap length told ∙ length-map (component_numbers v) (is_in_cycle v) ∙ length-range_with_len 0 (length v.components) ∙ each_component

    pub few_told : (cycles : List Bool) → cycles ≡ map (is_in_cycle v) (component_numbers v) → length cycles ≤ 32
    few_told cycles told = omega (arith, each_told cycles told, few_sites)

    attributes_are : names ≡ (view_of t modules).attributes
    attributes_are = ap (λ (x : View). x.attributes) (sym made ∙ view_is)

    as_written : (cycles : List Bool) → length cycles ≡ length sites → length cycles ≡ length (sites_of t.components modules)
    as_written cycles each = each ∙ sym (length-map sites site_seen) ∙ ap length is

    -- the first fault is that of the view
    pub fault_is : (cycles : List Bool) → cycles ≡ map (is_in_cycle v) (component_numbers v) → (understated : Option ℕ) → understated ≡ first_understated names (sites_seen sites)
        → (o : Option TopoFault) → o ≡ view_fault t v cycles understated → fault_of t modules ≡ o
    fault_is cycles told understated u o e =
        late_is t modules clean cycles (as_written cycles (each_told cycles told))
        ∙ ap (λ x. view_fault t x cycles (first_understated (view_of t modules).attributes (sites_of t.components modules))) (sym view_is)
        ∙ ap (view_fault t v cycles)
        (ap (λ ns. first_understated ns (sites_of t.components modules)) (sym attributes_are) ∙ ap (first_understated names) (sym is) ∙ sym u)
        ∙ sym e
