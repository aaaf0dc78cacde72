-- The first fault of a topology is that of size or of names, and else that of its view.
use Rattle.std.proofs.Common.{◌≡◌, ◌+◌, ℕ, Bool, false, if◌then◌else◌, Option, None, Some, List, [], ◌∷◌, ◌++◌, length, refl, arith, ap, sym, ◌∙◌}
use Rattle.std.specs.Option.{option_or}
use Rattle.blz_value.specs.FirstPlace.{first_place}
use Rattle.blz_value.specs.Members.{Has}
use Rattle.bloom_forms.specs.Form.{Accepted}
use Rattle.bloom_forms.specs.Query.{Name}
use Rattle.topo_forms.specs.declared.fault.TopoFault.{TopoFault}
use Rattle.topo_forms.specs.declared.fault.TopoKind.{TopoKind}
use Rattle.topo_forms.specs.declared.fault.TopoKind.TheVariants as kind
use Rattle.topo_forms.specs.declared.topology.SourceEntry.{SourceEntry}
use Rattle.topo_forms.specs.declared.topology.StreamEntry.{StreamEntry}
use Rattle.topo_forms.specs.declared.topology.FdEntry.{FdEntry}
use Rattle.topo_forms.specs.declared.topology.Topology.{Topology}
use Rattle.topo_types.specs.Code.Named.{of_names, sized}
use Rattle.topo_types.specs.Code.Validating.{early_fault, view_fault}
use Rattle.topo_forms.specs.Sites.{Site, sites_of, attributes_in}
use Rattle.topo_forms.specs.Validity.{Written, written, at_places, kind_fault, fault_in, kinds_of_names, fault_of}
use Rattle.topo_forms.specs.Validity.OfView.{is_mismatched, seals_in_cycle, is_understated}
use Rattle.topo_forms.specs.View.{View}
use Rattle.topo_forms.specs.ViewOf.{view_of}
use Rattle.topo_forms.proofs.Faults.NoFault.{no_fault, none_in}

-- ---- parts of the list of kinds

or_assoc : (a b c : Option TopoFault) → option_or a (option_or b c) ≡ option_or (option_or a b) c
or_assoc None b c = refl
or_assoc (Some f) b c = refl

or_none : (a : Option TopoFault) → option_or a None ≡ a
or_none None = refl
or_none (Some f) = refl

fault_in-append : (ks ls : List TopoKind) (w : Written) → fault_in (ks ++ ls) w ≡ option_or (fault_in ks w) (fault_in ls w)
fault_in-append [] ls w = refl
fault_in-append (k ∷ ks) ls w = ap (option_or (kind_fault k w)) (fault_in-append ks ls w) ∙ or_assoc (kind_fault k w) (fault_in ks w) (fault_in ls w)

-- ---- the kinds of the view

-- the kinds that go by the view
abbrev kinds_of_view : List TopoKind
kinds_of_view = kind.ReplicaMismatch ∷ kind.SealInCycle ∷ kind.Understated ∷ []

no_place : (X : Type 0) (at : ℕ) (xs : List X) → first_place (λ i x. false) at xs ≡ None
no_place X at [] = refl
no_place X at (x ∷ xs) = no_place X (at + 1) xs

-- a place that depends on the number alone is the same in another list of the length
same_place : {X Y : Type 0} (test : ℕ → Bool) (at : ℕ) (xs : List X) (ys : List Y) → length xs ≡ length ys → first_place (λ i x. test i) at xs ≡ first_place (λ i y. test i) at ys
same_place test at [] [] many = refl
same_place test at [] (y ∷ ys) many = absurd (omega (arith, many))
same_place test at (x ∷ xs) [] many = absurd (omega (arith, many))
same_place test at (x ∷ xs) (y ∷ ys) many = ap (λ (o : Option ℕ). if test at then Some at else o) (same_place test (at + 1) xs ys (omega (arith, many)))

-- the first component that is understated
abbrev pub first_understated : List Name → List Site → Option ℕ
first_understated names sites = first_place (λ i site. is_understated names site) 0 sites

-- the first fault of the view, as it is said of the components
abbrev late_fault : Topology → List Site → View → Option TopoFault
late_fault t sites v =
    option_or (at_places kind.ReplicaMismatch None None (first_place (λ i s. is_mismatched v (length t.sources + i)) 0 t.streams) None)
    (option_or (at_places kind.SealInCycle None (first_place (λ i site. seals_in_cycle v i) 0 sites) None None)
    (at_places kind.Understated None (first_understated v.attributes sites) None None))

module _ (w : Written) where
  abbrev no_source : Option ℕ
  no_source = first_place (λ (i : ℕ) (x : SourceEntry). false) 0 w.topology.sources

  abbrev no_component : Option ℕ
  no_component = first_place (λ (i : ℕ) (x : Site). false) 0 w.sites

  abbrev no_stream : Option ℕ
  no_stream = first_place (λ (i : ℕ) (x : StreamEntry). false) 0 w.topology.streams

  abbrev no_fd : Option ℕ
  no_fd = first_place (λ (i : ℕ) (x : FdEntry). false) 0 w.topology.fds

  -- only streams mismatch
  mismatch_at : (streams : Option ℕ) → at_places kind.ReplicaMismatch no_source no_component streams no_fd ≡ at_places kind.ReplicaMismatch None None streams None
  mismatch_at streams =
      ap (λ o. at_places kind.ReplicaMismatch o no_component streams no_fd) (no_place SourceEntry 0 w.topology.sources)
      ∙ ap (λ o. at_places kind.ReplicaMismatch None o streams no_fd) (no_place Site 0 w.sites)
      ∙ ap (λ o. at_places kind.ReplicaMismatch None None streams o) (no_place FdEntry 0 w.topology.fds)

  -- only components seal in cycles or are understated
  component_at : (k : TopoKind) (components : Option ℕ) → at_places k no_source components no_stream no_fd ≡ at_places k None components None None
  component_at k components =
      ap (λ o. at_places k o components no_stream no_fd) (no_place SourceEntry 0 w.topology.sources)
      ∙ ap (λ o. at_places k None components o no_fd) (no_place StreamEntry 0 w.topology.streams)
      ∙ ap (λ o. at_places k None components None o) (no_place FdEntry 0 w.topology.fds)

  faults_of_view : fault_in kinds_of_view w ≡ late_fault w.topology w.sites w.view
  faults_of_view =
      let m = mismatch_at (first_place (λ i s. is_mismatched w.view (length w.topology.sources + i)) 0 w.topology.streams) in
      let s = component_at kind.SealInCycle (first_place (λ i site. seals_in_cycle w.view i) 0 w.sites) in
      let u = component_at kind.Understated (first_place (λ i site. is_understated w.view.attributes site) 0 w.sites) in
      ap (λ o. option_or o (option_or (kind_fault kind.SealInCycle w) (option_or (kind_fault kind.Understated w) None))) m
      ∙ ap (λ o. option_or (at_places kind.ReplicaMismatch None None (first_place (λ i s. is_mismatched w.view (length w.topology.sources + i)) 0 w.topology.streams) None) (option_or o (option_or (kind_fault kind.Understated w) None))) s
      ∙ ap (λ o. option_or (at_places kind.ReplicaMismatch None None (first_place (λ i s. is_mismatched w.view (length w.topology.sources + i)) 0 w.topology.streams) None) (option_or (at_places kind.SealInCycle None (first_place (λ i site. seals_in_cycle w.view i) 0 w.sites) None None) o)) (or_none (kind_fault kind.Understated w) ∙ u)

-- ---- the whole

module _ (t : Topology) (modules : List Accepted) where
  abbrev sites : List Site
  sites = sites_of t.components modules

  names_look : fault_in kinds_of_names (written t modules) ≡ fault_in kinds_of_names (of_names t sites (attributes_in t.sources sites))
  unfolding view_of
  names_look = refl

  fault_parts : fault_of t modules ≡ option_or (early_fault t sites) (late_fault t sites (view_of t modules))
  unfolding fault_of
  fault_parts =
      let w = written t modules in
      ap (option_or (kind_fault kind.TooMany w)) (fault_in-append kinds_of_names kinds_of_view w)
      ∙ or_assoc (kind_fault kind.TooMany w) (fault_in kinds_of_names w) (fault_in kinds_of_view w)
      ∙ ap (λ o. option_or (option_or (kind_fault kind.TooMany (sized t sites)) o) (fault_in kinds_of_view w)) names_look
      ∙ ap (option_or (early_fault t sites)) (faults_of_view w)

  -- what is found early is the first fault
  pub early_is : (f : TopoFault) → early_fault t sites ≡ Some f → fault_of t modules ≡ Some f
  early_is f e = fault_parts ∙ ap (λ o. option_or o (late_fault t sites (view_of t modules))) e

  module _ (clean : early_fault t sites ≡ None) where
    -- and else what is found of the view
    pub late_is : (cycles : List Bool) → length cycles ≡ length sites → fault_of t modules ≡ view_fault t (view_of t modules) cycles (first_understated (view_of t modules).attributes sites)
    late_is cycles each =
        let v = view_of t modules in
        fault_parts
        ∙ ap (λ o. option_or o (late_fault t sites v)) clean
        ∙ ap (λ o. option_or (at_places kind.ReplicaMismatch None None (first_place (λ i s. is_mismatched v (length t.sources + i)) 0 t.streams) None)
        (option_or (at_places kind.SealInCycle None o None None) (at_places kind.Understated None (first_understated v.attributes sites) None None)))
        (same_place (seals_in_cycle v) 0 sites cycles (sym each))

    pub no_size : kind_fault kind.TooMany (written t modules) ≡ None
    no_size = (no_fault (kind_fault kind.TooMany (sized t sites)) (fault_in kinds_of_names (of_names t sites (attributes_in t.sources sites))) clean).0

    pub no_name : (k : TopoKind) → Has k kinds_of_names → kind_fault k (written t modules) ≡ None
    no_name k has = none_in (written t modules) kinds_of_names (names_look ∙ (no_fault (kind_fault kind.TooMany (sized t sites)) (fault_in kinds_of_names (of_names t sites (attributes_in t.sources sites))) clean).1) k has
