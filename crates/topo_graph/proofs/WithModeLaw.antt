-- A topology with another mode of one component is valid where the mode may be written there. The plan: its components are the same but for one mode, so ports, outputs and attributes are the same, and its view is the view with that mode; kinds that look at names are as before but for the names of the key, which are distinct attributes; kinds of the view don't hold, since the view is valid under other modes.
use Rattle.std.proofs.Common.{◌≡◌, ◌≢◌, ◌≤◌, ◌<◌, ◌+◌, ◌++◌, ◌||◌, ◌&&◌, inl, inr, not, ℕ, zero, suc, Bool, true, false, is_none, is_some, Option, None, List, [], ◌∷◌, length, map, take, get_or, refl, arith, ap, sym, subst, ◌∙◌}
use Rattle.std.specs.List.{list_all, list_any, filter_map}
use Rattle.std.specs.Option.{option_map_or}
use Rattle.std.specs.Str.{bytes_eq}
use Rattle.std.proofs.lemmas.Bool.{cases_Bool, cases_eq, true≢false}
use Rattle.std.proofs.lemmas.List.{length-map}
use Rattle.blz_value.specs.FirstPlace.{first_place}
use Rattle.blz_value.specs.Members.{Has}
use Rattle.blz_value.specs.Name.{is_name}
use Rattle.blz_value.specs.declared.attrs.Attrs.{Attrs}
use Rattle.blz_value.proofs.Booleans.{and_true, both_true, none_of, neither}
use Rattle.blz_value.proofs.Lists.{none_any}
use Rattle.bloom_forms.specs.Form.{Accepted}
use Rattle.bloom_forms.specs.Query.{Name}
use Rattle.topo_forms.specs.declared.fault.TopoKind.{TopoKind}
use Rattle.topo_forms.specs.declared.fault.TopoKind.TheVariants as kind
use Rattle.bloom_forms.specs.declared.mode.Mode.{Mode}
use Rattle.bloom_forms.specs.declared.mode.Mode.TheVariants as modes
use Rattle.topo_forms.specs.declared.topology.ComponentEntry.{ComponentEntry}
use Rattle.topo_forms.specs.declared.topology.FdEntry.{FdEntry}
use Rattle.topo_forms.specs.declared.topology.SourceEntry.{SourceEntry}
use Rattle.topo_forms.specs.declared.topology.Spot.{Spot}
use Rattle.topo_forms.specs.declared.topology.StreamEntry.{StreamEntry}
use Rattle.topo_forms.specs.declared.topology.Topology.{Topology}
use Rattle.topo_forms.specs.Allowed.{IsAllowed, allows_source, allows_component, allows_key, allows_body, allows_note}
use Rattle.topo_forms.specs.Feeds.{can_be_paired}
use Rattle.topo_forms.specs.Laws.{IsKeyOf, IsWithoutKey, CanHaveMode, WithModeLaw}
use Rattle.topo_forms.specs.Modes.{entry_with_mode, key_names, mode_name, topology_with_mode}
use Rattle.topo_forms.specs.OtherModes.{AreRemoded}
use Rattle.topo_forms.specs.Regions.{is_in_cycle}
use Rattle.topo_forms.specs.Sites.{Site, no_site, no_entry, sites_of, site_at, attributes_in}
use Rattle.topo_forms.specs.Valid.{IsValid, IsValidated, AreModules, needs_module}
use Rattle.topo_forms.specs.Validity.{Written, written, bad_source, bad_component, bad_stream, bad_fd, at_places, kind_fault, fault_in, kinds_in_order, fault_of}
use Rattle.topo_forms.specs.Validity.Columns.{differs, meets_others, columns_component}
use Rattle.topo_forms.specs.Validity.OfView.{is_mismatched, is_unpaired, seals_in_cycle, is_understated}
use Rattle.topo_forms.specs.Validity.TooMany.{too_many_component, replica_sum}
use Rattle.topo_forms.specs.Validity.Twice.{has_component, repeat_in, repeats_in_body, repeats_in_notes, repeats_in_gate, notes_are_distinct, names_are_distinct, names_within, twice_component}
use Rattle.topo_forms.specs.Validity.Unknown.{misses_port, unknown_in_body, unknown_component}
use Rattle.topo_forms.specs.View.{View, Component, End, no_component, component_with_mode, with_mode, mode_of, mode_key, is_order, is_order_mode, replicas_of, stream_replicas, ends_of}
use Rattle.topo_forms.specs.ViewOf.{view_of, view_with, component_view, mode_from, count_from}
use Rattle.topo_graph.proofs.Altered.{altered, set-altered, length-altered, take-altered, at-altered, other-altered, map-altered, at-same, filter_map-same, fold-same, any-same}
use Rattle.topo_forms.proofs.Columns.AttributeNames.{attributes-distinct}
use Rattle.topo_graph.proofs.KeyNames.{key_back, key_distinct, key_within, key_named, key_some}
use Rattle.topo_graph.proofs.NamedAttributes.{attributes-named}
use Rattle.topo_forms.proofs.Faults.NoFault.{no_written, none_in, no_places, few_attributes, site_fine}
use Rattle.topo_graph.proofs.OtherModes.{other_modes_law}
use Rattle.topo_graph.proofs.OtherSites.{site_with_mode, sites-altered, source_view-same, stream_view-same, port_of-same, output_of-same, attributes-same, attributes_before-same}
use Rattle.topo_forms.proofs.Views.ValidViews.{valid_law}
use Rattle.topo_forms.proofs.Views.ViewParts.{sites, attributes, seen, length_streams}

-- ---- first places

none_first : {X : Type 0} (test : ℕ → X → Bool) (at : ℕ) (xs : List X) (d : X) → ((i : ℕ) → i < length xs → test (at + i) (get_or xs i d) ≡ false) → first_place test at xs ≡ None
none_first test at [] d each = refl
none_first test at (x ∷ xs) d each =
    let z : at + 0 ≡ at = omega arith in
    let first : test at x ≡ false = subst (λ (n : ℕ). test n x ≡ false) z (each 0 (omega arith)) in
    rw first (none_first test (at + 1) xs d (λ i lt. let e : at + suc i ≡ at + 1 + i = omega arith in subst (λ (n : ℕ). test n (get_or xs i d) ≡ false) e (each (suc i) (omega (arith, lt)))))

all_altered : {X : Type 0} (f : X → X) (p : X → Bool) (n : ℕ) (xs : List X) → list_all p xs ≡ true → ((x : X) → p x ≡ true → p (f x) ≡ true) → list_all p (altered f n xs) ≡ true
all_altered f p n [] all keeps = refl
all_altered f p zero (x ∷ xs) all keeps = let both = both_true (p x) (list_all p xs) all in and_true _ _ (keeps x both.0) both.1
all_altered f p (suc n) (x ∷ xs) all keeps = let both = both_true (p x) (list_all p xs) all in and_true _ _ both.0 (all_altered f p n xs both.1 keeps)

-- ---- no fault of any kind

no_fault_in : (w : Written) (kinds : List TopoKind) → ((k : TopoKind) → Has k kinds → kind_fault k w ≡ None) → fault_in kinds w ≡ None
no_fault_in w [] each = refl
no_fault_in w (k ∷ kinds) each = rw (each k (inl refl)) (no_fault_in w kinds (λ j has. each j (inr has)))

no_places_of : (k : TopoKind) (a b c d : Option ℕ) → a ≡ None → b ≡ None → c ≡ None → d ≡ None → at_places k a b c d ≡ None
no_places_of k a b c d pa pb pc pd = rw (pa, pb, pc, pd) refl

module _ (t : Topology) (modules : List Accepted) (c : ℕ) (mode : Mode) (allowed : IsAllowed t) (given : AreModules t modules) (clean : fault_of t modules ≡ None) (can : CanHaveMode (seen t modules) c mode) where
  abbrev v : View
  v = seen t modules

  abbrev changed : ComponentEntry → ComponentEntry
  changed = entry_with_mode (attributes t modules) mode

  abbrev others : List Site
  others = altered (site_with_mode (attributes t modules) mode) c (sites t modules)

  abbrev other : Topology
  other = topology_with_mode (attributes t modules) t c mode

  abbrev next : View
  next = with_mode v c mode

  -- ---- the key by names

  few : length (attributes t modules) ≤ 64
  few = few_attributes t modules clean

  abbrev IsBack : Mode → Type 0
  IsBack m = IsKeyOf v m → mode_from (attributes t modules) (mode_name m) (key_names (attributes t modules) m) ≡ m

  mode-back : (m : Mode) → IsBack m
  mode-back modes.Free key = refl
  mode-back (modes.Pass set) key = let back = key_back (attributes t modules) few (attributes-distinct t.sources (sites t modules)) set.bits key.1 in λ i. modes.Pass (record { bits = back i })
  mode-back (modes.Seal set) key = let back = key_back (attributes t modules) few (attributes-distinct t.sources (sites t modules)) set.bits key.1 in λ i. modes.Seal (record { bits = back i })
  mode-back modes.Order key = refl

  names-distinct : (m : Mode) → IsKeyOf v m → names_are_distinct (key_names (attributes t modules) m) ≡ true
  names-distinct modes.Free key = refl
  names-distinct (modes.Pass set) key = key_distinct (attributes t modules) few (attributes-distinct t.sources (sites t modules)) set.bits key.1
  names-distinct (modes.Seal set) key = key_distinct (attributes t modules) few (attributes-distinct t.sources (sites t modules)) set.bits key.1
  names-distinct modes.Order key = refl

  names-known : (m : Mode) → IsKeyOf v m → names_within (key_names (attributes t modules) m) (attributes t modules) ≡ true
  names-known modes.Free key = refl
  names-known (modes.Pass set) key = key_within (attributes t modules) few (attributes-distinct t.sources (sites t modules)) set.bits key.1
  names-known (modes.Seal set) key = key_within (attributes t modules) few (attributes-distinct t.sources (sites t modules)) set.bits key.1
  names-known modes.Order key = refl

  names-allowed : (m : Mode) → IsKeyOf v m → allows_key (mode_name m) (key_names (attributes t modules) m) ≡ true
  names-allowed modes.Free key = refl
  names-allowed (modes.Pass set) key = and_true _ _ (key_some (attributes t modules) few (attributes-distinct t.sources (sites t modules)) set.bits key.1 key.0)
      (key_named (attributes t modules) few (attributes-distinct t.sources (sites t modules)) set.bits key.1 (attributes-named t modules allowed given.checked))
  names-allowed (modes.Seal set) key = and_true _ _ (key_some (attributes t modules) few (attributes-distinct t.sources (sites t modules)) set.bits key.1 key.0)
      (key_named (attributes t modules) few (attributes-distinct t.sources (sites t modules)) set.bits key.1 (attributes-named t modules allowed given.checked))
  names-allowed modes.Order key = refl

  -- ---- what is written

  components-altered : other.components ≡ altered changed c t.components
  components-altered = set-altered changed c t.components no_entry

  sites-are : sites_of other.components modules ≡ others
  sites-are = ap (λ (cs : List ComponentEntry). sites_of cs modules) components-altered ∙ sites-altered (attributes t modules) mode c t.components modules

  attributes-are : attributes_in t.sources (sites_of other.components modules) ≡ attributes t modules
  attributes-are = ap (attributes_in t.sources) sites-are ∙ attributes-same (attributes t modules) mode c (sites t modules) t.sources

  -- ---- the view

  components-are : map (component_view (attributes t modules)) others ≡ next.components
  components-are = map-altered (site_with_mode (attributes t modules) mode) (component_view (attributes t modules)) (component_with_mode mode)
      (λ site i. record (component_view (attributes t modules) site) { mode = mode-back mode can.key i })
      c (sites t modules) no_component

  view-is : view_with (attributes t modules) others other ≡ next
  view-is i = record v {
    streams = map (λ s. source_view-same (attributes t modules) mode c (sites t modules) s i) t.sources ++ map (λ s. stream_view-same (attributes t modules) mode c (sites t modules) s i) t.streams;
    components = components-are i;
  }

  pub seen-is : seen other modules ≡ next
  seen-is = ap (λ (names : List Name). view_with names (sites_of other.components modules) other) attributes-are ∙ ap (λ (ss : List Site). view_with (attributes t modules) ss other) sites-are ∙ view-is

  -- ---- the view is valid

  valid : IsValid v
  unfolding view_of
  valid = valid_law t modules allowed given clean

  mode-at : (d : ℕ) → d ≢ c → mode_of next d ≡ mode_of v d
  mode-at d apart =
      ap (λ (cs : List Component). (get_or cs d no_component).mode) (set-altered (component_with_mode mode) c v.components no_component)
      ∙ ap (λ (x : Component). x.mode) (other-altered (component_with_mode mode) c d v.components no_component apart)

  mode-here : mode_of next c ≡ mode
  mode-here =
      ap (λ (cs : List Component). (get_or cs c no_component).mode) (set-altered (component_with_mode mode) c v.components no_component)
      ∙ ap (λ (x : Component). x.mode) (at-altered (component_with_mode mode) c v.components no_component can.within)

  without : (m : Mode) → IsWithoutKey m → mode_key m ≡ None
  without modes.Free none = refl
  without (modes.Pass key) none = absurd none
  without (modes.Seal key) none = absurd none
  without modes.Order none = refl

  remoded : AreRemoded v next.components
  remoded = record {
    count = ap length (set-altered (component_with_mode mode) c v.components no_component) ∙ length-altered (component_with_mode mode) c v.components;
    each = λ d.
        ap (λ (cs : List Component). component_with_mode modes.Free (get_or cs d no_component)) (set-altered (component_with_mode mode) c v.components no_component)
        ∙ at-same (component_with_mode mode) (component_with_mode modes.Free) (λ x. refl) c d v.components no_component;
    ordered = λ d order. elim (cases_eq d c) [
      | inl e ↦ absurd (true≢false (sym order ∙ ap (is_order v) e ∙ can.unordered))
      | inr apart ↦ ap is_order_mode (mode-at d apart) ∙ order
    ];
    keys = λ d lt cyclic. elim (cases_eq d c) [
      | inl e ↦ ap (λ (n : ℕ). mode_key (mode_of next n)) e ∙ ap mode_key mode-here ∙ without mode (can.acyclic (ap (is_in_cycle v) (sym e) ∙ cyclic))
      | inr apart ↦ ap mode_key (mode-at d apart) ∙ (valid.components d lt).no_seal cyclic
    ];
  }

  pub next-valid : IsValid next
  next-valid = other_modes_law v next.components valid remoded

  -- ---- no fault

  abbrev w : Written
  w = record { topology = t; sites = sites t modules; view = v }

  abbrev wn : Written
  wn = record { topology = other; sites = others; view = next }

  was-clean : (k : TopoKind) → Has k kinds_in_order → kind_fault k w ≡ None
  unfolding fault_of view_of
  was-clean k has = none_in w kinds_in_order clean k has

  were-none : (k : TopoKind) → Has k kinds_in_order → (first_place (bad_source k w) 0 t.sources ≡ None) × (first_place (bad_component k w) 0 w.sites ≡ None) × (first_place (bad_stream k w) 0 t.streams ≡ None) × (first_place (bad_fd k w) 0 t.fds ≡ None)
  were-none k has = no_places k (first_place (bad_source k w) 0 t.sources) (first_place (bad_component k w) 0 w.sites) (first_place (bad_stream k w) 0 t.streams) (first_place (bad_fd k w) 0 t.fds) (was-clean k has)

  misses-same : (spots : List Spot) → misses_port others spots ≡ misses_port (sites t modules) spots
  misses-same spots i = list_any (λ spot. is_none (port_of-same (attributes t modules) mode c (sites t modules) spot i)) spots

  meets-same : (columns : List Name) (spots : List Spot) → meets_others others columns spots ≡ meets_others (sites t modules) columns spots
  meets-same columns spots i = list_any (λ spot. differs columns (port_of-same (attributes t modules) mode c (sites t modules) spot i)) spots

  -- sources

  source-same : (k : TopoKind) (i : ℕ) (s : SourceEntry) → bad_source k wn i s ≡ bad_source k w i s
  source-same kind.TooMany i s = refl
  source-same kind.Twice i s = refl
  source-same kind.Unknown i s = ap (λ (b : Bool). not (names_within s.seal s.columns) || b) (misses-same s.to)
  source-same kind.Columns i s = meets-same s.columns s.to
  source-same kind.ReplicaMismatch i s = refl
  source-same kind.SealInCycle i s = refl
  source-same kind.Understated i s = refl

  sources-fine : (k : TopoKind) → Has k kinds_in_order → first_place (bad_source k wn) 0 other.sources ≡ None
  sources-fine k has = ap (λ (test : ℕ → SourceEntry → Bool). first_place test 0 t.sources) (λ i n s. source-same k n s i) ∙ (were-none k has).0

  -- dependencies

  fd-same : (k : TopoKind) (i : ℕ) (fd : FdEntry) → bad_fd k wn i fd ≡ bad_fd k w i fd
  fd-same kind.TooMany i fd = refl
  fd-same kind.Twice i fd = refl
  fd-same kind.Unknown i fd = refl
  fd-same kind.Columns i fd = refl
  fd-same kind.ReplicaMismatch i fd = refl
  fd-same kind.SealInCycle i fd = refl
  fd-same kind.Understated i fd = refl

  fds-fine : (k : TopoKind) → Has k kinds_in_order → first_place (bad_fd k wn) 0 other.fds ≡ None
  fds-fine k has = ap (λ (test : ℕ → FdEntry → Bool). first_place test 0 t.fds) (λ i n fd. fd-same k n fd i) ∙ (were-none k has).3

  -- streams

  length-streams : length next.streams ≡ length t.sources + length t.streams
  length-streams = length_streams t modules

  spared : (a b : Bool) → b ≡ true → (a && not b) ≡ false
  spared true b e = rw e refl
  spared false b e = refl

  unpaired : (s : ℕ) → s < length next.streams → is_mismatched next s ≡ false
  unpaired s lt = none_any (λ (end : End). is_unpaired next (stream_replicas next s) end.0) (ends_of next s) (λ end has. elim (cases_Bool (is_order next end.0)) [
    | inl order ↦ ap (λ (b : Bool). not b && not (can_be_paired (stream_replicas next s) (replicas_of next end.0))) order
    | inr free ↦ spared (not (is_order next end.0)) (can_be_paired (stream_replicas next s) (replicas_of next end.0)) (next-valid.paired s lt end has free)
  ])

  stream-same : (k : TopoKind) (i : ℕ) (s : StreamEntry) → (k ≡ kind.ReplicaMismatch → ⊥) → bad_stream k wn i s ≡ bad_stream k w i s
  stream-same kind.TooMany i s apart = refl
  stream-same kind.Twice i s apart = refl
  stream-same kind.Unknown i s apart = λ j. misses-same s.to j || is_none (output_of-same (attributes t modules) mode c (sites t modules) s.from j)
  stream-same kind.Columns i s apart = λ j. option_map_or (λ output. meets-same output.columns s.to j) (output_of-same (attributes t modules) mode c (sites t modules) s.from j) false
  stream-same kind.ReplicaMismatch i s apart = absurd (apart refl)
  stream-same kind.SealInCycle i s apart = refl
  stream-same kind.Understated i s apart = refl

  streams-fine : (k : TopoKind) → Has k kinds_in_order → first_place (bad_stream k wn) 0 other.streams ≡ None
  streams-fine k has = by k refl
    where
      same : (k ≡ kind.ReplicaMismatch → ⊥) → first_place (bad_stream k wn) 0 t.streams ≡ None
      same apart = ap (λ (test : ℕ → StreamEntry → Bool). first_place test 0 t.streams) (λ i n s. stream-same k n s apart i) ∙ (were-none k has).2

      paired : first_place (bad_stream kind.ReplicaMismatch wn) 0 t.streams ≡ None
      paired = none_first (bad_stream kind.ReplicaMismatch wn) 0 t.streams no_written (λ i lt. unpaired (length t.sources + (0 + i)) (omega (arith, lt, length-streams)))

      by : (j : TopoKind) → k ≡ j → first_place (bad_stream k wn) 0 t.streams ≡ None
      by kind.TooMany e = same (λ x. let bad : kind.TooMany ≡ kind.ReplicaMismatch = sym e ∙ x in cc)
      by kind.Twice e = same (λ x. let bad : kind.Twice ≡ kind.ReplicaMismatch = sym e ∙ x in cc)
      by kind.Unknown e = same (λ x. let bad : kind.Unknown ≡ kind.ReplicaMismatch = sym e ∙ x in cc)
      by kind.Columns e = same (λ x. let bad : kind.Columns ≡ kind.ReplicaMismatch = sym e ∙ x in cc)
      by kind.ReplicaMismatch e = subst (λ (j : TopoKind). first_place (bad_stream j wn) 0 t.streams ≡ None) (sym e) paired
      by kind.SealInCycle e = same (λ x. let bad : kind.SealInCycle ≡ kind.ReplicaMismatch = sym e ∙ x in cc)
      by kind.Understated e = same (λ x. let bad : kind.Understated ≡ kind.ReplicaMismatch = sym e ∙ x in cc)

  -- components

  was-fine : (k : TopoKind) → Has k kinds_in_order → (i : ℕ) → i < length (sites t modules) → bad_component k w i (site_at (sites t modules) i) ≡ false
  unfolding view_of
  was-fine k has i lt = site_fine t modules clean k has i no_site lt

  -- a test that looks at no mode
  blind : (test : Site → Bool) → ((s : Site) → test (site_with_mode (attributes t modules) mode s) ≡ test s) → (i : ℕ) → test (site_at others i) ≡ test (site_at (sites t modules) i)
  blind test same i = at-same (site_with_mode (attributes t modules) mode) test same c i (sites t modules) no_site

  -- a test that doesn't fail with the new key
  kept : (test : Site → Bool) → ((s : Site) → test s ≡ false → test (site_with_mode (attributes t modules) mode s) ≡ false) → (i : ℕ) → i < length (sites t modules) → test (site_at (sites t modules) i) ≡ false → test (site_at others i) ≡ false
  kept test keeps i lt fine = elim (cases_eq i c) [
    | inl e ↦ (let here : get_or others i no_site ≡ site_with_mode (attributes t modules) mode (get_or (sites t modules) i no_site) = subst (λ (n : ℕ). get_or others n no_site ≡ site_with_mode (attributes t modules) mode (get_or (sites t modules) n no_site)) (sym e) (at-altered (site_with_mode (attributes t modules) mode) c (sites t modules) no_site (omega (arith, lt, e))) in
        ap test here ∙ keeps (site_at (sites t modules) i) fine)
    | inr apart ↦ ap test (other-altered (site_with_mode (attributes t modules) mode) c i (sites t modules) no_site apart) ∙ fine
  ]

  replicas-same : (i : ℕ) → replica_sum (take i others) ≡ replica_sum (take i (sites t modules))
  replicas-same i =
      ap replica_sum (take-altered (site_with_mode (attributes t modules) mode) i c (sites t modules))
      ∙ fold-same (site_with_mode (attributes t modules) mode) (λ (sum : ℕ) (s : Site). sum + count_from s.entry.replicas) (λ sum s. refl) 0 c (take i (sites t modules))

  sizes-fine : (i : ℕ) → i < length (sites t modules) → bad_component kind.TooMany wn i (site_at others i) ≡ false
  sizes-fine i lt =
      (λ j. too_many_component (attributes_before-same (attributes t modules) mode c i (sites t modules) t.sources j) (replicas-same i j) i (site_at others i))
      ∙ blind (too_many_component (attributes_in t.sources (take i (sites t modules))) (replica_sum (take i (sites t modules))) i) (λ s. refl) i
      ∙ was-fine kind.TooMany (inl refl) i lt

  earlier-same : (i : ℕ) (name : Name) → has_component (take i other.components) name ≡ has_component (take i t.components) name
  earlier-same i name =
      ap (λ (cs : List ComponentEntry). has_component (take i cs) name) components-altered
      ∙ ap (λ (cs : List ComponentEntry). has_component cs name) (take-altered changed i c t.components)
      ∙ any-same changed (λ (x : ComponentEntry). bytes_eq x.name name) (λ x. refl) c (take i t.components)

  twice-kept : (earlier : List ComponentEntry) (s : Site) → twice_component earlier s.entry ≡ false → twice_component earlier (changed s.entry) ≡ false
  twice-kept earlier s fine =
      let a = neither (has_component earlier s.entry.name) _ fine in
      let b = neither (repeat_in s.entry.inputs) _ a.1 in
      let d = neither (repeat_in s.entry.outputs) _ b.1 in
      let e = neither (repeats_in_body s.entry.body) (repeats_in_notes s.entry) d.1 in
      let f = neither (not (notes_are_distinct s.entry.notes)) _ e.1 in
      let g = neither (not (names_are_distinct s.entry.key)) (repeats_in_gate s.entry.notes) f.1 in
      let key : not (names_are_distinct (key_names (attributes t modules) mode)) ≡ false = ap not (names-distinct mode can.key) in
      none_of _ _ a.0 (none_of _ _ b.0 (none_of _ _ d.0 (none_of _ _ e.0 (none_of _ _ f.0 (none_of _ _ key g.1)))))

  twice-fine : (i : ℕ) → i < length (sites t modules) → bad_component kind.Twice wn i (site_at others i) ≡ false
  twice-fine i lt =
      ap (λ (b : Bool). b || (repeat_in (site_at others i).entry.inputs || (repeat_in (site_at others i).entry.outputs || (repeats_in_body (site_at others i).entry.body || repeats_in_notes (site_at others i).entry)))) (earlier-same i (site_at others i).entry.name)
      ∙ kept (λ (s : Site). twice_component (take i t.components) s.entry) (twice-kept (take i t.components)) i lt (was-fine kind.Twice (inr (inl refl)) i lt)

  unknown-kept : (s : Site) → unknown_component (attributes t modules) s ≡ false → unknown_component (attributes t modules) (site_with_mode (attributes t modules) mode s) ≡ false
  unknown-kept s fine =
      let a = neither (unknown_in_body s.entry.body) _ fine in
      let b = neither (not (names_within s.entry.key (attributes t modules))) _ a.1 in
      let key : not (names_within (key_names (attributes t modules) mode) (attributes t modules)) ≡ false = ap not (names-known mode can.key) in
      none_of _ _ a.0 (none_of _ _ key b.1)

  unsealed : (i : ℕ) → i < length (sites t modules) → seals_in_cycle next i ≡ false
  unsealed i lt = elim (cases_Bool (is_in_cycle next i)) [
    | inl cyclic ↦ ap (λ (o : Option Attrs). is_some o && is_in_cycle next i) ((next-valid.components i within).no_seal cyclic)
    | inr free ↦ outside (is_some (mode_key (mode_of next i))) (is_in_cycle next i) free
  ]
    where
      within : i < length next.components
      within = let count = remoded.count in let all = length-map (sites t modules) (component_view (attributes t modules)) in omega (arith, lt, count, all)

      outside : (a b : Bool) → b ≡ false → (a && b) ≡ false
      outside true b e = e
      outside false b e = refl

  component-fine : (k : TopoKind) → Has k kinds_in_order → (i : ℕ) → i < length (sites t modules) → bad_component k wn i (site_at others i) ≡ false
  component-fine kind.TooMany has i lt = sizes-fine i lt
  component-fine kind.Twice has i lt = twice-fine i lt
  component-fine kind.Unknown has i lt = kept (unknown_component (attributes t modules)) unknown-kept i lt (was-fine kind.Unknown has i lt)
  component-fine kind.Columns has i lt = blind columns_component (λ s. refl) i ∙ was-fine kind.Columns has i lt
  component-fine kind.ReplicaMismatch has i lt = refl
  component-fine kind.SealInCycle has i lt = unsealed i lt
  component-fine kind.Understated has i lt = blind (is_understated (attributes t modules)) (λ s. refl) i ∙ was-fine kind.Understated has i lt

  components-fine : (k : TopoKind) → Has k kinds_in_order → first_place (bad_component k wn) 0 others ≡ None
  components-fine k has = none_first (bad_component k wn) 0 others no_site (λ i lt.
      let z : 0 + i ≡ i = omega arith in
      let count = length-altered (site_with_mode (attributes t modules) mode) c (sites t modules) in
      subst (λ (n : ℕ). bad_component k wn n (get_or others i no_site) ≡ false) (sym z) (component-fine k has i (omega (arith, lt, count))))

  -- ---- the whole

  no-fault : fault_in kinds_in_order wn ≡ None
  no-fault = no_fault_in wn kinds_in_order (λ k has. no_places_of k _ _ _ _ (sources-fine k has) (components-fine k has) (streams-fine k has) (fds-fine k has))

  written-are : written other modules ≡ wn
  unfolding view_of
  written-are = λ i. record { topology = other; sites = sites-are i; view = seen-is i }

  next-clean : fault_of other modules ≡ None
  unfolding fault_of
  next-clean = ap (fault_in kinds_in_order) written-are ∙ no-fault

  next-allowed : IsAllowed other
  next-allowed =
      let one = both_true _ _ allowed in
      let two = both_true (list_all allows_source t.sources) _ one.1 in
      let three = both_true (list_all allows_component t.components) _ two.1 in
      and_true _ _ one.0 (and_true _ _ two.0 (and_true _ _
      (ap (list_all allows_component) components-altered ∙ all_altered changed allows_component c t.components three.0 keeps)
      three.1))
    where
      keeps : (e : ComponentEntry) → allows_component e ≡ true → allows_component (changed e) ≡ true
      keeps e fine =
          let a = both_true (is_name e.name) _ fine in
          let b = both_true (allows_body e.body e.inputs e.outputs) _ a.1 in
          let d = both_true (list_all allows_note e.notes) (allows_key e.mode e.key) b.1 in
          and_true _ _ a.0 (and_true _ _ b.0 (and_true _ _ d.0 (names-allowed mode can.key)))

  next-given : AreModules other modules
  next-given = record {
    each = given.each ∙ sym (ap (λ (cs : List ComponentEntry). length (filter_map needs_module cs)) components-altered ∙ ap length (filter_map-same changed needs_module (λ e. refl) c t.components));
    checked = given.checked;
  }

  pub validated-next : IsValidated modules (record { topology = other; view = next })
  unfolding view_of
  validated-next = record { allowed = next-allowed; given = next-given; clean = next-clean; is = sym seen-is }

pub with_mode_law : WithModeLaw
unfolding view_of
with_mode_law modules seen c mode validated can =
    subst (λ (v : View). CanHaveMode v c mode → IsValidated modules (record { topology = topology_with_mode v.attributes seen.topology c mode; view = with_mode v c mode })) (sym validated.is)
    (λ may. validated-next seen.topology modules c mode validated.allowed validated.given validated.clean may) can
