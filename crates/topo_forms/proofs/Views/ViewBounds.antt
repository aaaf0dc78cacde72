-- A topology without a fault has few dependencies, and few columns, ends, ports and outputs of each part.
use Rattle.std.proofs.Common.{◌≡◌, ◌≤◌, ◌<◌, ◌+◌, ◌*◌, inl, inr, not, ℕ, zero, suc, nat_eq, true, false, is_none, None, List, [], ◌∷◌, length, map, get_or, take, refl, arith, sym, subst, ◌∙◌}
use Rattle.std.specs.Cmp.{IsEquivalence}
use Rattle.std.specs.List.{enumerate_from, flat_map, list_any}
use Rattle.std.specs.Set.{is_member}
use Rattle.std.proofs.lemmas.Bool.{true≢false}
use Rattle.std.proofs.lemmas.Cmp.{and_equiv, on_equiv, nat_list_eq_equiv}
use Rattle.std.proofs.lemmas.List.{length-map, length-append}
use Rattle.std.proofs.lemmas.List.FromFn.{length-enumerate_from}
use Rattle.std.proofs.lemmas.Map.Made.{IsDistinct-from_count, length-le_from_is_member}
use Rattle.blz_value.specs.FirstPlace.{first_place}
use Rattle.blz_value.specs.Members.{Has}
use Rattle.blz_value.proofs.FirstPlace.{none_bad}
use Rattle.blz_value.proofs.Membership.{Has-get_or, Has-map, Has-from_map, Has-flat_map, Has-from_any, any_from_Has}
use Rattle.bloom_forms.specs.Form.{Accepted}
use Rattle.bloom_forms.specs.Query.{Name}
use Rattle.bloom_forms.proofs.Faults.Firsts.{bad_number}
use Rattle.blz_value.specs.Names.{place_of}
use Rattle.blz_value.proofs.Booleans.{not_false, neither}
use Rattle.blz_value.proofs.Lists.{same_count as same_number}
use Rattle.bloom_forms.specs.HeadRoots.{attribute_roots}
use Rattle.topo_forms.specs.declared.fault.TopoKind.TheVariants as kind
use Rattle.topo_forms.specs.declared.topology.FdEntry.{FdEntry}
use Rattle.topo_forms.specs.declared.topology.Side.{Side}
use Rattle.topo_forms.specs.declared.topology.Spot.{Spot}
use Rattle.topo_forms.specs.declared.topology.Topology.{Topology}
use Rattle.topo_forms.specs.Bounded.{IsBounded}
use Rattle.topo_forms.specs.Sites.{Site, no_site, site_at, site_number, side_at, side_number, side, port_of, output_of, port_end, output_end}
use Rattle.topo_forms.specs.Validity.{written, bad_source, bad_component, bad_stream, bad_fd, fault_of, kind_fault, kinds_in_order}
use Rattle.topo_forms.specs.Validity.TooMany.{is_wide, has_wide, are_many, is_replica_count}
use Rattle.topo_forms.specs.Validity.Twice.{has_source, has_stream, has_start, names_are_distinct, same_pair, spot_pair, spots_are_distinct, names_within}
use Rattle.topo_forms.specs.Validity.Unknown.{misses_port}
use Rattle.topo_forms.specs.View.{Component, stream_at, ends_of, component_at}
use Rattle.topo_forms.specs.ViewOf.{view_of, component_view, port_view, output_view, fd_view, output_columns_at}
use Rattle.topo_forms.proofs.Faults.NoFault.{no_places, none_in, above, at_most, no_source, no_written, source_fine, site_fine, stream_fine, few_components}
use Rattle.topo_forms.proofs.Regions.Numbering.{any-none}
use Rattle.topo_forms.proofs.Views.ViewParts.{sites, attributes, seen, at_component, each_stream, located}

-- ---- columns

narrow : (sides : List Side) → has_wide sides ≡ false → (n : ℕ) → length (side_at sides n).columns ≤ 8
narrow [] none n = omega arith
narrow (s ∷ sides) none zero = above 8 (length s.columns) (neither (is_wide s.columns) (has_wide sides) none).0
narrow (s ∷ sides) none (suc n) = narrow sides (neither (is_wide s.columns) (has_wide sides) none).1 n

-- ---- ends

-- the ports of some components by their names
abbrev named_ports : List Site → List (Name × Name)
named_ports sites = flat_map (λ site. map (λ (p : Side). (site.entry.name, p.name)) site.ports) sites

few_named : (sites : List Site) → ((c : ℕ) → c < length sites → length (get_or sites c no_site).ports ≤ 8) → length (named_ports sites) ≤ 8 * length sites
few_named [] each = omega arith
few_named (site ∷ sites) each =
    let first : length site.ports ≤ 8 = each 0 (omega arith) in
    let more = few_named sites (λ c lt. each (suc c) (omega (arith, lt))) in
    let whole = length-append (map (λ (p : Side). (site.entry.name, p.name)) site.ports) (named_ports sites) in
    let own = length-map {B = Name × Name} site.ports (λ (p : Side). (site.entry.name, p.name)) in
    omega (arith, whole, own, first, more)

pairs_equal : IsEquivalence same_pair
pairs_equal = and_equiv (on_equiv (λ (p : Name × Name). p.0) nat_list_eq_equiv) (on_equiv (λ (p : Name × Name). p.1) nat_list_eq_equiv)

-- a port that a spot names is one of them
is_named : (sites : List Site) (spot : Spot) → is_none (port_of sites spot) ≡ false → is_member same_pair (named_ports sites) (spot_pair spot) ≡ true
is_named sites spot known =
    let there = located sites (λ site. site.ports) spot.component spot.port known in
    let c = site_number sites spot.component in
    let site = site_at sites c in
    let p = side_number site.ports spot.port in
    let port = side_at site.ports p in
    let inside : Has port site.ports = Has-get_or site.ports p (side [] []) there.side_within in
    let pair : Has (site.entry.name, port.name) (map (λ (q : Side). (site.entry.name, q.name)) site.ports) = Has-map (λ (q : Side). (site.entry.name, q.name)) port site.ports inside in
    let all : Has (site.entry.name, port.name) (named_ports sites) = Has-flat_map (λ (s : Site). map (λ (q : Side). (s.entry.name, q.name)) s.ports) site (site.entry.name, port.name) sites (Has-get_or sites c no_site there.component_within) pair in
    let same : (site.entry.name, port.name) ≡ spot_pair spot = (λ i. (there.component_named i, there.side_name i)) in
    any_from_Has (same_pair (spot_pair spot)) (spot_pair spot) (named_ports sites) (subst (λ (q : Name × Name). Has q (named_ports sites)) same all) (pairs_equal.refl (spot_pair spot))

-- distinct spots of ports are no more than there are ports
few_spots : (sites : List Site) (spots : List Spot) → misses_port sites spots ≡ false → spots_are_distinct spots ≡ true → length spots ≤ length (named_ports sites)
few_spots sites spots known apart =
    let count = length-map spots spot_pair in
    let distinct = IsDistinct-from_count pairs_equal (map spot_pair spots) (same_number _ _ apart) in
    omega (arith, count, length-le_from_is_member pairs_equal (map spot_pair spots) (named_ports sites) distinct member)
  where
    member : (q : Name × Name) → is_member same_pair (map spot_pair spots) q ≡ true → is_member same_pair (named_ports sites) q ≡ true
    member q here =
        let found = Has-from_any (same_pair q) (map spot_pair spots) here in
        let from = Has-from_map spot_pair found.0 spots found.1 in
        let known_one = any-none (λ (s : Spot). is_none (port_of sites s)) spots known from.0 from.1 in
        let same : same_pair q (spot_pair from.0) ≡ true = subst (λ (z : Name × Name). same_pair q z ≡ true) (sym from.2) found.2 in
        (λ i. list_any (λ z. pairs_equal.congr q (spot_pair from.0) z same i) (named_ports sites)) ∙ is_named sites from.0 known_one

module _ (t : Topology) (modules : List Accepted) (clean : fault_of t modules ≡ None) where
  fd_fine : (i : ℕ) (d : FdEntry) → i < length t.fds → bad_fd kind.TooMany (written t modules) i (get_or t.fds i d) ≡ false
  unfolding fault_of
  fd_fine i d lt =
      let w = written t modules in
      let none : kind_fault kind.TooMany w ≡ None = none_in w kinds_in_order clean kind.TooMany (inl refl) in
      let places = no_places kind.TooMany (first_place (bad_source kind.TooMany w) 0 t.sources) (first_place (bad_component kind.TooMany w) 0 w.sites) (first_place (bad_stream kind.TooMany w) 0 t.streams) (first_place (bad_fd kind.TooMany w) 0 t.fds) none in
      let z : 0 + i ≡ i = omega arith in
      subst (λ (n : ℕ). bad_fd kind.TooMany w n (get_or t.fds i d) ≡ false) z (bad_number (bad_fd kind.TooMany w) 0 t.fds (none_bad (bad_fd kind.TooMany w) 0 t.fds places.3) i d lt)

  few_fds : length t.fds ≤ 64
  few_fds = at_most 64 (length t.fds) (λ lt. true≢false (fd_fine 64 no_entry lt))
    where
      no_entry : FdEntry
      no_entry = record { from = []; to = [] }

  -- what TooMany says of a component
  record IsFew (site : Site) : Type 0 where
    wide_output : has_wide site.outputs ≡ false
    ports : length site.ports ≤ 8
    outputs : length site.outputs ≤ 8

  few_at : (c : ℕ) → c < length (sites t modules) → IsFew (site_at (sites t modules) c)
  few_at c lt =
      let site = site_at (sites t modules) c in
      let fine = site_fine t modules clean kind.TooMany (inl refl) c no_site lt in
      let a = neither (has_wide site.ports) _ fine in
      let b = neither (has_wide site.outputs) _ a.1 in
      let d = neither (nat_eq c 32) _ b.1 in
      let e = neither (not (is_replica_count site.entry.replicas)) _ d.1 in
      let f = neither (are_many site.ports) _ e.1 in
      let g = neither (are_many site.outputs) _ f.1 in
      record { wide_output = b.0; ports = above 8 (length site.ports) f.0; outputs = above 8 (length site.outputs) g.0 }

  few_columns : (s : ℕ) → s < length (seen t modules).streams → length (stream_at (seen t modules) s).columns ≤ 8
  few_columns = each_stream t modules (λ s stream. length stream.columns ≤ 8)
      (λ i lt.
      let s = get_or t.sources i no_source in
      let own = neither (nat_eq i 64) _ (source_fine t modules clean kind.TooMany (inl refl) i no_source lt) in
      let few : length s.columns ≤ 8 = above 8 (length s.columns) (neither (is_wide s.columns) _ own.1).0 in
      omega (arith, few, length_roots s.columns))
      (λ i lt.
      let s = get_or t.streams i no_written in
      let unknown = neither (misses_port (sites t modules) s.to) (is_none (output_of (sites t modules) s.from)) (stream_fine t modules clean kind.Unknown (inr (inr (inl refl))) i no_written lt) in
      let there = located (sites t modules) (λ site. site.outputs) s.from.component s.from.port unknown.1 in
      let output = output_end (sites t modules) s.from in
      let few : length (output_columns_at (sites t modules) output) ≤ 8 = narrow (site_at (sites t modules) output.0).outputs (few_at output.0 there.component_within).wide_output output.1 in
      omega (arith, few, length_roots (output_columns_at (sites t modules) output)))
    where
      length_roots : (columns : List Name) → length (attribute_roots (attributes t modules) columns) ≡ length columns
      length_roots columns = length-map columns (place_of (attributes t modules))

  few_to : (spots : List Spot) → misses_port (sites t modules) spots ≡ false → not (spots_are_distinct spots) ≡ false → length (map (port_end (sites t modules)) spots) ≤ 256
  few_to spots known apart =
      let count = length-map spots (port_end (sites t modules)) in
      let some = few_spots (sites t modules) spots known (not_false (spots_are_distinct spots) apart) in
      let all = few_named (sites t modules) (λ c lt. (few_at c lt).ports) in
      let few : length (sites t modules) ≤ 32 = few_components t modules clean in
      omega (arith, count, some, all, few)

  few_ends : (s : ℕ) → s < length (seen t modules).streams → length (ends_of (seen t modules) s) ≤ 256
  few_ends = each_stream t modules (λ s stream. length stream.to ≤ 256)
      (λ i lt.
      let s = get_or t.sources i no_source in
      let unknown = neither (not (names_within s.seal s.columns)) (misses_port (sites t modules) s.to) (source_fine t modules clean kind.Unknown (inr (inr (inl refl))) i no_source lt) in
      let one = neither (has_source (take i t.sources) s.name) _ (source_fine t modules clean kind.Twice (inr (inl refl)) i no_source lt) in
      let two = neither (not (names_are_distinct s.columns)) _ one.1 in
      let three = neither (not (spots_are_distinct s.to)) (not (names_are_distinct s.seal)) two.1 in
      few_to s.to unknown.1 three.0)
      (λ i lt.
      let s = get_or t.streams i no_written in
      let unknown = neither (misses_port (sites t modules) s.to) (is_none (output_of (sites t modules) s.from)) (stream_fine t modules clean kind.Unknown (inr (inr (inl refl))) i no_written lt) in
      let one = neither (has_source t.sources s.name) _ (stream_fine t modules clean kind.Twice (inr (inl refl)) i no_written lt) in
      let two = neither (has_stream (take i t.streams) s.name) _ one.1 in
      let three = neither (has_start (take i t.streams) s.from) (not (spots_are_distinct s.to)) two.1 in
      few_to s.to unknown.0 three.1)

  sites_within : (c : ℕ) → c < length (seen t modules).components → c < length (sites t modules)
  sites_within c lt = let count : length (seen t modules).components ≡ length (sites t modules) = length-map (sites t modules) (component_view (attributes t modules)) in omega (arith, count, lt)

  few_ports : (c : ℕ) → c < length (seen t modules).components → length (component_at (seen t modules) c).ports ≤ 8
  few_ports c lt =
      let inside = sites_within c lt in
      let site = site_at (sites t modules) c in
      let few = (few_at c inside).ports in
      let count : length (component_view (attributes t modules) site).ports ≡ length site.ports = length-map site.ports (port_view (attributes t modules)) in
      let whole : length (component_view (attributes t modules) site).ports ≤ 8 = omega (arith, few, count) in
      subst (λ (x : Component). length x.ports ≤ 8) (sym (at_component t modules c inside)) whole

  few_outputs : (c : ℕ) → c < length (seen t modules).components → length (component_at (seen t modules) c).outputs ≤ 8
  few_outputs c lt =
      let inside = sites_within c lt in
      let site = site_at (sites t modules) c in
      let few = (few_at c inside).outputs in
      let count : length (component_view (attributes t modules) site).outputs ≡ length site.outputs = length-map (enumerate_from 0 site.outputs) (output_view (attributes t modules) site.program) ∙ length-enumerate_from 0 site.outputs in
      let whole : length (component_view (attributes t modules) site).outputs ≤ 8 = omega (arith, few, count) in
      subst (λ (x : Component). length x.outputs ≤ 8) (sym (at_component t modules c inside)) whole

  -- a topology without a fault has few parts
  pub view_bounded : IsBounded (view_of t modules)
  unfolding view_of
  view_bounded = record {
    fds = (let count : length (map (fd_view (attributes t modules)) t.fds) ≡ length t.fds = length-map t.fds (fd_view (attributes t modules)) in omega (arith, count, few_fds));
    columns = few_columns;
    ends = few_ends;
    ports = few_ports;
    outputs = few_outputs;
  }
