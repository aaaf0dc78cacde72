-- Where the kinds TooMany and Unknown name nothing, streams go between components that are there.
use Rattle.std.proofs.Common.{◌≡◌, ◌≤◌, ◌<◌, ◌+◌, not, ℕ, zero, suc, false, is_none, None, Some, List, length, map, get_or, refl, arith, subst}
use Rattle.std.proofs.lemmas.Bool.{true≢false}
use Rattle.blz_value.specs.FirstPlace.{first_place}
use Rattle.blz_value.specs.Members.{Has}
use Rattle.blz_value.proofs.FirstPlace.{none_bad}
use Rattle.blz_value.proofs.Membership.{Has-from_map}
use Rattle.bloom_forms.specs.Form.{Accepted}
use Rattle.bloom_forms.proofs.Faults.Firsts.{bad_number}
use Rattle.topo_forms.specs.declared.fault.TopoKind.{TopoKind}
use Rattle.topo_forms.specs.declared.fault.TopoKind.TheVariants as kind
use Rattle.topo_forms.specs.declared.topology.Spot.{Spot}
use Rattle.topo_forms.specs.declared.topology.Topology.{Topology}
use Rattle.topo_forms.specs.Found.{HasEnds}
use Rattle.topo_forms.specs.Validity.{written, bad_source, bad_component, bad_stream, bad_fd, kind_fault}
use Rattle.topo_forms.specs.Validity.TooMany.{has_wide}
use Rattle.topo_forms.specs.Validity.Twice.{names_within}
use Rattle.topo_forms.specs.Validity.Unknown.{misses_port}
use Rattle.topo_forms.specs.Sites.{no_site, port_of, output_of, port_end, output_end}
use Rattle.topo_forms.specs.View.{End, origin_of, ends_of}
use Rattle.topo_forms.specs.ViewOf.{view_of, component_view}
use Rattle.topo_forms.proofs.Faults.NoFault.{no_places, above, at_most, no_source, no_written}
use Rattle.topo_forms.proofs.Regions.Numbering.{any-none}
use Rattle.topo_forms.proofs.Views.ViewParts.{sites, attributes, seen, length_streams, each_stream, located}
use Rattle.topo_types.proofs.Faults.EarlyKinds.{site_fine}
use Rattle.std.proofs.lemmas.List.{length-map}
use Rattle.blz_value.proofs.Booleans.{neither}

module _ (t : Topology) (modules : List Accepted) where
  source_fine : (k : TopoKind) → kind_fault k (written t modules) ≡ None → (i : ℕ) → i < length t.sources → bad_source k (written t modules) i (get_or t.sources i no_source) ≡ false
  source_fine k none i lt =
      let w = written t modules in
      let places = no_places k (first_place (bad_source k w) 0 t.sources) (first_place (bad_component k w) 0 w.sites) (first_place (bad_stream k w) 0 t.streams) (first_place (bad_fd k w) 0 t.fds) none in
      let z : 0 + i ≡ i = omega arith in
      subst (λ (n : ℕ). bad_source k w n (get_or t.sources i no_source) ≡ false) z (bad_number (bad_source k w) 0 t.sources (none_bad (bad_source k w) 0 t.sources places.0) i no_source lt)

  stream_fine : (k : TopoKind) → kind_fault k (written t modules) ≡ None → (i : ℕ) → i < length t.streams → bad_stream k (written t modules) i (get_or t.streams i no_written) ≡ false
  stream_fine k none i lt =
      let w = written t modules in
      let places = no_places k (first_place (bad_source k w) 0 t.sources) (first_place (bad_component k w) 0 w.sites) (first_place (bad_stream k w) 0 t.streams) (first_place (bad_fd k w) 0 t.fds) none in
      let z : 0 + i ≡ i = omega arith in
      subst (λ (n : ℕ). bad_stream k w n (get_or t.streams i no_written) ≡ false) z (bad_number (bad_stream k w) 0 t.streams (none_bad (bad_stream k w) 0 t.streams places.2) i no_written lt)

  -- a port that a spot names is that of a component
  port_within : (spots : List Spot) → misses_port (sites t modules) spots ≡ false → (end : End) → Has end (map (port_end (sites t modules)) spots) → end.0 < length (sites t modules)
  port_within spots known end has =
      let from = Has-from_map (port_end (sites t modules)) end spots has in
      let there = located (sites t modules) (λ site. site.ports) from.0.component from.0.port (any-none (λ (s : Spot). is_none (port_of (sites t modules) s)) spots known from.0 from.1) in
      subst (λ (z : End). z.0 < length (sites t modules)) from.2 there.component_within

  module _ (few : kind_fault kind.TooMany (written t modules) ≡ None) (known : kind_fault kind.Unknown (written t modules) ≡ None) where
    pub few_sites : length (sites t modules) ≤ 32
    few_sites = at_most 32 (length (sites t modules)) (λ lt.
        let fine = site_fine t modules kind.TooMany few 32 lt in
        let site = get_or (sites t modules) 32 no_site in
        let a = neither (has_wide site.ports) _ fine in
        let b = neither (has_wide site.outputs) _ a.1 in
        true≢false b.1)

    few_sources : length t.sources ≤ 64
    few_sources = at_most 64 (length t.sources) (λ lt. true≢false (source_fine kind.TooMany few 64 lt))

    few_streams : length t.sources + length t.streams ≤ 64
    few_streams = by (length t.streams) refl
      where
        by : (n : ℕ) → length t.streams ≡ n → length t.sources + length t.streams ≤ 64
        by zero e = omega (arith, e, few_sources)
        by (suc n) e = let last : length t.sources + n + 1 ≤ 64 = above 64 (length t.sources + n + 1) (stream_fine kind.TooMany few n (omega (arith, e))) in omega (arith, last, e)

    ends_within : (s : ℕ) → s < length (seen t modules).streams → (end : End) → Has end (ends_of (seen t modules) s) → end.0 < length (sites t modules)
    ends_within = each_stream t modules (λ s stream. (end : End) → Has end stream.to → end.0 < length (sites t modules))
        (λ i lt end has.
        let s = get_or t.sources i no_source in
        let unknown = neither (not (names_within s.seal s.columns)) (misses_port (sites t modules) s.to) (source_fine kind.Unknown known i lt) in
        port_within s.to unknown.1 end has)
        (λ i lt end has.
        let s = get_or t.streams i no_written in
        let unknown = neither (misses_port (sites t modules) s.to) (is_none (output_of (sites t modules) s.from)) (stream_fine kind.Unknown known i lt) in
        port_within s.to unknown.0 end has)

    origins_within : (s : ℕ) → s < length (seen t modules).streams → (output : End) → origin_of (seen t modules) s ≡ Some output → output.0 < length (sites t modules)
    origins_within = each_stream t modules (λ s stream. (output : End) → stream.origin ≡ Some output → output.0 < length (sites t modules))
        (λ i lt output is. absurd (let bad : None ≡ Some output = is in cc))
        (λ i lt output is.
        let s = get_or t.streams i no_written in
        let unknown = neither (misses_port (sites t modules) s.to) (is_none (output_of (sites t modules) s.from)) (stream_fine kind.Unknown known i lt) in
        let there = located (sites t modules) (λ site. site.outputs) s.from.component s.from.port unknown.1 in
        let same : output_end (sites t modules) s.from ≡ output = (let e : Some (output_end (sites t modules) s.from) ≡ Some output = is in cc) in
        subst (λ (z : End). z.0 < length (sites t modules)) same there.component_within)

    -- streams go between components that are there
    pub early_ends : HasEnds (view_of t modules)
    unfolding view_of
    early_ends =
        let count : length (seen t modules).components ≡ length (sites t modules) = length-map (sites t modules) (component_view (attributes t modules)) in
        record {
          few_streams = omega (arith, few_streams, length_streams t modules);
          few_components = omega (arith, few_sites, count);
          origins = λ s output lt is. omega (arith, count, origins_within s lt output is);
          ends = λ s end lt has. omega (arith, count, ends_within s lt end has);
        }
