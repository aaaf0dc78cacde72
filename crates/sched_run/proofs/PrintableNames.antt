-- The streams, components and ports of a topology that was validated have names.
use Rattle.std.proofs.Common.{◌≡◌, ◌<◌, ◌∷◌, ◌&&◌, ◌||◌, ◌==◌, ℕ, true, List, [], length, map, get_or, refl, ap, ◌∙◌, sym, subst, inl, inr, arith}
use Rattle.std.specs.List.{flat_map, list_all}
use Rattle.std.proofs.lemmas.Bool.{and_from}
use Rattle.std.proofs.lemmas.List.{get_or-map, length-map}
use Rattle.blz_value.specs.Members.{Has}
use Rattle.blz_value.specs.Name.{is_name}
use Rattle.blz_value.proofs.Membership.{Has-append_left, Has-flat_map, Has-from_filter, Has-from_map, Has-get_or, all_member}
use Rattle.blz_value.proofs.Booleans.{both_true}
use Rattle.bloom_forms.specs.declared.module.Collection.{Collection}
use Rattle.bloom_forms.specs.declared.module.Kind.TheVariants.{Input}
use Rattle.bloom_forms.specs.declared.program.Program.TheVariants as program
use Rattle.bloom_forms.specs.Checks.{IsChecked}
use Rattle.bloom_forms.specs.Form.{Accepted}
use Rattle.bloom_forms.specs.Kinds.{of_kind, same_kind}
use Rattle.bloom_forms.specs.Query.{Name}
use Rattle.bloom_forms.specs.Reserved.{is_own_name, module_names, query_names}
use Rattle.topo_forms.specs.declared.topology.Body.{Body}
use Rattle.topo_forms.specs.declared.topology.Body.TheVariants as body
use Rattle.topo_forms.specs.declared.topology.ComponentEntry.{ComponentEntry}
use Rattle.topo_forms.specs.declared.topology.Side.{Side}
use Rattle.topo_forms.specs.declared.topology.Stock.{Stock}
use Rattle.topo_forms.specs.declared.topology.Stock.TheVariants as stock
use Rattle.topo_forms.specs.declared.topology.Topology.{Topology}
use Rattle.topo_forms.specs.Allowed.{allows_body, allows_component, allows_fd, allows_source, allows_stream, is_empty, is_side, IsAllowed}
use Rattle.topo_forms.specs.Sites.{Site, no_entry, site_at, side, collection_side, ports_with, program_in, program_ports, stock_program}
use Rattle.topo_forms.specs.Valid.{IsWhole, Validated}
use Rattle.topo_forms.specs.View.{View, Component, Port, Stream, no_port, component_at, port_at, stream_at}
use Rattle.topo_forms.specs.ViewOf.{modules_in, port_view, view_of}
use Rattle.topo_forms.proofs.Faults.NoFault.{length_sites, no_source, no_written}
use Rattle.topo_forms.proofs.Views.ViewNumbers.{length_components}
use Rattle.topo_forms.proofs.Views.ViewParts.{at_component, attributes, each_stream, seen, sites}
use Rattle.topo_forms.proofs.Views.ViewRuns.{Made, made}
use Rattle.inbox.specs.Events.{Part}
use Rattle.sched_run.specs.Naming.{HasPartNames}

-- ---- ports

abbrev HaveNames : List Side → Type 0
HaveNames sides = (s : Side) → Has s sides → is_name s.name ≡ true

module_sides : (m : Accepted) → IsChecked m.form m.heads → HaveNames (program_ports (program.Module m))
module_sides m checked s has =
    let cs : List Collection = m.form.collections in
    let from = Has-from_map collection_side s (of_kind Input cs) has in
    let kept = Has-from_filter (λ (c : Collection). same_kind Input c.kind) from.0 cs from.1 in
    let there : Has from.0.name (module_names m.form) =
    inr (Has-append_left from.0.name (flat_map (λ (d : Collection). d.name ∷ d.columns) cs) (flat_map (λ r. r.0 ∷ query_names r.1) m.form.rules)
    (Has-flat_map (λ (d : Collection). d.name ∷ d.columns) from.0 from.0.name cs kept.0 (inl refl))) in
    subst (λ (x : Side). is_name x.name ≡ true) from.2 (both_true (is_name from.0.name) _ (all_member is_own_name (module_names m.form) from.0.name checked.names there)).0

one_side : (name : Name) (columns : List Name) → is_name name ≡ true → (s : Side) → side name columns ≡ s → is_name s.name ≡ true
one_side name columns named s is = subst (λ (x : Side). is_name x.name ≡ true) is named

stock_sides : (s : Stock) → HaveNames (program_ports (stock_program s))
stock_sides (stock.Split columns split) s (inl is) = one_side _ _ refl s is
stock_sides (stock.Split columns split) s (inr none) = absurd none
stock_sides (stock.Number columns) s (inl is) = one_side _ _ refl s is
stock_sides (stock.Number columns) s (inr none) = absurd none
stock_sides (stock.Latest columns keys) s (inl is) = one_side _ _ refl s is
stock_sides (stock.Latest columns keys) s (inr (inl is)) = one_side _ _ refl s is
stock_sides (stock.Latest columns keys) s (inr (inr none)) = absurd none

no_side : (sides : List Side) → is_empty sides ≡ true → HaveNames sides
no_side [] e s has = absurd has
no_side (x ∷ sides) e s has = cc

module _ (c : ComponentEntry) where
  sides_named : (b : Body) (modules : List Accepted) → allows_body b c.inputs c.outputs ≡ true → ((m : Accepted) → Has m modules → IsChecked m.form m.heads) → HaveNames (ports_with c (program_in b modules))
  sides_named (body.Module file) [] allowed checked = no_side c.inputs (both_true (is_empty c.inputs) _ (both_true _ _ (both_true _ _ allowed).1).1).0
  sides_named (body.Module file) (m ∷ modules) allowed checked = module_sides m (checked m (inl refl))
  sides_named (body.Stock s) modules allowed checked = stock_sides s
  sides_named body.None modules allowed checked = λ s has. (both_true (is_name s.name) _ (all_member is_side c.inputs s (both_true (list_all is_side c.inputs) _ allowed).0 has)).0

-- ---- by what is written

module _ (t : Topology) (modules : List Accepted) (allowed : IsAllowed t) (checked : (m : Accepted) → Has m modules → IsChecked m.form m.heads) where
  streams_on : (list_all allows_stream t.streams && list_all (allows_fd t.format) t.fds) ≡ true
  streams_on =
      (both_true (list_all allows_component t.components) (list_all allows_stream t.streams && list_all (allows_fd t.format) t.fds)
      (both_true (list_all allows_source t.sources) (list_all allows_component t.components && (list_all allows_stream t.streams && list_all (allows_fd t.format) t.fds))
      (both_true (t.format == 1 || t.format == 2) (list_all allows_source t.sources && (list_all allows_component t.components && (list_all allows_stream t.streams && list_all (allows_fd t.format) t.fds))) allowed).1).1).1

  components_on : (list_all allows_component t.components && (list_all allows_stream t.streams && list_all (allows_fd t.format) t.fds)) ≡ true
  components_on =
      (both_true (list_all allows_source t.sources) (list_all allows_component t.components && (list_all allows_stream t.streams && list_all (allows_fd t.format) t.fds))
      (both_true (t.format == 1 || t.format == 2) (list_all allows_source t.sources && (list_all allows_component t.components && (list_all allows_stream t.streams && list_all (allows_fd t.format) t.fds))) allowed).1).1

  all_components : list_all allows_component t.components ≡ true
  all_components = (both_true (list_all allows_component t.components) (list_all allows_stream t.streams && list_all (allows_fd t.format) t.fds) components_on).0

  all_streams : list_all allows_stream t.streams ≡ true
  all_streams = (both_true (list_all allows_stream t.streams) (list_all (allows_fd t.format) t.fds) streams_on).0

  all_sources : list_all allows_source t.sources ≡ true
  all_sources =
      (both_true (list_all allows_source t.sources) (list_all allows_component t.components && (list_all allows_stream t.streams && list_all (allows_fd t.format) t.fds))
      (both_true (t.format == 1 || t.format == 2) (list_all allows_source t.sources && (list_all allows_component t.components && (list_all allows_stream t.streams && list_all (allows_fd t.format) t.fds))) allowed).1).0

  stream_named : (s : ℕ) → s < length (seen t modules).streams → is_name (stream_at (seen t modules) s).name ≡ true
  stream_named =
      each_stream t modules (λ s (x : Stream). is_name x.name ≡ true)
      (λ i within. (both_true (is_name (get_or t.sources i no_source).name) _ (all_member allows_source t.sources (get_or t.sources i no_source) all_sources (Has-get_or t.sources i no_source within))).0)
      (λ i within. (both_true (is_name (get_or t.streams i no_written).name) _ (all_member allows_stream t.streams (get_or t.streams i no_written) all_streams (Has-get_or t.streams i no_written within))).0)

  module _ (c : ℕ) (within : c < length (sites t modules)) where
    abbrev site : Site
    site = site_at (sites t modules) c

    abbrev entry : ComponentEntry
    entry = get_or t.components c no_entry

    there : c < length t.components
    there = omega (arith, within, length_sites t.components modules)

    from : Made t.components modules c
    from = made t.components modules c there

    allows : allows_component entry ≡ true
    allows = all_member allows_component t.components entry all_components (Has-get_or t.components c no_entry there)

    component_named : is_name (component_at (seen t modules) c).name ≡ true
    component_named =
        ap (λ (x : Component). is_name x.name) (at_component t modules c within)
        ∙ ap (λ (s : Site). is_name s.entry.name) from.is
        ∙ (both_true (is_name entry.name) _ allows).0

    site_sides : HaveNames site.ports
    site_sides =
        subst HaveNames (sym (ap (λ (s : Site). s.ports) from.is))
        (sides_named entry entry.body from.rest (both_true (allows_body entry.body entry.inputs entry.outputs) _ (both_true (is_name entry.name) _ allows).1).0 (λ m has. checked m (from.among m has)))

    ports_are : (component_at (seen t modules) c).ports ≡ map (port_view (attributes t modules)) site.ports
    ports_are = ap (λ (x : Component). x.ports) (at_component t modules c within)

    port_named : (p : ℕ) → p < length (component_at (seen t modules) c).ports → is_name (port_at (seen t modules) c p).name ≡ true
    port_named p inside =
        let few : p < length site.ports = omega (arith, inside, ap (λ (l : List Port). length l) ports_are, length-map site.ports (port_view (attributes t modules))) in
        ap (λ (l : List Port). is_name (get_or l p no_port).name) ports_are
        ∙ ap (λ (x : Port). is_name x.name) (get_or-map (port_view (attributes t modules)) site.ports p (side [] []) no_port few)
        ∙ site_sides (get_or site.ports p (side [] [])) (Has-get_or site.ports p (side [] []) few)

-- ---- in a topology that was validated

pub record AllNamed (v : View) : Type 0 where
  pub streams : (s : ℕ) → s < length v.streams → is_name (stream_at v s).name ≡ true
  pub components : (c : ℕ) → c < length v.components → is_name (component_at v c).name ≡ true
  pub ports : (c p : ℕ) → c < length v.components → p < length (component_at v c).ports → is_name (port_at v c p).name ≡ true

pub all_named : (valid : Validated) → IsWhole valid → AllNamed valid.view
unfolding view_of
all_named valid whole =
    let t : Topology = valid.topology in
    let modules : List Accepted = modules_in valid.view in
    let many : length (seen t modules).components ≡ length (sites t modules) = length_components t modules whole.clean in
    subst AllNamed (sym whole.is) (record {
      streams = stream_named t modules whole.allowed whole.given.checked;
      components = λ c within. component_named t modules whole.allowed whole.given.checked c (omega (arith, within, many));
      ports = λ c p within inside. port_named t modules whole.allowed whole.given.checked c (omega (arith, within, many)) p inside;
    })

-- ---- events with these names can be printed

module _ (valid : Validated) (whole : IsWhole valid) where
  pub printable_message : (c : ℕ) (part : Part) → HasPartNames valid.view c part → (stream component port : Name) → stream ≡ (stream_at valid.view part.sent.stream).name → component ≡ (component_at valid.view c).name → port ≡ (port_at valid.view c part.port).name
      → (is_name stream && (is_name component && is_name port)) ≡ true
  printable_message c part is stream component port of_stream of_component of_port =
      let named : AllNamed valid.view = all_named valid whole in
      and_from _ _ (ap is_name of_stream ∙ named.streams part.sent.stream is.stream)
      (and_from _ _ (ap is_name of_component ∙ named.components c is.there) (ap is_name of_port ∙ named.ports c part.port is.there is.port))

  pub printable_take : (c : ℕ) → c < length valid.view.components → (component : Name) → component ≡ (component_at valid.view c).name → is_name component ≡ true
  printable_take c there component is = ap is_name is ∙ (all_named valid whole).components c there
