-- The components of a topology with another mode of one of them: ports, outputs and attributes are the same.
use Rattle.std.proofs.Common.{◌≡◌, ℕ, zero, suc, Option, None, Some, List, [], ◌∷◌, map, take, refl, ap, ◌∙◌}
use Rattle.std.specs.Str.{bytes_eq}
use Rattle.bloom_forms.specs.declared.program.Program.{Program}
use Rattle.bloom_forms.specs.Form.{Accepted}
use Rattle.bloom_forms.specs.Query.{Name}
use Rattle.bloom_forms.specs.HeadRoots.{attribute_roots}
use Rattle.bloom_forms.specs.declared.mode.Mode.{Mode}
use Rattle.topo_forms.specs.declared.topology.ComponentEntry.{ComponentEntry}
use Rattle.topo_forms.specs.declared.topology.SourceEntry.{SourceEntry}
use Rattle.topo_forms.specs.declared.topology.Side.{Side}
use Rattle.topo_forms.specs.declared.topology.Spot.{Spot}
use Rattle.topo_forms.specs.declared.topology.StreamEntry.{StreamEntry}
use Rattle.topo_forms.specs.Attributes.{with_columns, source_columns, side_columns}
use Rattle.topo_forms.specs.Modes.{entry_with_mode}
use Rattle.topo_forms.specs.Sites.{Site, no_site, sites_of, site_with, site_at, site_number, side_at, side_number, side_of, port_of, output_of, port_end, output_end, program_in, modules_after, attributes_in}
use Rattle.topo_forms.specs.ViewOf.{source_view, stream_view, output_columns_at}
use Rattle.topo_graph.proofs.Altered.{altered, at-same, flat_map-same, place-same, found-same, take-altered}

module _ (attributes : List Name) (mode : Mode) where
  -- a component with its body and this mode
  abbrev pub site_with_mode : Site → Site
  site_with_mode site = record site { entry = entry_with_mode attributes mode site.entry }

  with_entry : (c : ComponentEntry) (p : Option Program) → site_with (entry_with_mode attributes mode c) p ≡ site_with_mode (site_with c p)
  with_entry c None = refl
  with_entry c (Some p) = refl

  pub sites-altered : (n : ℕ) (components : List ComponentEntry) (modules : List Accepted) → sites_of (altered (entry_with_mode attributes mode) n components) modules ≡ altered site_with_mode n (sites_of components modules)
  sites-altered n [] modules = refl
  sites-altered zero (c ∷ components) modules = ap (λ (s : Site). s ∷ sites_of components (modules_after c.body modules)) (with_entry c (program_in c.body modules))
  sites-altered (suc n) (c ∷ components) modules = ap (λ (ss : List Site). site_with c (program_in c.body modules) ∷ ss) (sites-altered n components (modules_after c.body modules))

  module _ (n : ℕ) (sites : List Site) where
    abbrev others : List Site
    others = altered site_with_mode n sites

    pub ports-same : (i : ℕ) → (site_at others i).ports ≡ (site_at sites i).ports
    ports-same i = at-same site_with_mode (λ (s : Site). s.ports) (λ s. refl) n i sites no_site

    pub outputs-same : (i : ℕ) → (site_at others i).outputs ≡ (site_at sites i).outputs
    outputs-same i = at-same site_with_mode (λ (s : Site). s.outputs) (λ s. refl) n i sites no_site

    number-same : (name : Name) → site_number others name ≡ site_number sites name
    number-same name = place-same site_with_mode (λ (s : Site). bytes_eq s.entry.name name) (λ s. refl) n sites

    pub port_end-same : (spot : Spot) → port_end others spot ≡ port_end sites spot
    port_end-same spot =
        let c = number-same spot.component in
        let ports : (site_at others (site_number others spot.component)).ports ≡ (site_at sites (site_number sites spot.component)).ports = ports-same (site_number others spot.component) ∙ ap (λ (k : ℕ). (site_at sites k).ports) c in
        λ i. (c i, side_number (ports i) spot.port)

    output_end-same : (spot : Spot) → output_end others spot ≡ output_end sites spot
    output_end-same spot =
        let c = number-same spot.component in
        let outputs : (site_at others (site_number others spot.component)).outputs ≡ (site_at sites (site_number sites spot.component)).outputs = outputs-same (site_number others spot.component) ∙ ap (λ (k : ℕ). (site_at sites k).outputs) c in
        λ i. (c i, side_number (outputs i) spot.port)

    columns_at-same : (end : ℕ × ℕ) → output_columns_at others end ≡ output_columns_at sites end
    columns_at-same end = ap (λ (sides : List Side). (side_at sides end.1).columns) (outputs-same end.0)

    pub source_view-same : (s : SourceEntry) → source_view attributes others s ≡ source_view attributes sites s
    source_view-same s = ap (λ (end : Spot → ℕ × ℕ). record (source_view attributes sites s) { to = map end s.to }) (λ i spot. port_end-same spot i)

    pub stream_view-same : (s : StreamEntry) → stream_view attributes others s ≡ stream_view attributes sites s
    stream_view-same s =
        let columns : output_columns_at others (output_end others s.from) ≡ output_columns_at sites (output_end sites s.from) = columns_at-same (output_end others s.from) ∙ ap (output_columns_at sites) (output_end-same s.from) in
        λ i. record (stream_view attributes sites s) {
          origin = Some (output_end-same s.from i);
          columns = attribute_roots attributes (columns i);
          to = map (λ spot. port_end-same spot i) s.to;
        }

    pub port_of-same : (spot : Spot) → port_of others spot ≡ port_of sites spot
    port_of-same spot = found-same site_with_mode (λ (s : Site). bytes_eq s.entry.name spot.component) (λ s. refl) (λ (s : Site). side_of s.ports spot.port) (λ s. refl) n sites

    pub output_of-same : (spot : Spot) → output_of others spot ≡ output_of sites spot
    output_of-same spot = found-same site_with_mode (λ (s : Site). bytes_eq s.entry.name spot.component) (λ s. refl) (λ (s : Site). side_of s.outputs spot.port) (λ s. refl) n sites

    pub attributes-same : (sources : List SourceEntry) → attributes_in sources others ≡ attributes_in sources sites
    attributes-same sources = ap (with_columns (with_columns [] (source_columns sources))) (flat_map-same site_with_mode (λ (s : Site). side_columns s.ports) (λ s. refl) n sites)

  -- and so of the first components
  pub attributes_before-same : (n i : ℕ) (sites : List Site) (sources : List SourceEntry) → attributes_in sources (take i (altered site_with_mode n sites)) ≡ attributes_in sources (take i sites)
  attributes_before-same n i sites sources = ap (attributes_in sources) (take-altered site_with_mode i n sites) ∙ attributes-same n (take i sites) sources
