-- The view of a topology without a fault is valid.
use Rattle.std.proofs.Common.{◌≡◌, ◌≢◌, ◌<◌, ◌+◌, ◌&&◌, inl, inr, ℕ, Bool, false, Option, None, Some, List, [], length, map, take, get_or, refl, arith, ap, sym, subst, ◌∙◌}
use Rattle.std.specs.List.{find, enumerate_from}
use Rattle.std.specs.Option.{option_map}
use Rattle.std.specs.Str.{bytes_eq}
use Rattle.std.proofs.lemmas.List.{get_or-map, length-map}
use Rattle.std.proofs.lemmas.List.FromFn.{length-enumerate_from, get_or-enumerate_from}
use Rattle.blz_value.specs.Members.{Has}
use Rattle.blz_value.proofs.Membership.{Has-get_or, Has-flat_map}
use Rattle.blz_value.proofs.Booleans.{not_false, both_true, neither}
use Rattle.bloom_forms.proofs.Combining.CoversLaw.{covers-refl as covers_refl}
use Rattle.bloom_forms.specs.declared.program.Program.{Program}
use Rattle.bloom_forms.specs.declared.program.Program.TheVariants as module_of
use Rattle.bloom_forms.specs.Form.{Accepted}
use Rattle.bloom_forms.specs.Query.{Name}
use Rattle.bloom_forms.specs.Proper.{IsProper}
use Rattle.bloom_forms.specs.declared.note.Note.{Note}
use Rattle.bloom_forms.specs.HeadRoots.{attribute_roots}
use Rattle.bloom_forms.specs.Note.{covers}
use Rattle.topo_forms.specs.declared.fault.TopoKind.TheVariants as kind
use Rattle.topo_forms.specs.declared.topology.Body.{Body}
use Rattle.topo_forms.specs.declared.topology.Body.TheVariants as body
use Rattle.topo_forms.specs.declared.topology.ComponentEntry.{ComponentEntry}
use Rattle.topo_forms.specs.declared.topology.Declared.{Declared}
use Rattle.topo_forms.specs.declared.topology.Side.{Side}
use Rattle.topo_forms.specs.declared.topology.Stock.{Stock}
use Rattle.topo_forms.specs.declared.topology.Topology.{Topology}
use Rattle.topo_forms.specs.Attributes.{side_columns}
use Rattle.topo_forms.specs.Validity.{fault_of}
use Rattle.topo_forms.specs.Validity.OfView.{is_understated, falls_short}
use Rattle.topo_forms.specs.Validity.TooMany.{has_wide}
use Rattle.topo_forms.specs.Validity.Twice.{has_component, repeat_in, repeats_in_body}
use Rattle.topo_forms.specs.Validity.Unknown.{unknown_in_body}
use Rattle.topo_forms.specs.Laws.{ValidLaw}
use Rattle.topo_forms.specs.Sites.{Site, no_site, no_entry, site_at, side_at, side, side_number, ports_with, outputs_with, program_in, stock_program, program_ports, program_outputs}
use Rattle.topo_forms.specs.Valid.{Runs, IsCovered, IsComponent, IsValid, AreModules}
use Rattle.topo_forms.specs.View.{View, Component, Output, program_of, note_at, component_at}
use Rattle.topo_forms.specs.ViewOf.{view_of, note_view, note_used, declared_note, derived_note, note_from, roots_with, gate_with}
use Rattle.topo_forms.proofs.Columns.AttributeNames.{port_column-has}
use Rattle.topo_forms.proofs.Faults.NoFault.{length_sites, site_fine}
use Rattle.topo_forms.proofs.Regions.Numbering.{any-none, find-some}
use Rattle.topo_forms.proofs.Columns.OwnPorts.{HasOwnPorts, own_ports, stock_distinct}
use Rattle.topo_forms.proofs.Views.ViewParts.{same_bytes, sites, attributes, seen, at_component}
use Rattle.topo_forms.proofs.Views.ViewNumbers.{length_components, length_ports, length_outputs}
use Rattle.topo_forms.proofs.Views.ViewColumns.{are_numbered, have_columns, are_paired_ends, some_replicas, no_seal, at_output}
use Rattle.topo_forms.proofs.Views.ViewRuns.{Made, made, program_cases, proper_stock, columns_of_ports, columns_of_outputs, port_lists, output_lists, ports_apart, outputs_apart, numbered_side}

-- ---- notes that are covered

pub self_covered : (o : Option Note) → IsCovered o o
self_covered None = tt
self_covered (Some n) = covers_refl n

not_short : (n : Note) (derived : Option Note) → falls_short n derived ≡ false → IsCovered (Some n) derived
not_short n None e = tt
not_short n (Some m) e = not_false (covers n m) e

module _ (t : Topology) (modules : List Accepted) (clean : fault_of t modules ≡ None) (given : AreModules t modules) where
  abbrev v : View
  v = seen t modules

  abbrev sts : List Site
  sts = sites t modules

  abbrev ats : List Name
  ats = attributes t modules

  understated_not : (c : ℕ) → c < length sts → is_understated ats (site_at sts c) ≡ false
  unfolding view_of
  understated_not c lt = site_fine t modules clean kind.Understated (inr (inr (inr (inr (inr (inr (inl refl))))))) c no_site lt

  module _ (c : ℕ) (lt : c < length sts) (p : Program) (runs : program_of v c ≡ Some p) where
    abbrev site : Site
    site = site_at sts c

    abbrev entry : ComponentEntry
    entry = get_or t.components c no_entry

    from : Made t.components modules c
    from = made t.components modules c (omega (arith, lt, length_sites t.components modules))

    site_runs : site.program ≡ Some p
    site_runs = sym (ap (λ (x : Component). x.program) (at_component t modules c lt)) ∙ runs

    body_runs : program_in entry.body from.rest ≡ Some p
    body_runs = sym (ap (λ (s : Site). s.program) from.is) ∙ site_runs

    site_ports : site.ports ≡ program_ports p
    site_ports = ap (λ (s : Site). s.ports) from.is ∙ ap (ports_with entry) body_runs

    site_outputs : site.outputs ≡ program_outputs p
    site_outputs = ap (λ (s : Site). s.outputs) from.is ∙ ap (outputs_with entry) body_runs

    own_entry : site.entry ≡ entry
    own_entry = ap (λ (s : Site). s.entry) from.is

    narrow : has_wide site.ports ≡ false
    narrow = (neither (has_wide site.ports) _ (site_fine t modules clean kind.TooMany (inl refl) c no_site lt)).0

    once : repeats_in_body site.entry.body ≡ false
    once =
        let twice = neither (has_component (take c t.components) site.entry.name) _ (site_fine t modules clean kind.Twice (inr (inl refl)) c no_site lt) in
        let two = neither (repeat_in site.entry.inputs) _ twice.1 in
        let three = neither (repeat_in site.entry.outputs) _ two.1 in
        (neither (repeats_in_body site.entry.body) _ three.1).0

    known : unknown_in_body site.entry.body ≡ false
    known = (neither (unknown_in_body site.entry.body) _ (site_fine t modules clean kind.Unknown (inr (inr (inl refl))) c no_site lt)).0

    stock_proper : (s : Stock) → entry.body ≡ body.Stock s → stock_program s ≡ p → IsProper (stock_program s)
    stock_proper s is same =
        let body_is : site.entry.body ≡ body.Stock s = ap (λ (e : ComponentEntry). e.body) own_entry ∙ is in
        proper_stock s
        (subst (λ (ps : List Side). has_wide ps ≡ false) (site_ports ∙ ap program_ports (sym same)) narrow)
        (subst (λ (b : Body). repeats_in_body b ≡ false) body_is once)
        (subst (λ (b : Body). unknown_in_body b ≡ false) body_is known)

    proper : IsProper p
    proper = elim (program_cases entry.body from.rest p body_runs) [
      | inl a ↦ subst IsProper a.2 (given.checked a.0 (from.among a.0 a.1))
      | inr b ↦ subst IsProper b.2 (stock_proper b.0 b.1 b.2)
    ]

    held : (s : Side) → Has s site.ports → (name : Name) → Has name s.columns → Has name ats
    held s has name column = port_column-has t.sources sts name
        (Has-flat_map (λ (x : Site). side_columns x.ports) site name sts (Has-get_or sts c no_site lt) (Has-flat_map (λ (x : Side). x.columns) s name site.ports has column))

    -- ---- notes

    at_note : (q o : ℕ) → q < length site.ports → o < length site.outputs → note_at v c q o ≡ note_view ats site (q, side_at site.ports q) (o, side_at site.outputs o)
    at_note q o lq lo =
        let zq : 0 + q ≡ q = omega arith in
        let zo : 0 + o ≡ o = omega arith in
        let row : ℕ × Side → List (Option Note) = (λ port. map (note_view ats site port) (enumerate_from 0 site.outputs)) in
        ap (λ (x : Component). get_or (get_or x.notes q []) o None) (at_component t modules c lt)
        ∙ ap (λ (r : List (Option Note)). get_or r o None)
        (get_or-map (λ (port : ℕ × Side). map (note_view ats site port) (enumerate_from 0 site.outputs)) (enumerate_from 0 site.ports) q (0, side [] []) [] (omega (arith, lq, length-enumerate_from 0 site.ports))
        ∙ ap (λ (port : ℕ × Side). map (note_view ats site port) (enumerate_from 0 site.outputs)) (get_or-enumerate_from 0 site.ports q (0, side [] []) lq ∙ ap (λ (n : ℕ). (n, side_at site.ports q)) zq))
        ∙ get_or-map (note_view ats site (q, side_at site.ports q)) (enumerate_from 0 site.outputs) o (0, side [] []) None (omega (arith, lo, length-enumerate_from 0 site.outputs))
        ∙ ap (note_view ats site (q, side_at site.ports q)) (get_or-enumerate_from 0 site.outputs o (0, side [] []) lo ∙ ap (λ (n : ℕ). (n, side_at site.outputs o)) zo)

    covered : (q o : ℕ) → q < length site.ports → o < length site.outputs → IsCovered (note_at v c q o) (derived_note ats (Some p) q o)
    covered q o lq lo = subst (λ (n : Option Note). IsCovered n (derived_note ats (Some p) q o)) (sym (at_note q o lq lo ∙ ap (λ (r : Option Program). note_used declared (derived_note ats r q o)) site_runs)) (by (find named site.entry.notes) refl)
      where
        named : Declared → Bool
        named d = bytes_eq d.from (side_at site.ports q).name && bytes_eq d.to (side_at site.outputs o).name

        declared : Option Note
        declared = declared_note ats site.entry.notes (side_at site.ports q).name (side_at site.outputs o).name

        by : (f : Option Declared) → find named site.entry.notes ≡ f → IsCovered (note_used (option_map (λ d. note_from ats d.note d.gate) f) (derived_note ats (Some p) q o)) (derived_note ats (Some p) q o)
        by None e = self_covered (derived_note ats (Some p) q o)
        by (Some d) e =
            let found = find-some named site.entry.notes d e in
            let both = both_true (bytes_eq d.from (side_at site.ports q).name) (bytes_eq d.to (side_at site.outputs o).name) found.1 in
            let port : side_number site.ports d.from ≡ q = numbered_side site.ports (subst (λ (ps : List Side). (i j : ℕ) → i < j → j < length ps → (get_or ps i (side [] [])).name ≢ (get_or ps j (side [] [])).name) (sym site_ports) (ports_apart p proper)) q d.from lq (same_bytes d.from _ both.0) in
            let output : side_number site.outputs d.to ≡ o = numbered_side site.outputs (subst (λ (ps : List Side). (i j : ℕ) → i < j → j < length ps → (get_or ps i (side [] [])).name ≢ (get_or ps j (side [] [])).name) (sym site_outputs) (outputs_apart p proper)) o d.to lo (same_bytes d.to _ both.1) in
            let fine : falls_short (note_from ats d.note d.gate) (derived_note ats site.program (side_number site.ports d.from) (side_number site.outputs d.to)) ≡ false =
            any-none (λ (x : Declared). falls_short (note_from ats x.note x.gate) (derived_note ats site.program (side_number site.ports x.from) (side_number site.outputs x.to))) site.entry.notes (understated_not c lt) d found.0 in
            not_short (note_from ats d.note d.gate) (derived_note ats (Some p) q o)
            (subst (λ (r : Option Program). falls_short (note_from ats d.note d.gate) (derived_note ats r q o) ≡ false) site_runs
            (subst (λ (n : ℕ). falls_short (note_from ats d.note d.gate) (derived_note ats site.program q n) ≡ false) output
            (subst (λ (n : ℕ). falls_short (note_from ats d.note d.gate) (derived_note ats site.program n (side_number site.outputs d.to)) ≡ false) port fine)))

    stock_own : (s : Stock) → entry.body ≡ body.Stock s → HasOwnPorts (stock_program s)
    stock_own s is =
        let body_is : site.entry.body ≡ body.Stock s = ap (λ (e : ComponentEntry). e.body) own_entry ∙ is in
        own_ports (stock_program s) (stock_distinct s (subst (λ (b : Body). repeats_in_body b ≡ false) body_is once))

    own_columns : HasOwnPorts p
    own_columns = elim (program_cases entry.body from.rest p body_runs) [
      | inl a ↦ subst HasOwnPorts a.2 (own_ports (module_of.Module a.0) (given.checked a.0 (from.among a.0 a.1)))
      | inr b ↦ subst HasOwnPorts b.2 (stock_own b.0 b.1)
    ]

    it_runs : Runs v c p
    it_runs = record {
      proper = proper;
      distinct = own_columns;
      ports =
          ap (λ (x : Component). map (λ port. map Some port.columns) x.ports) (at_component t modules c lt)
          ∙ port_lists ats site.ports held
          ∙ ap (map (attribute_roots ats)) (ap (map (λ (s : Side). s.columns)) site_ports ∙ columns_of_ports p);
      outputs =
          ap (λ (x : Component). map (λ output. output.columns) x.outputs) (at_component t modules c lt)
          ∙ output_lists ats site.program 0 site.outputs
          ∙ ap (map (attribute_roots ats)) (ap (map (λ (s : Side). s.columns)) site_outputs ∙ columns_of_outputs p);
      roots = λ o lo.
          let le : o < length site.outputs = omega (arith, lo, length_outputs t modules clean c lt) in
          ap (λ (x : Output). x.roots) (at_output t modules clean c o lt le) ∙ ap (λ (r : Option Program). roots_with ats r (o, side_at site.outputs o)) site_runs;
      gates = λ o lo.
          let le : o < length site.outputs = omega (arith, lo, length_outputs t modules clean c lt) in
          ap (λ (x : Output). x.gate.bits) (at_output t modules clean c o lt le) ∙ ap (λ (r : Option Program). (gate_with ats r (o, side_at site.outputs o)).bits) site_runs;
      notes = λ q o lq lo. covered q o (omega (arith, lq, length_ports t modules clean c lt)) (omega (arith, lo, length_outputs t modules clean c lt));
    }

  row_at : (c : ℕ) → ℕ × Side → List (Option Note)
  row_at c port = map (note_view ats (site_at sts c) port) (enumerate_from 0 (site_at sts c).outputs)

  rows_of : (c : ℕ) → c < length sts → length (component_at v c).notes ≡ length (component_at v c).ports
  unfolding row_at
  rows_of c lt =
      ap (λ (x : Component). length x.notes) (at_component t modules c lt)
      ∙ length-map (enumerate_from 0 (site_at sts c).ports) (row_at c)
      ∙ length-enumerate_from 0 (site_at sts c).ports
      ∙ sym (length_ports t modules clean c lt)

  row_of : (c : ℕ) → c < length sts → (q : ℕ) → q < length (component_at v c).ports → length (get_or (component_at v c).notes q []) ≡ length (component_at v c).outputs
  unfolding row_at
  row_of c lt q lp =
      let ports = (site_at sts c).ports in
      let outputs = (site_at sts c).outputs in
      let lq : q < length ports = omega (arith, lp, length_ports t modules clean c lt) in
      ap (λ (x : Component). length (get_or x.notes q [])) (at_component t modules c lt)
      ∙ ap length (get_or-map (row_at c) (enumerate_from 0 ports) q (0, side [] []) [] (omega (arith, lq, length-enumerate_from 0 ports)))
      ∙ length-map (enumerate_from 0 outputs) (note_view ats (site_at sts c) (get_or (enumerate_from 0 ports) q (0, side [] [])))
      ∙ length-enumerate_from 0 outputs
      ∙ sym (length_outputs t modules clean c lt)

  a_component : (c : ℕ) → c < length sts → IsComponent v c
  a_component c lt = record {
    some_replica = (some_replicas t modules clean c lt).0;
    few_replicas = (some_replicas t modules clean c lt).1;
    note_rows = rows_of c lt;
    note_row = row_of c lt;
    no_seal = no_seal t modules clean c lt;
    runs = λ p e. it_runs c lt p e;
  }

  is_valid : IsValid v
  is_valid = record {
    numbered = are_numbered t modules clean;
    columns = have_columns t modules clean;
    paired = are_paired_ends t modules clean;
    components = λ c lt. a_component c (omega (arith, lt, length_components t modules clean));
  }

pub valid_law : ValidLaw
unfolding view_of
valid_law t modules allowed given clean = is_valid t modules clean given
