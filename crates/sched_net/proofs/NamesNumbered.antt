-- The name of a stream, of a component or of a port is found at its number.
use Rattle.std.proofs.Common.{◌≡◌, ◌≢◌, ◌<◌, ◌+◌, ◌∷◌, ℕ, false, not, unwrap_or, Option, None, Some, List, [], length, map, take, get_or, refl, ap, ◌∙◌, sym, subst, inl, inr, arith}
use Rattle.std.specs.List.{AllPairs}
use Rattle.std.specs.Str.{bytes_eq}
use Rattle.std.proofs.lemmas.Bool.{cases_Bool}
use Rattle.std.proofs.lemmas.List.{get_or-map, length-map}
use Rattle.std.proofs.lemmas.Slice.Eq.{bytes_eq-Decides}
use Rattle.blz_value.proofs.Booleans.{neither}
use Rattle.blz_value.proofs.Options.{first_place}
use Rattle.bloom_forms.specs.declared.program.Program.{Program}
use Rattle.bloom_forms.specs.Form.{Accepted}
use Rattle.bloom_forms.specs.Query.{Name}
use Rattle.topo_forms.specs.declared.fault.TopoKind.TheVariants as kind
use Rattle.topo_forms.specs.declared.topology.ComponentEntry.{ComponentEntry}
use Rattle.topo_forms.specs.declared.topology.Side.{Side}
use Rattle.topo_forms.specs.declared.topology.Topology.{Topology}
use Rattle.topo_forms.specs.Sites.{Site, no_site, no_entry, site_at, side, ports_with, program_in}
use Rattle.topo_forms.specs.Valid.{IsValid, IsWhole, Validated}
use Rattle.topo_forms.specs.Validity.{fault_of}
use Rattle.topo_forms.specs.Validity.Twice.{has_component, repeat_in, repeats_column, sides_are_distinct}
use Rattle.topo_forms.specs.View.{View, Component, Port, Stream, no_component, no_port, no_stream, component_at, number_named, port_at, program_of, stream_at}
use Rattle.topo_forms.specs.ViewOf.{modules_in, port_view, view_of}
use Rattle.topo_forms.proofs.Faults.NoFault.{length_sites, site_fine}
use Rattle.topo_forms.proofs.Views.ViewNumbers.{length_components}
use Rattle.topo_forms.proofs.Views.ViewParts.{sites, attributes, seen, at_component}
use Rattle.topo_forms.proofs.Views.ViewRuns.{Made, made, names_apart, ports_apart}
use Rattle.sched_net.specs.Numbered.{stream_number, component_number, port_number}

-- ---- a name that stands once

unequal : (a b : Name) → a ≢ b → bytes_eq a b ≡ false
unequal a b other = elim (cases_Bool (bytes_eq a b)) [ inl e ↦ absurd (other ((bytes_eq-Decides a b).0 e)) | inr e ↦ e ]

number_of_name : {X : Type 0} (name_of : X → Name) (xs : List X) (k : ℕ) (d : X) → AllPairs (λ a b. name_of a ≢ name_of b) xs → k < length xs → number_named name_of xs (name_of (get_or xs k d)) ≡ Some k
number_of_name name_of xs k d apart within =
    first_place (λ x. bytes_eq (name_of x) (name_of (get_or xs k d))) xs 0 k d within
    ((bytes_eq-Decides (name_of (get_or xs k d)) (name_of (get_or xs k d))).1 refl)
    (λ j less. unequal (name_of (get_or xs j d)) (name_of (get_or xs k d)) (apart j k d less within))
    ∙ ap Some (let e : 0 + k ≡ k = omega arith in e)

-- ---- streams and components

pub stream_named : (v : View) (s : ℕ) → IsValid v → s < length v.streams → stream_number v (stream_at v s).name ≡ s
stream_named v s valid there = ap (λ o. unwrap_or o (length v.streams)) (number_of_name (λ (x : Stream). x.name) v.streams s no_stream valid.numbered.stream_names there)

pub component_named : (v : View) (c : ℕ) → IsValid v → c < length v.components → component_number v (component_at v c).name ≡ c
component_named v c valid there = ap (λ o. unwrap_or o (length v.components)) (number_of_name (λ (x : Component). x.name) v.components c no_component valid.numbered.component_names there)

-- ---- ports: those of a program have names of their own, and those that are declared were tested

abbrev AreApart : List Side → Type 0
AreApart sides = (i j : ℕ) → i < j → j < length sides → (get_or sides i (side [] [])).name ≢ (get_or sides j (side [] [])).name

declared_apart : (sides : List Side) → repeat_in sides ≡ false → AreApart sides
declared_apart sides once i j less within same =
    let names : List Name = map (λ (s : Side). s.name) sides in
    let first : i < length sides = omega (arith, less, within) in
    names_apart names (neither (not (sides_are_distinct sides)) (repeats_column sides) once).0 i j [] less (omega (arith, within, length-map sides (λ (s : Side). s.name)))
    (get_or-map (λ (s : Side). s.name) sides i (side [] []) [] first ∙ same ∙ sym (get_or-map (λ (s : Side). s.name) sides j (side [] []) [] within))

module _ (t : Topology) (modules : List Accepted) (clean : fault_of t modules ≡ None) (valid : IsValid (seen t modules)) (c : ℕ) (within : c < length (sites t modules)) where
  abbrev v : View
  v = seen t modules

  abbrev site : Site
  site = site_at (sites t modules) c

  abbrev entry : ComponentEntry
  entry = get_or t.components c no_entry

  from : Made t.components modules c
  from = made t.components modules c (omega (arith, within, length_sites t.components modules))

  inputs_once : repeat_in entry.inputs ≡ false
  inputs_once =
      let twice = neither (has_component (take c t.components) site.entry.name) _ (site_fine t modules clean kind.Twice (inr (inl refl)) c no_site within) in
      subst (λ (e : ComponentEntry). repeat_in e.inputs ≡ false) (ap (λ (s : Site). s.entry) from.is) (neither (repeat_in site.entry.inputs) _ twice.1).0

  there : c < length v.components
  there = omega (arith, within, length_components t modules clean)

  sides_apart : AreApart site.ports
  sides_apart = by_program (program_in entry.body from.rest) refl
    where
      by_program : (o : Option Program) → program_in entry.body from.rest ≡ o → AreApart site.ports
      by_program None e = subst AreApart (sym (ap (λ (s : Site). s.ports) from.is ∙ ap (ports_with entry) e)) (declared_apart entry.inputs inputs_once)
      by_program (Some p) e =
          let runs : program_of v c ≡ Some p = ap (λ (x : Component). x.program) (at_component t modules c within) ∙ ap (λ (s : Site). s.program) from.is ∙ e in
          subst AreApart (sym (ap (λ (s : Site). s.ports) from.is ∙ ap (ports_with entry) e)) (ports_apart p ((valid.components c there).runs p runs).proper)

  ports_are : (component_at v c).ports ≡ map (port_view (attributes t modules)) site.ports
  ports_are = ap (λ (x : Component). x.ports) (at_component t modules c within)

  pub ports_once : AllPairs (λ (a b : Port). a.name ≢ b.name) (component_at v c).ports
  ports_once = subst (AllPairs (λ (a b : Port). a.name ≢ b.name)) (sym ports_are) viewed
    where
      name_at : (i : ℕ) (d : Port) → i < length site.ports → (get_or (map (port_view (attributes t modules)) site.ports) i d).name ≡ (get_or site.ports i (side [] [])).name
      name_at i d inside = ap (λ (x : Port). x.name) (get_or-map (port_view (attributes t modules)) site.ports i (side [] []) d inside)

      viewed : AllPairs (λ (a b : Port). a.name ≢ b.name) (map (port_view (attributes t modules)) site.ports)
      viewed i j d less past same =
          let last : j < length site.ports = omega (arith, past, length-map site.ports (port_view (attributes t modules))) in
          let first : i < length site.ports = omega (arith, less, last) in
          sides_apart i j less last (sym (name_at i d first) ∙ same ∙ name_at j d last)

-- in a topology that was validated
port_names : (t : Topology) (modules : List Accepted) (v : View) (c : ℕ) → v ≡ view_of t modules → fault_of t modules ≡ None → IsValid v → c < length v.components → AllPairs (λ (a b : Port). a.name ≢ b.name) (component_at v c).ports
unfolding view_of
port_names t modules v c is clean valid there =
    let own : IsValid (seen t modules) = subst IsValid is valid in
    let many : c < length (seen t modules).components = subst (λ (x : View). c < length x.components) is there in
    let inside : c < length (sites t modules) = omega (arith, many, length_components t modules clean) in
    subst (λ (x : View). AllPairs (λ (a b : Port). a.name ≢ b.name) (component_at x c).ports) (sym is) (ports_once t modules clean own c inside)

pub port_named : (valid : Validated) (c p : ℕ) → IsWhole valid → IsValid valid.view → c < length valid.view.components → p < length (component_at valid.view c).ports → port_number valid.view c (port_at valid.view c p).name ≡ p
port_named seen c p whole valid there within =
    ap (λ o. unwrap_or o (length (component_at seen.view c).ports))
    (number_of_name (λ (x : Port). x.name) (component_at seen.view c).ports p no_port (port_names seen.topology (modules_in seen.view) seen.view c whole.is whole.clean valid there) within)

-- ---- a part that has a name is the one that is found by it

pub stream_is : (v : View) (s : ℕ) (name : Name) → IsValid v → s < length v.streams → (stream_at v s).name ≡ name → s ≡ stream_number v name
stream_is v s name valid there e = sym (stream_named v s valid there) ∙ ap (stream_number v) e

pub component_is : (v : View) (c : ℕ) (name : Name) → IsValid v → c < length v.components → (component_at v c).name ≡ name → c ≡ component_number v name
component_is v c name valid there e = sym (component_named v c valid there) ∙ ap (component_number v) e

pub port_is : (valid : Validated) (c p : ℕ) (name : Name) → IsWhole valid → IsValid valid.view → c < length valid.view.components → p < length (component_at valid.view c).ports → (port_at valid.view c p).name ≡ name → p ≡ port_number valid.view c name
port_is seen c p name whole valid there within e = sym (port_named seen c p whole valid there within) ∙ ap (port_number seen.view c) e
