-- In the view of a topology without a fault numbers are those of parts, and names are distinct.
use Rattle.std.proofs.Common.{◌≡◌, ◌≤◌, ◌<◌, ◌+◌, ◌↔◌, inl, inr, not, ℕ, zero, suc, nat_lt, Bool, true, false, is_none, Option, None, Some, List, [], ◌∷◌, length, map, filter, take, get_or, refl, arith, ap, sym, subst, ◌∙◌}
use Rattle.std.specs.List.{enumerate_from}
use Rattle.std.specs.Option.{option_map_or}
use Rattle.std.specs.Str.{bytes_eq}
use Rattle.std.proofs.lemmas.Bool.{cases_Bool, cases_eq, true≢false}
use Rattle.std.proofs.lemmas.Bool.Decides.{nat_tests}
use Rattle.std.proofs.lemmas.List.{length-map, length-append}
use Rattle.std.proofs.lemmas.List.Elements.{filter-append}
use Rattle.std.proofs.lemmas.List.FromFn.{length-enumerate_from}
use Rattle.std.proofs.lemmas.Slice.Eq.{bytes_eq-Decides}
use Rattle.blz_value.specs.Members.{Has}
use Rattle.blz_value.proofs.Booleans.{neither}
use Rattle.bloom_forms.proofs.Faults.Firsts.{any_take}
use Rattle.bloom_forms.specs.Form.{Accepted}
use Rattle.bloom_forms.specs.Query.{Name}
use Rattle.topo_forms.specs.declared.fault.TopoKind.TheVariants as kind
use Rattle.topo_forms.specs.declared.topology.ComponentEntry.{ComponentEntry}
use Rattle.topo_forms.specs.declared.topology.StreamEntry.{StreamEntry}
use Rattle.topo_forms.specs.declared.topology.Side.{Side}
use Rattle.topo_forms.specs.declared.topology.Topology.{Topology}
use Rattle.topo_forms.specs.Validity.{fault_of}
use Rattle.topo_forms.specs.Validity.Columns.{meets_others}
use Rattle.topo_forms.specs.Validity.Twice.{has_source, has_stream, has_start, spots_are_distinct, same_pair, spot_pair}
use Rattle.topo_forms.specs.Validity.Unknown.{misses_port}
use Rattle.topo_forms.specs.Sites.{no_entry, sites_of, site_number, site_at, side_at, output_of, output_end, modules_after}
use Rattle.topo_forms.specs.View.{View, Stream, Component, End, component_at, origin_of, ends_of, is_source, source_count}
use Rattle.topo_forms.specs.ViewOf.{source_view, stream_view, component_view, output_view, port_view, output_columns_at}
use Rattle.topo_forms.proofs.Faults.NoFault.{no_written, stream_fine}
use Rattle.topo_forms.proofs.Views.ViewParts.{Located, located, sites, attributes, seen, at_component, at_source, at_stream, which_stream, Reaches, reaches, source_reaches}

-- ---- lists

equal_names : (a b : Name) → a ≡ b → bytes_eq a b ≡ true
equal_names a b same = (bytes_eq-Decides a b).1 same

filter_none : {X Y : Type 0} (p : Y → Bool) (f : X → Y) (xs : List X) → ((x : X) → p (f x) ≡ false) → filter p (map f xs) ≡ []
filter_none p f [] e = refl
filter_none p f (x ∷ xs) e = rw (e x) (filter_none p f xs e)

filter_whole : {X Y : Type 0} (p : Y → Bool) (f : X → Y) (xs : List X) → ((x : X) → p (f x) ≡ true) → length (filter p (map f xs)) ≡ length xs
filter_whole p f [] e = refl
filter_whole p f (x ∷ xs) e = rw (e x) (ap suc (filter_whole p f xs e))

-- a site is that of its component
pub site_entry : (components : List ComponentEntry) (modules : List Accepted) (i : ℕ) → i < length components → (site_at (sites_of components modules) i).entry ≡ get_or components i no_entry
site_entry [] modules i lt = absurd (omega arith)
site_entry (c ∷ components) modules zero lt = refl
site_entry (c ∷ components) modules (suc i) lt = site_entry components (modules_after c.body modules) i (omega arith)

module _ (t : Topology) (modules : List Accepted) (clean : fault_of t modules ≡ None) where
  abbrev v : View
  v = seen t modules

  abbrev written_at : ℕ → StreamEntry
  written_at i = get_or t.streams i no_written

  -- ---- where a stream begins

  pub from_located : (i : ℕ) → i < length t.streams → Located (sites t modules) (λ site. site.outputs) (written_at i).from.component (written_at i).from.port (output_of (sites t modules) (written_at i).from)
  from_located i lt =
      let s = written_at i in
      let unknown = neither (misses_port (sites t modules) s.to) (is_none (output_of (sites t modules) s.from)) (stream_fine t modules clean kind.Unknown (inr (inr (inl refl))) i no_written lt) in
      located (sites t modules) (λ site. site.outputs) s.from.component s.from.port unknown.1

  pub stream_reaches : (i : ℕ) → i < length t.streams → (end : End) → Has end (stream_view (attributes t modules) (sites t modules) (written_at i)).to
      → Reaches t modules (output_columns_at (sites t modules) (output_end (sites t modules) (written_at i).from)) end
  stream_reaches i lt =
      let s = written_at i in
      let unknown = neither (misses_port (sites t modules) s.to) (is_none (output_of (sites t modules) s.from)) (stream_fine t modules clean kind.Unknown (inr (inr (inl refl))) i no_written lt) in
      let columns : option_map_or (λ output. meets_others (sites t modules) output.columns s.to) (output_of (sites t modules) s.from) false ≡ false = stream_fine t modules clean kind.Columns (inr (inr (inr (inl refl)))) i no_written lt in
      let alike = subst (λ (o : Option Side). option_map_or (λ output. meets_others (sites t modules) output.columns s.to) o false ≡ false) (from_located i lt).is columns in
      reaches t modules _ s.to unknown.0 alike

  -- ---- lengths

  pub length_components : length v.components ≡ length (sites t modules)
  length_components = length-map (sites t modules) (component_view (attributes t modules))

  pub length_ports : (c : ℕ) → c < length (sites t modules) → length (component_at v c).ports ≡ length (site_at (sites t modules) c).ports
  length_ports c lt = ap (λ (x : Component). length x.ports) (at_component t modules c lt) ∙ length-map (site_at (sites t modules) c).ports (port_view (attributes t modules))

  pub length_outputs : (c : ℕ) → c < length (sites t modules) → length (component_at v c).outputs ≡ length (site_at (sites t modules) c).outputs
  length_outputs c lt =
      ap (λ (x : Component). length x.outputs) (at_component t modules c lt)
      ∙ length-map (enumerate_from 0 (site_at (sites t modules) c).outputs) (output_view (attributes t modules) (site_at (sites t modules) c).program)
      ∙ length-enumerate_from 0 (site_at (sites t modules) c).outputs

  -- ---- origins

  pub source_origin : (s : ℕ) → s < length t.sources → origin_of v s ≡ None
  source_origin s lt = ap (λ (x : Stream). x.origin) (at_source t modules s lt)

  pub stream_origin : (i : ℕ) → i < length t.streams → origin_of v (length t.sources + i) ≡ Some (output_end (sites t modules) (written_at i).from)
  stream_origin i lt = ap (λ (x : Stream). x.origin) (at_stream t modules i lt)

  some_same : {X : Type 0} (a b : X) → Some a ≡ Some b → a ≡ b
  some_same a b e = cc

  none_some : {X : Type 0} {P : Type 0} (o : Option X) (a : X) → o ≡ None → o ≡ Some a → P
  none_some o a none some = let bad : None ≡ Some a = sym none ∙ some in cc

  -- a stream with an origin is written, and comes from that output
  pub record Begins (s : ℕ) (output : End) : Type 0 where
    pub number : ℕ
    pub within : number < length t.streams
    pub is : length t.sources + number ≡ s
    pub same : output_end (sites t modules) (written_at number).from ≡ output

  pub begins : (s : ℕ) (output : End) → s < length v.streams → origin_of v s ≡ Some output → Begins s output
  begins s output lt e = elim (which_stream t modules s lt) [
    | inl first ↦ none_some (origin_of v s) output (source_origin s first) e
    | inr later ↦ record {
      number = later.0;
      within = later.1;
      is = later.2;
      same = some_same _ output (sym (stream_origin later.0 later.1) ∙ subst (λ (n : ℕ). origin_of v n ≡ Some output) (sym later.2) e);
    }
  ]

  pub origins_within : (s : ℕ) (output : End) → s < length v.streams → origin_of v s ≡ Some output → (output.0 < length v.components) × (output.1 < length (component_at v output.0).outputs)
  origins_within s output lt e =
      let b = begins s output lt e in
      let at = from_located b.number b.within in
      subst (λ (o : End). (o.0 < length v.components) × (o.1 < length (component_at v o.0).outputs)) b.same (
        omega (arith, at.component_within, length_components),
        omega (arith, at.side_within, length_outputs (site_number (sites t modules) (written_at b.number).from.component) at.component_within),
      )

  -- each output has one stream
  starts_apart : (i j : ℕ) → i < j → j < length t.streams → output_end (sites t modules) (written_at i).from ≡ output_end (sites t modules) (written_at j).from → ⊥
  starts_apart i j lt le same =
      let a = written_at i in
      let b = written_at j in
      let at = from_located i (omega (arith, lt, le)) in
      let bt = from_located j le in
      let fine = stream_fine t modules clean kind.Twice (inr (inl refl)) j no_written le in
      let one = neither (has_source t.sources b.name) _ fine in
      let two = neither (has_stream (take j t.streams) b.name) _ one.1 in
      let three = neither (has_start (take j t.streams) b.from) (not (spots_are_distinct b.to)) two.1 in
      let other : same_pair (spot_pair a.from) (spot_pair b.from) ≡ false = any_take (λ (s : StreamEntry). same_pair (spot_pair s.from) (spot_pair b.from)) t.streams i j no_written lt (omega (arith, lt, le)) three.0 in
      let component : a.from.component ≡ b.from.component = sym at.component_named ∙ ap (λ (e : End). (site_at (sites t modules) e.0).entry.name) same ∙ bt.component_named in
      let port : a.from.port ≡ b.from.port = sym at.side_name ∙ ap (λ (e : End). (side_at (site_at (sites t modules) e.0).outputs e.1).name) same ∙ bt.side_name in
      let yes' : same_pair (spot_pair a.from) (spot_pair b.from) ≡ true = rw (equal_names a.from.component b.from.component component, equal_names a.from.port b.from.port port) refl in
      true≢false (sym yes' ∙ other)

  pub one_stream : (s u : ℕ) (output : End) → s < length v.streams → u < length v.streams → origin_of v s ≡ Some output → origin_of v u ≡ Some output → s ≡ u
  one_stream s u output ls lu es eu =
      let a = begins s output ls es in
      let b = begins u output lu eu in
      let same : output_end (sites t modules) (written_at a.number).from ≡ output_end (sites t modules) (written_at b.number).from = a.same ∙ sym b.same in
      let equal : a.number ≡ b.number = elim (cases_eq a.number b.number) [
        | inl e ↦ e
        | inr apart ↦ elim (cases_Bool (nat_lt a.number b.number)) [
          | inl lt ↦ absurd (starts_apart a.number b.number (let h : a.number < b.number = grind (arith, nat_tests) in h) b.within same)
          | inr ge ↦ absurd (starts_apart b.number a.number (let h : b.number ≤ a.number = grind (arith, nat_tests) in omega (arith, h, apart)) a.within (sym same))
        ]
      ] in
      omega (arith, equal, a.is, b.is)

  -- ---- ends

  pub ends_within : (s : ℕ) (end : End) → s < length v.streams → Has end (ends_of v s) → (end.0 < length v.components) × (end.1 < length (component_at v end.0).ports)
  ends_within s end lt has = elim (which_stream t modules s lt) [
    | inl first ↦ there (source_reaches t modules clean s first end (subst (λ (x : Stream). Has end x.to) (at_source t modules s first) has))
    | inr later ↦ there (stream_reaches later.0 later.1 end (subst (λ (x : Stream). Has end x.to) (at_stream t modules later.0 later.1) (subst (λ (n : ℕ). Has end (ends_of v n)) (sym later.2) has)))
  ]
    where
      there : {columns : List Name} → Reaches t modules columns end → (end.0 < length v.components) × (end.1 < length (component_at v end.0).ports)
      there r = (omega (arith, r.component, length_components), omega (arith, r.port, length_ports end.0 r.component))

  -- ---- sources first

  count_is : source_count v ≡ length t.sources
  count_is =
      ap length (filter-append is_source (map (source_view (attributes t modules) (sites t modules)) t.sources) (map (stream_view (attributes t modules) (sites t modules)) t.streams))
      ∙ length-append (filter is_source (map (source_view (attributes t modules) (sites t modules)) t.sources)) (filter is_source (map (stream_view (attributes t modules) (sites t modules)) t.streams))
      ∙ (let a = filter_whole is_source (source_view (attributes t modules) (sites t modules)) t.sources (λ s. refl) in
      let b = ap length (filter_none is_source (stream_view (attributes t modules) (sites t modules)) t.streams (λ s. refl)) in
      omega (arith, a, b))

  pub sources_first : (s : ℕ) → s < length v.streams → (origin_of v s ≡ None) ↔ (s < source_count v)
  sources_first s lt = elim (which_stream t modules s lt) [
    | inl first ↦ ((λ e. omega (arith, first, count_is)), (λ e. source_origin s first))
    | inr later ↦ (
      (λ e. none_some (origin_of v (length t.sources + later.0)) (output_end (sites t modules) (written_at later.0).from) (subst (λ (n : ℕ). origin_of v n ≡ None) (sym later.2) e) (stream_origin later.0 later.1)),
      (λ e. absurd (omega (arith, e, count_is, later.2))),
    )
  ]
