-- In the view of a topology without a fault names are distinct, streams have the columns of both ends, and replicas are paired.
use Rattle.std.proofs.Common.{◌^◌, ◌≡◌, ◌≢◌, ◌≤◌, ◌<◌, ◌+◌, ◌||◌, ◌&&◌, ◌⊎◌, inl, inr, not, ℕ, zero, suc, nat_eq, Bool, true, false, is_some, slice_get, IfSome, Option, None, Some, List, [], ◌∷◌, length, map, take, get_or, bit_or, refl, arith, ap, sym, subst, ◌∙◌}
use Rattle.std.specs.List.{list_any, list_all, enumerate_from, AllPairs}
use Rattle.std.specs.Str.{bytes_eq}
use Rattle.std.proofs.lemmas.Bool.{true≢false}
use Rattle.std.proofs.lemmas.List.{get_or-map}
use Rattle.std.proofs.lemmas.List.FromFn.{length-enumerate_from, get_or-enumerate_from}
use Rattle.blz_value.specs.declared.attrs.Attrs.{Attrs}
use Rattle.blz_value.specs.declared.attrs.Fd.{Fd}
use Rattle.blz_value.specs.Bits.{bit_of, meets}
use Rattle.blz_value.specs.Closure.{within}
use Rattle.blz_value.specs.Names.{place_of}
use Rattle.blz_value.proofs.Places.{place_of-get}
use Rattle.blz_value.proofs.Within.{within-trans, within-or_r}
use Rattle.blz_value.proofs.Members.{within-meets}
use Rattle.blz_value.specs.Members.{Has}
use Rattle.blz_value.proofs.Membership.{Has-get_or, Has-from_any, Has-from_map, Has-map, Has-flat_map}
use Rattle.bloom_forms.specs.Form.{Accepted}
use Rattle.bloom_forms.specs.Query.{Name}
use Rattle.blz_value.specs.Arrows.{with_all}
use Rattle.blz_value.proofs.Booleans.{not_false, both_true, neither}
use Rattle.blz_value.proofs.Lists.{all_keeps, all_pass}
use Rattle.bloom_forms.proofs.Faults.Firsts.{any_take, other_name}
use Rattle.bloom_forms.specs.Gates.{set_of_roots, root_set}
use Rattle.bloom_forms.specs.HeadRoots.{attribute_roots}
use Rattle.topo_forms.specs.declared.fault.TopoKind.TheVariants as kind
use Rattle.topo_forms.specs.declared.topology.ComponentEntry.{ComponentEntry}
use Rattle.topo_forms.specs.declared.topology.SourceEntry.{SourceEntry}
use Rattle.topo_forms.specs.declared.topology.StreamEntry.{StreamEntry}
use Rattle.topo_forms.specs.declared.topology.Side.{Side}
use Rattle.topo_forms.specs.declared.topology.Topology.{Topology}
use Rattle.topo_forms.specs.Attributes.{side_columns}
use Rattle.topo_forms.specs.Validity.{fault_of}
use Rattle.topo_forms.specs.Validity.OfView.{is_mismatched, seals_in_cycle}
use Rattle.topo_forms.specs.Validity.Twice.{has_source, has_component, has_stream, names_within}
use Rattle.topo_forms.specs.Validity.Unknown.{misses_port}
use Rattle.topo_forms.specs.Feeds.{can_be_paired}
use Rattle.topo_forms.specs.Regions.{is_in_cycle}
use Rattle.topo_forms.specs.Sites.{Site, no_site, no_entry, site_at, side_at, side, output_end, attribute_number}
use Rattle.topo_forms.specs.Valid.{AreNumbered, HasColumns, IsPaired}
use Rattle.topo_forms.specs.View.{View, Stream, Port, Output, Component, End, no_stream, no_component, no_port, no_output, component_at, stream_at, port_at, output_at, ends_of, stream_replicas, senders_of, replicas_of, is_order, mode_of, mode_key}
use Rattle.topo_forms.specs.ViewOf.{view_of, output_view, port_view, key_of, attribute_set}
use Rattle.topo_forms.proofs.Columns.AttributeNames.{attributes-distinct, source_column-has, port_column-has, place-is, roots-are}
use Rattle.topo_forms.proofs.Faults.NoFault.{no_source, no_written, length_sites, source_fine, site_fine, stream_fine, few_components, few_streams, few_attributes, replicas}
use Rattle.topo_forms.proofs.Regions.Numbering.{any-none}
use Rattle.topo_forms.proofs.Columns.SmallSides.{small_sides}
use Rattle.topo_forms.proofs.Regions.Spreading.{numbers_within}
use Rattle.topo_forms.proofs.Views.ViewParts.{same_bytes, sites, attributes, seen, at_component, at_source, at_stream, length_streams, which_stream, Reaches, source_reaches}
use Rattle.topo_forms.proofs.Views.ViewNumbers.{site_entry, from_located, stream_reaches, length_components, stream_origin, source_origin, origins_within, one_stream, ends_within, sources_first}

-- ---- lists and sets

pub get_or_other : {X : Type 0} (xs : List X) (i : ℕ) (d e : X) → i < length xs → get_or xs i d ≡ get_or xs i e
get_or_other [] i d e lt = absurd (omega arith)
get_or_other (x ∷ xs) zero d e lt = refl
get_or_other (x ∷ xs) (suc i) d e lt = get_or_other xs i d e (omega arith)

all_has : (s m : ℕ) (sets : List ℕ) → Has m sets → within m (with_all s sets) ≡ true
all_has s m [] has = absurd has
all_has s m (n ∷ sets) (inl e) = subst (λ (k : ℕ). within k (with_all s (n ∷ sets)) ≡ true) e (within-trans n (bit_or s n) _ (within-or_r s n) (all_keeps (bit_or s n) sets))
all_has s m (n ∷ sets) (inr has) = all_has (bit_or s n) m sets has

in_roots : (roots : List (Option ℕ)) (k : ℕ) → k < 64 → Has (Some k) roots → meets (bit_of k) (set_of_roots roots) ≡ true
in_roots roots k lt has = within-meets k (set_of_roots roots) lt (all_has 0 (bit_of k) (map root_set roots) (Has-map root_set (Some k) roots has))

of_all : {X : Type 0} (p : X → Bool) (xs : List X) → list_all p xs ≡ true → (x : X) → Has x xs → p x ≡ true
of_all p [] e x has = absurd has
of_all p (y ∷ xs) e x (inl same) = subst (λ z. p z ≡ true) same (both_true (p y) (list_all p xs) e).0
of_all p (y ∷ xs) e x (inr has) = of_all p xs (both_true (p y) (list_all p xs) e).1 x has

module _ (t : Topology) (modules : List Accepted) (clean : fault_of t modules ≡ None) where
  abbrev v : View
  v = seen t modules

  abbrev sts : List Site
  sts = sites t modules

  abbrev ats : List Name
  ats = attributes t modules

  -- ---- names

  source_name : (i : ℕ) → i < length t.sources → (stream_at v i).name ≡ (get_or t.sources i no_source).name
  source_name i lt = ap (λ (s : Stream). s.name) (at_source t modules i lt)

  stream_name : (i : ℕ) → i < length t.streams → (stream_at v (length t.sources + i)).name ≡ (get_or t.streams i no_written).name
  stream_name i lt = ap (λ (s : Stream). s.name) (at_stream t modules i lt)

  apart : (a b c d : Name) → a ≡ b → c ≡ d → b ≢ d → a ≢ c
  apart a b c d p q other e = other (sym p ∙ e ∙ q)

  names_apart : (i j : ℕ) → i < j → j < length v.streams → (stream_at v i).name ≢ (stream_at v j).name
  names_apart i j lt le = by (which_stream t modules i (omega (arith, lt, le))) (which_stream t modules j le)
    where
      by : (i < length t.sources) ⊎ ((k : ℕ) × (k < length t.streams) × (length t.sources + k ≡ i)) → (j < length t.sources) ⊎ ((k : ℕ) × (k < length t.streams) × (length t.sources + k ≡ j)) → (stream_at v i).name ≢ (stream_at v j).name
      by (inl a) (inl b) =
          let s = get_or t.sources j no_source in
          let fine = neither (has_source (take j t.sources) s.name) _ (source_fine t modules clean kind.Twice (inr (inl refl)) j no_source b) in
          apart _ _ _ _ (source_name i a) (source_name j b) (other_name _ s.name (any_take (λ (x : SourceEntry). bytes_eq x.name s.name) t.sources i j no_source lt a fine.0))
      by (inl a) (inr b) =
          let s = get_or t.streams b.0 no_written in
          let fine = neither (has_source t.sources s.name) _ (stream_fine t modules clean kind.Twice (inr (inl refl)) b.0 no_written b.1) in
          subst (λ (n : ℕ). (stream_at v i).name ≢ (stream_at v n).name) b.2
          (apart _ _ _ _ (source_name i a) (stream_name b.0 b.1) (other_name _ s.name (any-none (λ (x : SourceEntry). bytes_eq x.name s.name) t.sources fine.0 (get_or t.sources i no_source) (Has-get_or t.sources i no_source a))))
      by (inr a) (inl b) = absurd (omega (arith, a.2, b, lt))
      by (inr a) (inr b) =
          let s = get_or t.streams b.0 no_written in
          let one = neither (has_source t.sources s.name) _ (stream_fine t modules clean kind.Twice (inr (inl refl)) b.0 no_written b.1) in
          let two = neither (has_stream (take b.0 t.streams) s.name) _ one.1 in
          let before : a.0 < b.0 = omega (arith, a.2, b.2, lt) in
          subst (λ (n : ℕ). (stream_at v i).name ≢ (stream_at v n).name) b.2
          (subst (λ (n : ℕ). (stream_at v n).name ≢ (stream_at v (length t.sources + b.0)).name) a.2
          (apart _ _ _ _ (stream_name a.0 a.1) (stream_name b.0 b.1) (other_name _ s.name (any_take (λ (x : StreamEntry). bytes_eq x.name s.name) t.streams a.0 b.0 no_written before a.1 two.0))))

  stream_names : AllPairs (λ (a b : Stream). a.name ≢ b.name) v.streams
  stream_names i j d lt le = apart _ _ _ _
      (ap (λ (s : Stream). s.name) (get_or_other v.streams i d no_stream (omega (arith, lt, le))))
      (ap (λ (s : Stream). s.name) (get_or_other v.streams j d no_stream le))
      (names_apart i j lt le)

  component_name : (c : ℕ) → c < length sts → (component_at v c).name ≡ (get_or t.components c no_entry).name
  component_name c lt =
      ap (λ (x : Component). x.name) (at_component t modules c lt)
      ∙ ap (λ (e : ComponentEntry). e.name) (site_entry t.components modules c (omega (arith, lt, length_sites t.components modules)))

  components_apart : (i j : ℕ) → i < j → j < length v.components → (component_at v i).name ≢ (component_at v j).name
  components_apart i j lt le =
      let lj : j < length sts = omega (arith, le, length_components t modules clean) in
      let li : i < length sts = omega (arith, lt, lj) in
      let c = get_or t.components j no_entry in
      let fine = neither (has_component (take j t.components) (site_at sts j).entry.name) _ (site_fine t modules clean kind.Twice (inr (inl refl)) j no_site lj) in
      let fine' : has_component (take j t.components) c.name ≡ false = subst (λ (e : ComponentEntry). has_component (take j t.components) e.name ≡ false) (site_entry t.components modules j (omega (arith, lj, length_sites t.components modules))) fine.0 in
      apart _ _ _ _ (component_name i li) (component_name j lj)
      (other_name _ c.name (any_take (λ (x : ComponentEntry). bytes_eq x.name c.name) t.components i j no_entry lt (omega (arith, li, length_sites t.components modules)) fine'))

  component_names : AllPairs (λ (a b : Component). a.name ≢ b.name) v.components
  component_names i j d lt le = apart _ _ _ _
      (ap (λ (s : Component). s.name) (get_or_other v.components i d no_component (omega (arith, lt, le))))
      (ap (λ (s : Component). s.name) (get_or_other v.components j d no_component le))
      (components_apart i j lt le)

  sides_small : (fd : Fd) → Has fd v.fds → (fd.from.bits < 2 ^ 64) × (fd.to.bits < 2 ^ 64)
  unfolding view_of
  sides_small = small_sides t modules

  pub are_numbered : AreNumbered v
  are_numbered = record {
    few_streams = omega (arith, length_streams t modules, few_streams t modules clean);
    few_components = omega (arith, length_components t modules clean, few_components t modules clean);
    few_attributes = few_attributes t modules clean;
    attribute_names = attributes-distinct t.sources sts;
    stream_names = stream_names;
    component_names = component_names;
    sources = sources_first t modules clean;
    origins = origins_within t modules clean;
    one_stream = one_stream t modules clean;
    ends = ends_within t modules clean;
    sides = sides_small;
  }

  -- ---- columns

  pub at_port : (c p : ℕ) → c < length sts → p < length (site_at sts c).ports → port_at v c p ≡ port_view ats (side_at (site_at sts c).ports p)
  at_port c p lc lp = ap (λ (x : Component). get_or x.ports p no_port) (at_component t modules c lc) ∙ get_or-map (port_view ats) (site_at sts c).ports p (side [] []) no_port lp

  pub at_output : (c o : ℕ) → c < length sts → o < length (site_at sts c).outputs → output_at v c o ≡ output_view ats (site_at sts c).program (o, side_at (site_at sts c).outputs o)
  at_output c o lc lo =
      let outputs = (site_at sts c).outputs in
      let z : 0 + o ≡ o = omega arith in
      ap (λ (x : Component). get_or x.outputs o no_output) (at_component t modules c lc)
      ∙ get_or-map (output_view ats (site_at sts c).program) (enumerate_from 0 outputs) o (0, side [] []) no_output (omega (arith, lo, length-enumerate_from 0 outputs))
      ∙ ap (output_view ats (site_at sts c).program) (get_or-enumerate_from 0 outputs o (0, side [] []) lo ∙ ap (λ (n : ℕ). (n, side_at outputs o)) z)

  port_column_held : (c p : ℕ) → c < length sts → p < length (site_at sts c).ports → (name : Name) → Has name (side_at (site_at sts c).ports p).columns → Has name ats
  port_column_held c p lc lp name has =
      let in_side : Has name (side_columns (site_at sts c).ports) = Has-flat_map (λ (s : Side). s.columns) (side_at (site_at sts c).ports p) name (site_at sts c).ports (Has-get_or (site_at sts c).ports p (side [] []) lp) has in
      port_column-has t.sources sts name (Has-flat_map (λ (site : Site). side_columns site.ports) (site_at sts c) name sts (Has-get_or sts c no_site lc) in_side)

  port_roots : (columns : List Name) (end : End) → Reaches t modules columns end → attribute_roots ats columns ≡ map Some (port_at v end.0 end.1).columns
  port_roots columns end r =
      ap (attribute_roots ats) r.same
      ∙ roots-are ats (side_at (site_at sts end.0).ports end.1).columns (port_column_held end.0 end.1 r.component r.port)
      ∙ ap (λ (p : Port). map Some p.columns) (sym (at_port end.0 end.1 r.component r.port))

  -- a name that is held has a small number
  number_small : (name : Name) → Has name ats → attribute_number ats name < 64
  number_small name has = by (place_of ats name) refl (place-is ats name has) (place_of-get ats name)
    where
      get_below : (xs : List Name) (k : ℕ) → slice_get xs k ≡ Some name → k < length xs
      get_below [] k e = let bad : None ≡ Some name = e in cc
      get_below (x ∷ xs) zero e = omega arith
      get_below (x ∷ xs) (suc k) e = let more = get_below xs k e in omega arith

      by : (o : Option ℕ) → place_of ats name ≡ o → o ≡ Some (attribute_number ats name) → IfSome o (λ place. slice_get ats place ≡ Some name) → attribute_number ats name < 64
      by None p e at = let bad : None ≡ Some (attribute_number ats name) = e in cc
      by (Some k) p e at = let same : k ≡ attribute_number ats name = cc in omega (arith, same, get_below ats k at, few_attributes t modules clean)

  module _ (i : ℕ) (lt : i < length t.sources) where
    abbrev own : SourceEntry
    own = get_or t.sources i no_source

    column : (names : List Name) → names_within names own.columns ≡ true → (name : Name) → Has name names → Has name own.columns
    column names e name has =
        let found = Has-from_any (bytes_eq name) own.columns (of_all (λ (n : Name). list_any (bytes_eq n) own.columns) names e name has) in
        subst (λ (n : Name). Has n own.columns) (sym (same_bytes name found.0 found.2)) found.1

    held : (names : List Name) → names_within names own.columns ≡ true → (name : Name) → Has name names → Has name ats
    held names e name has = source_column-has t.sources sts name (Has-flat_map (λ (x : SourceEntry). x.columns) own name t.sources (Has-get_or t.sources i no_source lt) (column names e name has))

    -- names among a source's columns have numbers among those of its columns
    names_inside : (names : List Name) → names_within names own.columns ≡ true → within (attribute_set ats names).bits (set_of_roots (attribute_roots ats own.columns)) ≡ true
    names_inside names e =
        numbers_within (set_of_roots (attribute_roots ats own.columns)) (map (attribute_number ats) names) (λ n has.
        let from = Has-from_map (attribute_number ats) n names has in
        subst (λ (m : ℕ). m < 64) from.2 (number_small from.0 (held names e from.0 from.1)))
        ∙ all_pass (λ n. meets (bit_of n) (set_of_roots (attribute_roots ats own.columns))) (map (attribute_number ats) names) (λ n has.
        let from = Has-from_map (attribute_number ats) n names has in
        subst (λ (m : ℕ). meets (bit_of m) (set_of_roots (attribute_roots ats own.columns)) ≡ true) from.2
        (in_roots (attribute_roots ats own.columns) (attribute_number ats from.0) (number_small from.0 (held names e from.0 from.1))
        (subst (λ (o : Option ℕ). Has o (attribute_roots ats own.columns)) (place-is ats from.0 (held names e from.0 from.1)) (Has-map (place_of ats) from.0 own.columns (column names e from.0 from.1)))))

    key_inside : (names : List Name) (key : Attrs) → names_within names own.columns ≡ true → key_of ats names ≡ Some key → within key.bits (set_of_roots (attribute_roots ats own.columns)) ≡ true
    key_inside [] key e is = let bad : None ≡ Some key = is in cc
    key_inside (name ∷ names) key e is = let same : attribute_set ats (name ∷ names) ≡ key = cc in subst (λ (k : Attrs). within k.bits (set_of_roots (attribute_roots ats own.columns)) ≡ true) same (names_inside (name ∷ names) e)

  source_columns_are : (i : ℕ) → i < length t.sources → HasColumns v i
  source_columns_are i lt =
      let s = get_or t.sources i no_source in
      let is = at_source t modules i lt in
      let unknown = neither (not (names_within s.seal s.columns)) (misses_port sts s.to) (source_fine t modules clean kind.Unknown (inr (inr (inl refl))) i no_source lt) in
      record {
        of_output = λ output e. absurd (let bad : None ≡ Some output = sym (source_origin t modules clean i lt) ∙ e in cc);
        of_port = λ end has. ap (λ (x : Stream). x.columns) is ∙ port_roots s.columns end (source_reaches t modules clean i lt end (subst (λ (x : Stream). Has end x.to) is has));
        of_key = λ key e. subst (λ (x : Stream). within key.bits (set_of_roots x.columns) ≡ true) (sym is)
            (key_inside i lt s.seal key (not_false (names_within s.seal s.columns) unknown.0) (subst (λ (x : Stream). x.key ≡ Some key) is e));
        of_source = λ key e. source_origin t modules clean i lt;
      }

  stream_columns_are : (i : ℕ) → i < length t.streams → HasColumns v (length t.sources + i)
  stream_columns_are i lt =
      let s = get_or t.streams i no_written in
      let is = at_stream t modules i lt in
      let at = from_located t modules clean i lt in
      record {
        of_output = λ output e.
            let same : output_end sts s.from ≡ output = (let z : Some (output_end sts s.from) ≡ Some output = sym (stream_origin t modules clean i lt) ∙ e in cc) in
            subst (λ (o : End). (stream_at v (length t.sources + i)).columns ≡ (output_at v o.0 o.1).columns) same
            (ap (λ (x : Stream). x.columns) is ∙ ap (λ (o : Output). o.columns) (sym (at_output (output_end sts s.from).0 (output_end sts s.from).1 at.component_within at.side_within)));
        of_port = λ end has. ap (λ (x : Stream). x.columns) is ∙ port_roots _ end (stream_reaches t modules clean i lt end (subst (λ (x : Stream). Has end x.to) is has));
        of_key = λ key e. absurd (let bad : None ≡ Some key = subst (λ (x : Stream). x.key ≡ Some key) is e in cc);
        of_source = λ key e. absurd (let bad : None ≡ Some key = subst (λ (x : Stream). x.key ≡ Some key) is e in cc);
      }

  pub have_columns : (s : ℕ) → s < length v.streams → HasColumns v s
  have_columns s lt = elim (which_stream t modules s lt) [
    | inl first ↦ source_columns_are s first
    | inr later ↦ subst (HasColumns v) later.2 (stream_columns_are later.0 later.1)
  ]

  -- ---- replicas

  one_sender : (r : ℕ) → can_be_paired 1 r ≡ true
  one_sender r = elim (nat_eq 1 r) as (λ b. (b || true) ≡ true) [ true ↦ refl | false ↦ refl ]

  none_of_both : (a b : Bool) → (not a && not b) ≡ false → a ≡ false → b ≡ true
  none_of_both true b e f = absurd (true≢false f)
  none_of_both false true e f = refl
  none_of_both false false e f = absurd (true≢false e)

  matched : (i : ℕ) → i < length t.streams → is_mismatched v (length t.sources + i) ≡ false
  unfolding view_of
  matched i lt = stream_fine t modules clean kind.ReplicaMismatch (inr (inr (inr (inr (inl refl))))) i no_written lt

  pub are_paired_ends : (s : ℕ) → s < length v.streams → IsPaired v s
  are_paired_ends s lt end has free = elim (which_stream t modules s lt) [
    | inl first ↦ subst (λ (o : Option End). can_be_paired (senders_of v o) (replicas_of v end.0) ≡ true) (sym (source_origin t modules clean s first)) (one_sender (replicas_of v end.0))
    | inr later ↦
        let fine = any-none (λ (e : End). not (is_order v e.0) && not (can_be_paired (stream_replicas v s) (replicas_of v e.0))) (ends_of v s) (subst (λ (n : ℕ). is_mismatched v n ≡ false) later.2 (matched later.0 later.1)) end has in
        none_of_both (is_order v end.0) (can_be_paired (stream_replicas v s) (replicas_of v end.0)) fine free
  ]

  -- ---- components

  pub some_replicas : (c : ℕ) → c < length sts → (1 ≤ replicas_of v c) × (replicas_of v c ≤ 8)
  some_replicas c lt = subst (λ (x : Component). (1 ≤ x.replicas) × (x.replicas ≤ 8)) (sym (at_component t modules c lt)) (replicas t modules clean c lt)

  unsealed : (c : ℕ) → c < length sts → seals_in_cycle v c ≡ false
  unfolding view_of
  unsealed c lt = site_fine t modules clean kind.SealInCycle (inr (inr (inr (inr (inr (inl refl)))))) c no_site lt

  pub no_seal : (c : ℕ) → c < length sts → is_in_cycle v c ≡ true → mode_key (mode_of v c) ≡ None
  no_seal c lt cyclic = by (mode_key (mode_of v c)) (is_in_cycle v c) (unsealed c lt) cyclic
    where
      by : (o : Option Attrs) (b : Bool) → (is_some o && b) ≡ false → b ≡ true → o ≡ None
      by None b e f = refl
      by (Some key) true e f = absurd (true≢false e)
      by (Some key) false e f = absurd (true≢false (sym f))
