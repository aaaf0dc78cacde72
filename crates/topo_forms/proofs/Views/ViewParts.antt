-- The parts of the view of a topology without a fault, by what is written.
use Rattle.std.proofs.Common.{◌≡◌, ◌≤◌, ◌<◌, ◌+◌, ◌-◌, ◌⊎◌, inl, inr, not, ℕ, suc, nat_lt, Bool, true, false, is_none, Option, None, Some, List, [], ◌∷◌, length, map, get_or, refl, arith, ap, sym, subst, ◌∙◌}
use Rattle.std.specs.Cmp.Lexicographic.{pointwise}
use Rattle.std.specs.List.{find, position_or_len}
use Rattle.std.specs.Option.{option_and_then}
use Rattle.std.specs.Str.{bytes_eq}
use Rattle.std.proofs.lemmas.Bool.{cases_Bool, true≢false}
use Rattle.std.proofs.lemmas.Bool.Decides.{nat_tests}
use Rattle.std.proofs.lemmas.List.{get_or-map, get_or-append-add, length-map, length-append}
use Rattle.std.proofs.lemmas.Slice.Eq.{bytes_eq-Decides}
use Rattle.std.proofs.Math.ListN.{get_or-append}
use Rattle.blz_value.specs.Members.{Has}
use Rattle.blz_value.proofs.Membership.{Has-from_map}
use Rattle.blz_value.proofs.Booleans.{not_false, both_true, neither}
use Rattle.bloom_forms.specs.Form.{Accepted}
use Rattle.bloom_forms.specs.Query.{Name}
use Rattle.topo_forms.specs.declared.fault.TopoKind.TheVariants as kind
use Rattle.topo_forms.specs.declared.topology.Side.{Side}
use Rattle.topo_forms.specs.declared.topology.Spot.{Spot}
use Rattle.topo_forms.specs.declared.topology.Topology.{Topology}
use Rattle.topo_forms.specs.Validity.{fault_of}
use Rattle.topo_forms.specs.Validity.Columns.{differs, meets_others}
use Rattle.topo_forms.specs.Validity.Twice.{names_within}
use Rattle.topo_forms.specs.Validity.Unknown.{misses_port}
use Rattle.topo_forms.specs.Sites.{Site, no_site, sites_of, site_number, site_at, side_at, side_number, site_of, side_of, port_of, port_end, attributes_in, side}
use Rattle.topo_forms.specs.View.{View, Stream, End, no_stream, no_component, component_at, stream_at}
use Rattle.topo_forms.specs.ViewOf.{view_with, source_view, stream_view, component_view}
use Rattle.topo_forms.proofs.Faults.NoFault.{no_source, no_written, source_fine}
use Rattle.topo_forms.proofs.Regions.Numbering.{any-none}

-- ---- the first that passes

pub find_here : {X : Type 0} (p : X → Bool) (xs : List X) (d : X) → is_none (find p xs) ≡ false
    → (position_or_len p xs < length xs) × (find p xs ≡ Some (get_or xs (position_or_len p xs) d)) × (p (get_or xs (position_or_len p xs) d) ≡ true)
find_here p [] d e = absurd (true≢false e)
find_here p (x ∷ xs) d e = elim (cases_Bool (p x)) [
  | inl t ↦ (rw t (omega arith), rw t refl, rw t t)
  | inr f ↦ let later = find_here p xs d (rw f at e) in let z : 1 + position_or_len p xs ≡ suc (position_or_len p xs) = omega arith in (rw f (omega (arith, later.0)), rw (f, z) later.1, rw (f, z) later.2)
]

pub same_bytes : (a b : Name) → bytes_eq a b ≡ true → a ≡ b
same_bytes a b e = (bytes_eq-Decides a b).0 e

-- lists of the same names in the same order
pub pointwise_same : (xs ys : List Name) → pointwise bytes_eq xs ys ≡ true → xs ≡ ys
pointwise_same [] [] e = refl
pointwise_same [] (y ∷ ys) e = absurd (true≢false (sym e))
pointwise_same (x ∷ xs) [] e = absurd (true≢false (sym e))
pointwise_same (x ∷ xs) (y ∷ ys) e =
    let both = both_true (bytes_eq x y) (pointwise bytes_eq xs ys) e in
    let one = same_bytes x y both.0 in
    let more = pointwise_same xs ys both.1 in
    λ i. one i ∷ more i

-- ---- ports and outputs by their numbers

pub record Located (sites : List Site) (sides_of : Site → List Side) (component name : Name) (found : Option Side) : Type 0 where
  pub component_within : site_number sites component < length sites
  pub side_within : side_number (sides_of (site_at sites (site_number sites component))) name < length (sides_of (site_at sites (site_number sites component)))
  pub is : found ≡ Some (side_at (sides_of (site_at sites (site_number sites component))) (side_number (sides_of (site_at sites (site_number sites component))) name))
  pub component_named : (site_at sites (site_number sites component)).entry.name ≡ component
  pub side_name : (side_at (sides_of (site_at sites (site_number sites component))) (side_number (sides_of (site_at sites (site_number sites component))) name)).name ≡ name

pub located : (sites : List Site) (sides_of : Site → List Side) (component name : Name)
    → is_none (option_and_then (λ site. side_of (sides_of site) name) (site_of sites component)) ≡ false
    → Located sites sides_of component name (option_and_then (λ site. side_of (sides_of site) name) (site_of sites component))
located sites sides_of component name e =
    let here = find_here (λ (site : Site). bytes_eq site.entry.name component) sites no_site (some (site_of sites component) e) in
    let one = here.1 in
    let there : is_none (side_of (sides_of (site_at sites (site_number sites component))) name) ≡ false = subst (λ (o : Option Site). is_none (option_and_then (λ site. side_of (sides_of site) name) o) ≡ false) one e in
    let inner = find_here (λ (s : Side). bytes_eq s.name name) (sides_of (site_at sites (site_number sites component))) (side [] []) there in
    record {
      component_within = here.0;
      side_within = inner.0;
      is = ap (option_and_then (λ (site : Site). side_of (sides_of site) name)) one ∙ inner.1;
      component_named = same_bytes _ component here.2;
      side_name = same_bytes _ name inner.2;
    }
  where
    some : (o : Option Site) → is_none (option_and_then (λ site. side_of (sides_of site) name) o) ≡ false → is_none o ≡ false
    some None e = e
    some (Some site) e = refl

-- ---- the parts of a view

module _ (t : Topology) (modules : List Accepted) where
  abbrev pub sites : List Site
  sites = sites_of t.components modules

  abbrev pub attributes : List Name
  attributes = attributes_in t.sources sites

  abbrev pub seen : View
  seen = view_with attributes sites t

  pub at_component : (c : ℕ) → c < length sites → component_at seen c ≡ component_view attributes (site_at sites c)
  at_component c lt = get_or-map (component_view attributes) sites c no_site no_component lt

  pub length_streams : length seen.streams ≡ length t.sources + length t.streams
  length_streams = length-append (map (source_view attributes sites) t.sources) (map (stream_view attributes sites) t.streams) ∙ rw (length-map t.sources (source_view attributes sites), length-map t.streams (stream_view attributes sites)) refl

  pub at_source : (i : ℕ) → i < length t.sources → stream_at seen i ≡ source_view attributes sites (get_or t.sources i no_source)
  at_source i lt =
      get_or-append (map (source_view attributes sites) t.sources) (map (stream_view attributes sites) t.streams) no_stream i (omega (arith, lt, length-map t.sources (source_view attributes sites)))
      ∙ get_or-map (source_view attributes sites) t.sources i no_source no_stream lt

  pub at_stream : (i : ℕ) → i < length t.streams → stream_at seen (length t.sources + i) ≡ stream_view attributes sites (get_or t.streams i no_written)
  at_stream i lt =
      subst (λ (n : ℕ). stream_at seen (n + i) ≡ stream_view attributes sites (get_or t.streams i no_written)) (length-map t.sources (source_view attributes sites))
      (get_or-append-add (map (source_view attributes sites) t.sources) (map (stream_view attributes sites) t.streams) i no_stream ∙ get_or-map (stream_view attributes sites) t.streams i no_written no_stream lt)

  -- a stream is that of a source or that of an output
  pub which_stream : (s : ℕ) → s < length seen.streams → (s < length t.sources) ⊎ ((i : ℕ) × (i < length t.streams) × (length t.sources + i ≡ s))
  which_stream s lt = elim (cases_Bool (nat_lt s (length t.sources))) [
    | inl e ↦ inl (grind (arith, nat_tests))
    | inr e ↦ let past : length t.sources ≤ s = grind (arith, nat_tests) in inr (s - length t.sources, omega (arith, lt, past, length_streams), omega (arith, past))
  ]

  -- what holds of the streams of sources and of those of outputs holds of all
  pub each_stream : (P : ℕ → Stream → Type 0)
      → ((i : ℕ) → i < length t.sources → P i (source_view attributes sites (get_or t.sources i no_source)))
      → ((i : ℕ) → i < length t.streams → P (length t.sources + i) (stream_view attributes sites (get_or t.streams i no_written)))
      → (s : ℕ) → s < length seen.streams → P s (stream_at seen s)
  each_stream P of_source of_stream s lt = elim (which_stream s lt) [
    | inl first ↦ subst (P s) (sym (at_source s first)) (of_source s first)
    | inr later ↦ subst (λ (n : ℕ). P n (stream_at seen n)) later.2 (subst (P (length t.sources + later.0)) (sym (at_stream later.0 later.1)) (of_stream later.0 later.1))
  ]

  -- a port to which something with these columns goes is there, with the same columns
  pub record Reaches (columns : List Name) (end : End) : Type 0 where
    pub component : end.0 < length sites
    pub port : end.1 < length (site_at sites end.0).ports
    pub same : columns ≡ (side_at (site_at sites end.0).ports end.1).columns

  pub reaches : (columns : List Name) (spots : List Spot) → misses_port sites spots ≡ false → meets_others sites columns spots ≡ false → (end : End) → Has end (map (port_end sites) spots) → Reaches columns end
  reaches columns spots known alike end has =
      let from = Has-from_map (port_end sites) end spots has in
      let spot = from.0 in
      let there = located sites (λ site. site.ports) spot.component spot.port (any-none (λ (s : Spot). is_none (port_of sites s)) spots known spot from.1) in
      let fits : differs columns (port_of sites spot) ≡ false = any-none (λ (s : Spot). differs columns (port_of sites s)) spots alike spot from.1 in
      let equal : not (pointwise bytes_eq columns (side_at (site_at sites (site_number sites spot.component)).ports (side_number (site_at sites (site_number sites spot.component)).ports spot.port)).columns) ≡ false = subst (λ (o : Option Side). differs columns o ≡ false) there.is fits in
      subst (Reaches columns) from.2 (record { component = there.component_within; port = there.side_within; same = pointwise_same columns _ (not_false (pointwise bytes_eq columns _) equal) })

  module _ (clean : fault_of t modules ≡ None) where
    pub source_reaches : (i : ℕ) → i < length t.sources → (end : End) → Has end (source_view attributes sites (get_or t.sources i no_source)).to → Reaches (get_or t.sources i no_source).columns end
    source_reaches i lt =
        let s = get_or t.sources i no_source in
        let unknown = neither (not (names_within s.seal s.columns)) (misses_port sites s.to) (source_fine t modules clean kind.Unknown (inr (inr (inl refl))) i no_source lt) in
        let columns = source_fine t modules clean kind.Columns (inr (inr (inr (inl refl)))) i no_source lt in
        reaches s.columns s.to unknown.1 columns
