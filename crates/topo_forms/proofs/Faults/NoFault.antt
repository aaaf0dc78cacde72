-- What it says of each part that a topology has no fault.
use Rattle.std.proofs.Common.{◌≡◌, ◌≤◌, ◌<◌, ◌+◌, ◌||◌, inl, inr, not, ℕ, ℤ, zero, suc, pos, negsuc, nat_lt, nat_le, nat_eq, true, false, Option, None, Some, List, [], ◌∷◌, length, take, get_or, refl, arith, ap, sym, subst}
use Rattle.std.specs.List.{flat_map}
use Rattle.std.specs.Option.{option_or}
use Rattle.std.proofs.lemmas.Bool.{cases_Bool, true≢false}
use Rattle.std.proofs.lemmas.Bool.Decides.{nat_tests}
use Rattle.std.proofs.lemmas.List.Sums.{fold-append}
use Rattle.blz_value.specs.FirstPlace.{first_place}
use Rattle.blz_value.specs.Members.{Has}
use Rattle.blz_value.proofs.FirstPlace.{none_bad}
use Rattle.bloom_forms.specs.Form.{Accepted}
use Rattle.bloom_forms.specs.Query.{Name}
use Rattle.bloom_forms.proofs.Faults.Firsts.{bad_number}
use Rattle.blz_value.specs.Names.{added}
use Rattle.blz_value.proofs.Booleans.{not_false, both_true, neither}
use Rattle.topo_forms.specs.declared.fault.TopoFault.{TopoFault}
use Rattle.topo_forms.specs.declared.fault.TopoKind.{TopoKind}
use Rattle.topo_forms.specs.declared.fault.TopoKind.TheVariants as kind
use Rattle.topo_forms.specs.declared.topology.ComponentEntry.{ComponentEntry}
use Rattle.topo_forms.specs.declared.topology.SourceEntry.{SourceEntry}
use Rattle.topo_forms.specs.declared.topology.StreamEntry.{StreamEntry}
use Rattle.topo_forms.specs.declared.topology.Topology.{Topology}
use Rattle.topo_forms.specs.Attributes.{with_columns, source_columns, side_columns}
use Rattle.topo_forms.specs.Validity.{Written, written, bad_source, bad_component, bad_stream, bad_fd, at_places, kind_fault, fault_in, kinds_in_order, fault_of}
use Rattle.topo_forms.specs.Validity.TooMany.{is_wide, has_wide, are_many, passes_attributes, is_replica_count, replica_sum}
use Rattle.topo_forms.specs.Sites.{Site, no_site, sites_of, attributes_in}
use Rattle.topo_forms.specs.ViewOf.{count_from}

pub no_places : (k : TopoKind) (a b c d : Option ℕ) → at_places k a b c d ≡ None → (a ≡ None) × (b ≡ None) × (c ≡ None) × (d ≡ None)
no_places k None None None None e = (refl, refl, refl, refl)
no_places k None None None (Some i) e = cc
no_places k None None (Some i) d e = cc
no_places k None (Some i) c d e = cc
no_places k (Some i) b c d e = cc

pub no_fault : (f g : Option TopoFault) → option_or f g ≡ None → (f ≡ None) × (g ≡ None)
no_fault None g e = (refl, e)
no_fault (Some f) g e = cc

pub none_in : (w : Written) (kinds : List TopoKind) → fault_in kinds w ≡ None → (k : TopoKind) → Has k kinds → kind_fault k w ≡ None
none_in w [] e k has = absurd has
none_in w (x ∷ kinds) e k (inl same) = subst (λ (z : TopoKind). kind_fault z w ≡ None) same (no_fault (kind_fault x w) (fault_in kinds w) e).0
none_in w (x ∷ kinds) e k (inr has) = none_in w kinds (no_fault (kind_fault x w) (fault_in kinds w) e).1 k has

pub length_sites : (components : List ComponentEntry) (modules : List Accepted) → length (sites_of components modules) ≡ length components
length_sites [] modules = refl
length_sites (c ∷ components) modules = ap suc (length_sites components _)

pub above : (n m : ℕ) → nat_lt n m ≡ false → m ≤ n
above n m e = grind (arith, nat_tests)

pub at_most : (n m : ℕ) → (n < m → ⊥) → m ≤ n
at_most n m none = elim (cases_Bool (nat_lt n m)) [
  | inl lt ↦ absurd (none (let h : n < m = grind (arith, nat_tests) in h))
  | inr e ↦ above n m e
]

-- what stands past the end

abbrev pub no_source : SourceEntry
no_source = record { name = []; columns = []; types = []; seal = []; to = [] }

abbrev pub no_written : StreamEntry
no_written = record { name = []; from = record { component = []; port = [] }; to = [] }

module _ (t : Topology) (modules : List Accepted) (clean : fault_of t modules ≡ None) where
  abbrev w : Written
  w = written t modules

  none_of : (k : TopoKind) → Has k kinds_in_order → kind_fault k w ≡ None
  unfolding fault_of
  none_of k has = none_in w kinds_in_order clean k has

  places : (k : TopoKind) → Has k kinds_in_order
      → (first_place (bad_source k w) 0 t.sources ≡ None) × (first_place (bad_component k w) 0 w.sites ≡ None) × (first_place (bad_stream k w) 0 t.streams ≡ None) × (first_place (bad_fd k w) 0 t.fds ≡ None)
  places k has = no_places k (first_place (bad_source k w) 0 t.sources) (first_place (bad_component k w) 0 w.sites) (first_place (bad_stream k w) 0 t.streams) (first_place (bad_fd k w) 0 t.fds) (none_of k has)

  pub source_fine : (k : TopoKind) → Has k kinds_in_order → (i : ℕ) (d : SourceEntry) → i < length t.sources → bad_source k w i (get_or t.sources i d) ≡ false
  source_fine k has i d lt = let z : 0 + i ≡ i = omega arith in subst (λ (n : ℕ). bad_source k w n (get_or t.sources i d) ≡ false) z (bad_number (bad_source k w) 0 t.sources (none_bad (bad_source k w) 0 t.sources (places k has).0) i d lt)

  pub site_fine : (k : TopoKind) → Has k kinds_in_order → (i : ℕ) (d : Site) → i < length w.sites → bad_component k w i (get_or w.sites i d) ≡ false
  site_fine k has i d lt = let z : 0 + i ≡ i = omega arith in subst (λ (n : ℕ). bad_component k w n (get_or w.sites i d) ≡ false) z (bad_number (bad_component k w) 0 w.sites (none_bad (bad_component k w) 0 w.sites (places k has).1) i d lt)

  pub stream_fine : (k : TopoKind) → Has k kinds_in_order → (i : ℕ) (d : StreamEntry) → i < length t.streams → bad_stream k w i (get_or t.streams i d) ≡ false
  stream_fine k has i d lt = let z : 0 + i ≡ i = omega arith in subst (λ (n : ℕ). bad_stream k w n (get_or t.streams i d) ≡ false) z (bad_number (bad_stream k w) 0 t.streams (none_bad (bad_stream k w) 0 t.streams (places k has).2) i d lt)

  -- ---- sizes

  -- where there is a place after so many, the part there has that number
  pub few_components : length w.sites ≤ 32
  few_components = at_most 32 (length w.sites) (λ lt.
      let fine = site_fine kind.TooMany (inl refl) 32 no_site lt in
      let site = get_or w.sites 32 no_site in
      let a = neither (has_wide site.ports) _ fine in
      let b = neither (has_wide site.outputs) _ a.1 in
      true≢false b.1)

  few_sources : length t.sources ≤ 64
  few_sources = at_most 64 (length t.sources) (λ lt. true≢false (source_fine kind.TooMany (inl refl) 64 no_source lt))

  pub few_streams : length t.sources + length t.streams ≤ 64
  few_streams = by (length t.streams) refl
    where
      by : (n : ℕ) → length t.streams ≡ n → length t.sources + length t.streams ≤ 64
      by zero e = omega (arith, e, few_sources)
      by (suc n) e = let last : length t.sources + n + 1 ≤ 64 = above 64 (length t.sources + n + 1) (stream_fine kind.TooMany (inl refl) n no_written (omega (arith, e))) in omega (arith, last, e)

  -- one to eight replicas
  replica_range : (z : ℤ) → is_replica_count z ≡ true → (1 ≤ count_from z) × (count_from z ≤ 8)
  replica_range (pos n) e = let both = both_true (nat_le 1 n) (nat_le n 8) e in (grind (arith, nat_tests), grind (arith, nat_tests))
  replica_range (negsuc n) e = absurd (true≢false (sym e))

  pub replicas : (i : ℕ) → i < length w.sites → (1 ≤ count_from (get_or w.sites i no_site).entry.replicas) × (count_from (get_or w.sites i no_site).entry.replicas ≤ 8)
  replicas i lt =
      let fine = site_fine kind.TooMany (inl refl) i no_site lt in
      let site = get_or w.sites i no_site in
      let a = neither (has_wide site.ports) _ fine in
      let b = neither (has_wide site.outputs) _ a.1 in
      let c = neither (nat_eq i 32) _ b.1 in
      let d = neither (not (is_replica_count site.entry.replicas)) _ c.1 in
      replica_range site.entry.replicas (not_false (is_replica_count site.entry.replicas) d.0)

  -- ---- attributes

  wide_free : (attributes : List Name) (columns : List Name) → passes_attributes attributes columns ≡ false → length (with_columns attributes columns) ≤ 64
  wide_free attributes columns e = above 64 (length (with_columns attributes columns)) e

  -- attributes that stay few at each of some parts are few after all of them
  grows : {X : Type 0} (f : X → List Name) (d : X) (start : List Name) (xs : List X) → length start ≤ 64
      → ((i : ℕ) → i < length xs → length (with_columns (with_columns start (flat_map f (take i xs))) (f (get_or xs i d))) ≤ 64)
      → length (with_columns start (flat_map f xs)) ≤ 64
  grows f d start [] few each = few
  grows f d start (x ∷ xs) few each =
      let now : length (with_columns start (f x)) ≤ 64 = each 0 (omega arith) in
      subst (λ (names : List Name). length names ≤ 64) (sym (fold-append added start (f x) (flat_map f xs)))
      (grows f d (with_columns start (f x)) xs now (λ i lt. subst (λ (names : List Name). length (with_columns names (f (get_or xs i d))) ≤ 64) (fold-append added start (f x) (flat_map f (take i xs))) (each (suc i) (omega arith))))

  few_source_attributes : length (with_columns [] (source_columns t.sources)) ≤ 64
  few_source_attributes = grows (λ s. s.columns) no_source [] t.sources (omega arith) (λ i lt.
      let fine = source_fine kind.TooMany (inl refl) i no_source lt in
      let s = get_or t.sources i no_source in
      let a = neither (nat_eq i 64) (is_wide s.columns || passes_attributes (attributes_in (take i t.sources) []) s.columns) fine in
      wide_free (attributes_in (take i t.sources) []) s.columns (neither (is_wide s.columns) (passes_attributes (attributes_in (take i t.sources) []) s.columns) a.1).1)

  pub few_attributes : length (attributes_in t.sources w.sites) ≤ 64
  few_attributes = grows (λ site. side_columns site.ports) no_site (with_columns [] (source_columns t.sources)) w.sites few_source_attributes (λ i lt.
      let site = get_or w.sites i no_site in
      let so_far = attributes_in t.sources (take i w.sites) in
      let fine = site_fine kind.TooMany (inl refl) i no_site lt in
      let a = neither (has_wide site.ports) _ fine in
      let b = neither (has_wide site.outputs) _ a.1 in
      let c = neither (nat_eq i 32) _ b.1 in
      let d = neither (not (is_replica_count site.entry.replicas)) _ c.1 in
      let e = neither (are_many site.ports) _ d.1 in
      let g = neither (are_many site.outputs) _ e.1 in
      let h = neither (nat_lt 64 (replica_sum (take i w.sites) + count_from site.entry.replicas)) (passes_attributes so_far (side_columns site.ports)) g.1 in
      wide_free so_far (side_columns site.ports) h.1)
