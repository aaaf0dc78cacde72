-- From one component to the next: the first place, the attributes and the replicas.
use Rattle.std.proofs.Common.{◌≡◌, ◌<◌, ◌+◌, ℕ, Bool, true, false, Option, Some, List, [], ◌∷◌, ◌++◌, length, take, drop, get_or, refl, arith, ap, sym, ◌∙◌}
use Rattle.std.proofs.lemmas.Grind.{flat_map-append}
use Rattle.std.proofs.lemmas.List.{take_more, get_or-map, append-nil, length-map}
use Rattle.std.proofs.lemmas.List.Sums.{sum_by-append, fold-append}
use Rattle.blz_value.specs.FirstPlace.{first_place}
use Rattle.bloom_forms.specs.Query.{Name}
use Rattle.blz_value.specs.Names.{added}
use Rattle.blz_value.proofs.Lists.{rest_is as left_with}
use Rattle.topo_forms.specs.declared.topology.SourceEntry.{SourceEntry}
use Rattle.topo_types.specs.declared.view.sites.Site as held
use Rattle.topo_forms.specs.Attributes.{with_columns, source_columns, side_columns}
use Rattle.topo_types.specs.Code.Built.{site_seen, sites_seen}
use Rattle.topo_forms.specs.Sites.{Site, attributes_in, site_columns}
use Rattle.topo_forms.specs.Validity.TooMany.{large_component, too_many_component, replica_sum}
use Rattle.topo_forms.specs.ViewOf.{count_from}

module _ (sources : List SourceEntry) (sites : List held.Site) (i : ℕ) (x : held.Site) (lt : i < length sites) (is : x ≡ get_or sites i x) where
  abbrev all : List Site
  all = sites_seen sites

  abbrev test : ℕ → Site → Bool
  test = large_component sources all

  rest : sites_seen (drop i sites) ≡ site_seen x ∷ sites_seen (drop (i + 1) sites)
  rest = ap sites_seen (left_with sites i x lt is)

  -- the component at which the test holds is at the first place
  pub found : (o : Option ℕ) → test i (site_seen x) ≡ true → first_place test i (sites_seen (drop i sites)) ≡ o → Some i ≡ o
  found o t e = sym (ap (first_place test i) rest ∙ first) ∙ e
    where
      first : first_place test i (site_seen x ∷ sites_seen (drop (i + 1) sites)) ≡ Some i
      first = rw t refl

  -- a component at which it doesn't is passed over
  pub passed : (o : Option ℕ) → test i (site_seen x) ≡ false → first_place test i (sites_seen (drop i sites)) ≡ o → first_place test (i + 1) (sites_seen (drop (i + 1) sites)) ≡ o
  passed o f e = sym (ap (first_place test i) rest ∙ later) ∙ e
    where
      later : first_place test i (site_seen x ∷ sites_seen (drop (i + 1) sites)) ≡ first_place test (i + 1) (sites_seen (drop (i + 1) sites))
      later = rw f refl

  next : take (i + 1) all ≡ take i all ++ site_seen x ∷ []
  next =
      take_more all i (site_seen x) (let n = length-map sites site_seen in omega (arith, lt, n))
      ∙ ap (λ (y : Site). take i all ++ y ∷ []) (get_or-map site_seen sites i x (site_seen x) lt ∙ ap site_seen (sym is))

  -- the test by the attributes and the replicas so far
  pub tested : (names : List Name) (replicas : ℕ) → names ≡ attributes_in sources (take i all) → replicas ≡ replica_sum (take i all) → too_many_component names replicas i (site_seen x) ≡ test i (site_seen x)
  tested names replicas e f = ap (λ (ns : List Name). too_many_component ns replicas i (site_seen x)) e ∙ ap (λ (n : ℕ). too_many_component (attributes_in sources (take i all)) n i (site_seen x)) f

  columns_next : site_columns (take (i + 1) all) ≡ site_columns (take i all) ++ side_columns x.ports
  columns_next =
      ap site_columns next
      ∙ flat_map-append (λ (site : Site). side_columns site.ports) (take i all) (site_seen x ∷ [])
      ∙ ap (λ (ns : List Name). site_columns (take i all) ++ ns) (append-nil (side_columns x.ports))

  pub attributes_next : (names new : List Name) → names ≡ attributes_in sources (take i all) → new ≡ with_columns names (side_columns x.ports) → new ≡ attributes_in sources (take (i + 1) all)
  attributes_next names new e f =
      f
      ∙ ap (λ (ns : List Name). with_columns ns (side_columns x.ports)) e
      ∙ sym (fold-append added (with_columns [] (source_columns sources)) (site_columns (take i all)) (side_columns x.ports))
      ∙ ap (with_columns (with_columns [] (source_columns sources))) (sym columns_next)

  pub replicas_next : (replicas count : ℕ) → replicas ≡ replica_sum (take i all) → count ≡ count_from x.entry.now.replicas → replicas + count ≡ replica_sum (take (i + 1) all)
  replicas_next replicas count e f =
      let more = ap replica_sum next ∙ sum_by-append (λ (site : Site). count_from site.entry.replicas) (take i all) (site_seen x ∷ []) in
      omega (arith, more, e, f)
