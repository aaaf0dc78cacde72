-- The regions that are found are those of the view.
use Rattle.std.proofs.Common.{◌≡◌, ◌≤◌, ℕ, zero, suc, Bool, Option, None, Some, List, [], ◌∷◌, map, length, get_or, refl, arith, ap, sym, ◌∙◌, bit_or}
use Rattle.std.specs.List.{enumerate_from, position_or_len, range_with_len}
use Rattle.std.proofs.lemmas.List.FromFn.{length-map-range_with_len}
use Rattle.bloom_forms.proofs.ByNumber.NumbersLemmas.{map-places}
use Rattle.topo_graph.specs.Code.Feeders.{feeders, all_feeders}
use Rattle.blz_value.specs.Regions.{feeding_arrow, ups_by, all_regions, sets_by, region_by, next_by, regions_by, is_cyclic_by}
use Rattle.topo_forms.specs.Found.{HasEnds}
use Rattle.blz_value.specs.Graph.{arrows, is_in, up, region, is_cyclic_set}
use Rattle.topo_forms.specs.Regions.{edges, regions, region_of, region_set, is_in_cycle, is_cyclic}
use Rattle.blz_value.specs.NumberSets.{below}
use Rattle.blz_value.proofs.Maps.{same_map as map_on}
use Rattle.blz_value.proofs.Ranges.{Has-below as from_below}
use Rattle.blz_value.proofs.Lists.{map_twice}
use Rattle.topo_forms.specs.View.{View, component_numbers}
use Rattle.topo_graph.proofs.Feeding.{feeder_arrows}
use Rattle.topo_graph.proofs.FeedingRegions.{ups, sets, region-same, regions-same, cyclic-same}
use Rattle.topo_forms.proofs.Lists.Tables.{placed, numbered}

-- a list by its places
table_places : {X Y : Type 0} (f : X → Y) (d : X) (xs : List X) → map (λ k. f (get_or xs k d)) (range_with_len 0 (length xs)) ≡ map f xs
table_places f d xs = map-places f d xs (length xs) refl

abbrev continued : (feeding sets : List ℕ) → (count left done : ℕ) → Option ℕ → List ℕ
continued feeding ss count left done None = []
continued feeding ss count left done (Some c) = get_or ss c 0 ∷ regions_by feeding ss count left (bit_or done (get_or ss c 0))

-- at most as many regions as may be
regions_few : (feeding sets : List ℕ) (count left done : ℕ) → length (regions_by feeding sets count left done) ≤ left
regions_few feeding sets count zero done = omega arith
regions_few feeding sets count (suc left) done = go (next_by feeding sets count done) (λ d. regions_few feeding sets count left d)
  where
    go : (o : Option ℕ) → ((d : ℕ) → length (regions_by feeding sets count left d) ≤ left) → length (continued feeding sets count left done o) ≤ suc left
    go None more = omega arith
    go (Some c) more = omega (arith, more (bit_or done (get_or sets c 0)))

pub few_regions : (feeding sets : List ℕ) (count : ℕ) → count ≤ 64 → length (regions_by feeding sets count count 0) ≤ 64
few_regions feeding sets count few = omega (arith, few, regions_few feeding sets count count 0)

module _ (v : View) where
  pub count_is : length (all_feeders v) ≡ length v.components
  count_is = length-map-range_with_len (feeders v) 0 (length v.components)

  module _ (given : HasEnds v) where
    arrows_are : map feeding_arrow (enumerate_from 0 (all_feeders v)) ≡ feeder_arrows v
    arrows_are = placed (feeders v) feeding_arrow (length v.components)

    ups_are : ups_by (all_feeders v) ≡ ups v given
    ups_are =
        let arrows = arrows_are in
        let count = count_is in
        λ i. map (up (arrows i)) (below (count i))

    length_ups : length (ups v given) ≡ length v.components
    length_ups = length-map-range_with_len (up (feeder_arrows v)) 0 (length v.components)

    -- the region of each component
    pub sets_are : sets_by (all_feeders v) ≡ map (region (arrows (edges v)) (length v.components)) (below (length v.components))
    sets_are =
        ap all_regions ups_are
        ∙ numbered (region_by (ups v given) (length (ups v given))) (ups v given)
        ∙ ap (λ (m : ℕ). map (region_by (ups v given) m) (below m)) length_ups
        ∙ map_on (region_by (ups v given) (length v.components)) (region (arrows (edges v)) (length v.components)) (below (length v.components)) (λ c has. region-same v given c (from_below (length v.components) c has))

    -- the regions by their numbers
    pub regions_are : regions_by (all_feeders v) (sets_by (all_feeders v)) (length (all_feeders v)) (length (all_feeders v)) 0 ≡ regions v
    unfolding regions
    regions_are =
        let count = count_is in
        let sets = sets_are in
        (λ i. regions_by (all_feeders v) (sets i) (count i) (count i) 0) ∙ regions-same v given (length v.components) 0

    cyclic_sets : (ss : List ℕ) → map (is_cyclic_by (all_feeders v) (length (all_feeders v))) ss ≡ map (is_cyclic_set (edges v)) ss
    cyclic_sets ss = ap (λ (m : ℕ). map (is_cyclic_by (all_feeders v) m) ss) count_is ∙ map_on (is_cyclic_by (all_feeders v) (length v.components)) (is_cyclic_set (edges v)) ss (λ set has. cyclic-same v given set)

    -- whether each region is cyclic
    pub cyclic_are : map (is_cyclic_by (all_feeders v) (length (all_feeders v))) (regions v) ≡ map (is_cyclic v) (below (length (regions v)))
    cyclic_are = cyclic_sets (regions v) ∙ sym (table_places (is_cyclic_set (edges v)) 0 (regions v))

    -- whether each component is in a cyclic region
    pub cycles_are : map (is_cyclic_by (all_feeders v) (length (all_feeders v))) (sets_by (all_feeders v)) ≡ map (is_in_cycle v) (component_numbers v)
    unfolding is_in_cycle region_set
    cycles_are =
        cyclic_sets (sets_by (all_feeders v))
        ∙ ap (map (is_cyclic_set (edges v))) sets_are
        ∙ map_twice (is_cyclic_set (edges v)) (region (arrows (edges v)) (length v.components)) (below (length v.components))

-- ---- what the code gives, step by step

module _ (v : View) (given : HasEnds v) (feeding : List ℕ) (fed : feeding ≡ all_feeders v) where
  pub few_found : (count : ℕ) → count ≡ length feeding → (ss found : List ℕ) → found ≡ regions_by feeding ss count count 0 → length found ≤ 64
  few_found count is ss found made =
      let small : count ≤ 64 = omega (arith, is, ap (λ (f : List ℕ). length f) fed, count_is v, given.few_components) in
      omega (arith, ap (λ (f : List ℕ). length f) made, few_regions feeding ss count small)

  pub regions_found : (ss found : List ℕ) → ss ≡ sets_by feeding → found ≡ regions_by feeding ss (length feeding) (length feeding) 0 → found ≡ regions v
  regions_found ss found made walked =
      walked
      ∙ ap (λ (s : List ℕ). regions_by feeding s (length feeding) (length feeding) 0) made
      ∙ ap (λ (f : List ℕ). regions_by f (sets_by f) (length f) (length f) 0) fed
      ∙ regions_are v given

  pub cyclic_found : (found : List ℕ) (cyclic : List Bool) → found ≡ regions v → cyclic ≡ map (is_cyclic_by feeding (length feeding)) found → cyclic ≡ map (is_cyclic v) (below (length (regions v)))
  cyclic_found found cyclic are made =
      made
      ∙ ap (λ (r : List ℕ). map (is_cyclic_by feeding (length feeding)) r) are
      ∙ ap (λ (f : List ℕ). map (is_cyclic_by f (length f)) (regions v)) fed
      ∙ cyclic_are v given

  pub cycles_found : (ss : List ℕ) (cycles : List Bool) → ss ≡ sets_by feeding → cycles ≡ map (is_cyclic_by feeding (length feeding)) ss → cycles ≡ map (is_in_cycle v) (component_numbers v)
  cycles_found ss cycles made are =
      are
      ∙ ap (λ (s : List ℕ). map (is_cyclic_by feeding (length feeding)) s) made
      ∙ ap (λ (f : List ℕ). map (is_cyclic_by f (length f)) (sets_by f)) fed
      ∙ cycles_are v given

  pub numbers_found : (found numbers : List ℕ) → found ≡ regions v → numbers ≡ map (λ c. position_or_len (is_in c) found) (below (length feeding)) → numbers ≡ map (region_of v) (component_numbers v)
  numbers_found found numbers are made =
      made
      ∙ ap (λ (r : List ℕ). map (λ c. position_or_len (is_in c) r) (below (length feeding))) are
      ∙ ap (λ (n : ℕ). map (region_of v) (below n)) (ap (λ (f : List ℕ). length f) fed ∙ count_is v)
