use Rattle.std.proofs.Common.{◌≡◌, ◌≤◌, map, length, ℕ, List, refl, arith, ap, sym, ◌∙◌}
use Rattle.std.specs.List.{position_or_len}
use Rattle.topo_graph.specs.Code.Feeders.{all_feeders}
use Rattle.blz_value.specs.Regions.{sets_by, regions_by, is_cyclic_by}
use Rattle.blz_value.specs.Graph.{is_in}
use Rattle.topo_forms.specs.Kept.{view_kept}
use Rattle.topo_forms.specs.Regions.{regions}
use Rattle.blz_value.specs.NumberSets.{below}
use Rattle.topo_graph.proofs.FeedersTold.{feeders_told}
use Rattle.topo_graph.proofs.RegionsFound.{few_found, regions_found, cyclic_found, cycles_found, numbers_found}
use Rattle.topo_graph.proofs.finding.regions_with.Goals as goal

pub numbers_of-requires : goal.numbers_of-requires
numbers_of-requires c =
    let fed : c.in_ok-feeding.feeding.items ≡ all_feeders (view_kept c.args.kept.now) = c.in_ok-feeding.ensures ∙ feeders_told (view_kept c.args.kept.now) c.requires.ends c.args.into.now c.requires.into in
    let walked : c.in_ok-regions.regions.items ≡ regions_by c.in_ok-feeding.feeding.items c.in_ok-sets.sets.items (length c.in_ok-feeding.feeding.items) (length c.in_ok-feeding.feeding.items) 0 = rw (c.deref-2.ensures.value, c.deref-3.ensures.value) at c.in_ok-regions.ensures in
    let few : length c.in_ok-regions.regions.items ≤ 64 = few_found (view_kept c.args.kept.now) c.requires.ends c.in_ok-feeding.feeding.items fed (length c.in_ok-feeding.feeding.items) refl c.in_ok-sets.sets.items c.in_ok-regions.regions.items walked in
    let same : c.deref-8.result.now ≡ c.in_ok-regions.regions.items = c.deref-8.ensures.value in
    omega (arith, few, ap (λ (l : List ℕ). length l) same)

pub returns-clause-numbers : goal.returns-clause-numbers
returns-clause-numbers c =
    let fed : c.in_ok-feeding.feeding.items ≡ all_feeders (view_kept c.args.kept.now) = c.in_ok-feeding.ensures ∙ feeders_told (view_kept c.args.kept.now) c.requires.ends c.args.into.now c.requires.into in
    let made : c.in_ok-sets.sets.items ≡ sets_by c.in_ok-feeding.feeding.items = rw c.deref.ensures.value at c.in_ok-sets.ensures in
    let walked : c.in_ok-regions.regions.items ≡ regions_by c.in_ok-feeding.feeding.items c.in_ok-sets.sets.items (length c.in_ok-feeding.feeding.items) (length c.in_ok-feeding.feeding.items) 0 = rw (c.deref-2.ensures.value, c.deref-3.ensures.value) at c.in_ok-regions.ensures in
    let found : c.in_ok-regions.regions.items ≡ regions (view_kept c.args.kept.now) = regions_found (view_kept c.args.kept.now) c.requires.ends c.in_ok-feeding.feeding.items fed c.in_ok-sets.sets.items c.in_ok-regions.regions.items made walked in
    let count : c.len-count.result ≡ length c.in_ok-feeding.feeding.items = c.len-count.ensures ∙ sym c.deref.ensures.len ∙ ap (λ (l : List ℕ). length l) c.deref.ensures.value in
    let numbers : c.in_ok-numbers.numbers.items ≡ map (λ k. position_or_len (is_in k) c.in_ok-regions.regions.items) (below (length c.in_ok-feeding.feeding.items)) = rw (c.deref-8.ensures.value, count) at c.in_ok-numbers.ensures in
    numbers_found (view_kept c.args.kept.now) c.requires.ends c.in_ok-feeding.feeding.items fed c.in_ok-regions.regions.items c.in_ok-numbers.numbers.items found numbers

pub returns-clause-cycles : goal.returns-clause-cycles
returns-clause-cycles c =
    let fed : c.in_ok-feeding.feeding.items ≡ all_feeders (view_kept c.args.kept.now) = c.in_ok-feeding.ensures ∙ feeders_told (view_kept c.args.kept.now) c.requires.ends c.args.into.now c.requires.into in
    let made : c.in_ok-sets.sets.items ≡ sets_by c.in_ok-feeding.feeding.items = rw c.deref.ensures.value at c.in_ok-sets.ensures in
    let count : c.len-count.result ≡ length c.in_ok-feeding.feeding.items = c.len-count.ensures ∙ sym c.deref.ensures.len ∙ ap (λ (l : List ℕ). length l) c.deref.ensures.value in
    let cycles : c.in_ok-cycles.cycles.items ≡ map (is_cyclic_by c.in_ok-feeding.feeding.items (length c.in_ok-feeding.feeding.items)) c.in_ok-sets.sets.items = rw (c.deref-6.ensures.value, c.deref-7.ensures.value, count) at c.in_ok-cycles.ensures in
    cycles_found (view_kept c.args.kept.now) c.requires.ends c.in_ok-feeding.feeding.items fed c.in_ok-sets.sets.items c.in_ok-cycles.cycles.items made cycles

pub returns-clause-regions : goal.returns-clause-regions
returns-clause-regions c =
    let fed : c.in_ok-feeding.feeding.items ≡ all_feeders (view_kept c.args.kept.now) = c.in_ok-feeding.ensures ∙ feeders_told (view_kept c.args.kept.now) c.requires.ends c.args.into.now c.requires.into in
    let made : c.in_ok-sets.sets.items ≡ sets_by c.in_ok-feeding.feeding.items = rw c.deref.ensures.value at c.in_ok-sets.ensures in
    let walked : c.in_ok-regions.regions.items ≡ regions_by c.in_ok-feeding.feeding.items c.in_ok-sets.sets.items (length c.in_ok-feeding.feeding.items) (length c.in_ok-feeding.feeding.items) 0 = rw (c.deref-2.ensures.value, c.deref-3.ensures.value) at c.in_ok-regions.ensures in
    regions_found (view_kept c.args.kept.now) c.requires.ends c.in_ok-feeding.feeding.items fed c.in_ok-sets.sets.items c.in_ok-regions.regions.items made walked

pub returns-clause-cyclic : goal.returns-clause-cyclic
returns-clause-cyclic c =
    let fed : c.in_ok-feeding.feeding.items ≡ all_feeders (view_kept c.args.kept.now) = c.in_ok-feeding.ensures ∙ feeders_told (view_kept c.args.kept.now) c.requires.ends c.args.into.now c.requires.into in
    let made : c.in_ok-sets.sets.items ≡ sets_by c.in_ok-feeding.feeding.items = rw c.deref.ensures.value at c.in_ok-sets.ensures in
    let walked : c.in_ok-regions.regions.items ≡ regions_by c.in_ok-feeding.feeding.items c.in_ok-sets.sets.items (length c.in_ok-feeding.feeding.items) (length c.in_ok-feeding.feeding.items) 0 = rw (c.deref-2.ensures.value, c.deref-3.ensures.value) at c.in_ok-regions.ensures in
    let found : c.in_ok-regions.regions.items ≡ regions (view_kept c.args.kept.now) = regions_found (view_kept c.args.kept.now) c.requires.ends c.in_ok-feeding.feeding.items fed c.in_ok-sets.sets.items c.in_ok-regions.regions.items made walked in
    let count : c.len-count.result ≡ length c.in_ok-feeding.feeding.items = c.len-count.ensures ∙ sym c.deref.ensures.len ∙ ap (λ (l : List ℕ). length l) c.deref.ensures.value in
    let cyclic : c.in_ok-cyclic.cyclic.items ≡ map (is_cyclic_by c.in_ok-feeding.feeding.items (length c.in_ok-feeding.feeding.items)) c.in_ok-regions.regions.items = rw (c.deref-4.ensures.value, c.deref-5.ensures.value, count) at c.in_ok-cyclic.ensures in
    cyclic_found (view_kept c.args.kept.now) c.requires.ends c.in_ok-feeding.feeding.items fed c.in_ok-regions.regions.items c.in_ok-cyclic.cyclic.items found cyclic
