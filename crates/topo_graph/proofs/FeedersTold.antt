-- The components that feed each, told the streams into each, are those that feed it.
use Rattle.std.proofs.Common.{◌≡◌, ◌<◌, ℕ, List, length, is_some, not, ◌&&◌, ap, sym, ◌∙◌}
use Rattle.blz_value.specs.Arrows.{bit_if, with_all}
use Rattle.blz_value.specs.Graph.{is_in}
use Rattle.blz_value.proofs.Maps.{same_map}
use Rattle.blz_value.proofs.Ranges.{Has-below, at_below}
use Rattle.topo_graph.specs.Code.Feeders.{counts_into, counts_by, sender_of, feeders, all_feeders, feeders_by, feeders_at, all_feeders_by}
use Rattle.topo_graph.specs.Code.Lines.{into_set, all_into}
use Rattle.topo_forms.specs.Found.{HasEnds}
use Rattle.topo_forms.specs.View.{View, origin_of, is_order, goes_into, stream_numbers, component_numbers}
use Rattle.topo_forms.proofs.Lists.Tables.{where-is}
use Rattle.topo_graph.proofs.PortsFound.{set_of_passing}

module _ (v : View) (given : HasEnds v) where
  -- a stream is among those into a component exactly where it goes there
  pub in_into : (c s : ℕ) → s < length v.streams → is_in s (into_set v c) ≡ goes_into v c s
  in_into c s lt = ap (is_in s) (sym (set_of_passing (goes_into v c) 0 (stream_numbers v))) ∙ where-is (goes_into v c) (length v.streams) s given.few_streams lt

  feeders_same : (c : ℕ) → feeders_by v (into_set v c) c ≡ feeders v c
  feeders_same c = ap (with_all 0) (same_map (λ s. bit_if (counts_by v (into_set v c) c s) (sender_of v s)) (λ s. bit_if (counts_into v c s) (sender_of v s)) (stream_numbers v) (λ s has.
      let one : is_in s (into_set v c) ≡ goes_into v c s = in_into c s (Has-below (length v.streams) s has) in
      λ i. bit_if (is_some (origin_of v s) && (not (is_order v c) && one i)) (sender_of v s)))

  pub feeders_told : (into : List ℕ) → into ≡ all_into v → all_feeders_by v into ≡ all_feeders v
  feeders_told into is =
      ap (all_feeders_by v) is
      ∙ same_map (feeders_at v (all_into v)) (feeders v) (component_numbers v) (λ c has.
      ap (λ (set : ℕ). feeders_by v set c) (at_below (into_set v) (length v.components) c 0 (Has-below (length v.components) c has)) ∙ feeders_same c)
