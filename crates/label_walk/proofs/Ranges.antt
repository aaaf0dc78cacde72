-- Numbers of parts in a valid topology are those of parts that are there.
use Rattle.std.proofs.Common.{◌≡◌, ◌<◌, ℕ, Some, List, length, get_or, map, filter, subst}
use Rattle.blz_value.proofs.Membership.{Has-get_or, Has-from_filter, Has-from_flat_map, Has-from_map}
use Rattle.blz_value.specs.Bits.{bit_of, meets}
use Rattle.blz_value.specs.Graph.{is_in}
use Rattle.topo_forms.specs.Regions.{regions, region_members}
use Rattle.topo_forms.specs.Valid.{IsValid}
use Rattle.blz_value.specs.NumberSets.{below}
use Rattle.blz_value.proofs.Ranges.{Has-below as from_below}
use Rattle.topo_forms.specs.View.{View, End, component_at, ends_of, origin_of, stream_numbers}
use Rattle.topo_forms.proofs.Regions.RegionSets.{member_within}
use Rattle.label_walk.specs.Paths.{AreComponents, AreInputs, IsInput, region_at, region_inputs, ends_in, is_from_outside}

pub output_within : (v : View) → IsValid v → (s c o : ℕ) → s < length v.streams → origin_of v s ≡ Some (c, o) → o < length (component_at v c).outputs
output_within v valid s c o lt e = (valid.numbered.origins s (c, o) lt e).1

-- the members of a region are components
pub members_within : (v : View) → IsValid v → (r : ℕ) → r < length (regions v) → AreComponents v (region_members v r)
members_within v valid r lt k within =
    let has = Has-from_filter (λ n. meets (bit_of n) (region_at v r)) (get_or (region_members v r) k 0) (below 64) (Has-get_or (region_members v r) k 0 within) in
    member_within v valid (region_at v r) (get_or (region_members v r) k 0) (Has-get_or (regions v) r 0 lt) has.1

-- the inputs of a set are streams with a component and a port
pub inputs_within : (v : View) → IsValid v → (set : ℕ) → AreInputs v (region_inputs v set)
inputs_within v valid set k within =
    let inputs : List (ℕ × End) = region_inputs v set in
    let input : ℕ × End = get_or (region_inputs v set) k (0, (0, 0)) in
    let from = Has-from_flat_map (λ s. map (λ (end : End). (s, end)) (ends_in v set s)) input (filter (is_from_outside v set) (stream_numbers v)) (Has-get_or inputs k (0, (0, 0)) within) in
    let outside = Has-from_filter (is_from_outside v set) from.0 (stream_numbers v) from.1 in
    let made = Has-from_map (λ (end : End). (from.0, end)) input (ends_in v set from.0) from.2 in
    let kept = Has-from_filter (λ (end : End). is_in end.0 set) made.0 (ends_of v from.0) made.1 in
    let lt : from.0 < length v.streams = from_below (length v.streams) from.0 outside.0 in
    let there = valid.numbered.ends from.0 made.0 lt kept.0 in
    subst (λ (i : ℕ × End). IsInput v i) made.2 (record { stream = lt; component = there.0; port = there.1 })
