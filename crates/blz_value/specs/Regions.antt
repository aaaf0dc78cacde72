-- Regions by the components that feed each.
use Rattle.std.specs.Prelude.{ℕ, zero, suc, ◌&&◌, not, nat_lt, Bool, true, if◌then◌else◌, Option, None, Some, List, [], ◌∷◌, map, length, slice_index_or, bit_or}
use Rattle.std.specs.List.{list_any, find, enumerate_from}
use Rattle.blz_value.specs.declared.attrs.Fd.{Fd}
use Rattle.blz_value.specs.Bits.{bit_of, members}
use Rattle.blz_value.specs.Closure.{within}
use Rattle.blz_value.specs.Arrows.{arrow_from}
use Rattle.blz_value.specs.Graph.{is_in, up}
use Rattle.blz_value.specs.NumberSets.{below, set_where}

-- the arrow of a component, told its feeders
abbrev pub feeding_arrow : ℕ × ℕ → Fd
feeding_arrow place = arrow_from (bit_of place.0) place.1

-- told the sets of those that reach each node: each reaches the other
abbrev pub together_by : (ups : List ℕ) → ℕ → ℕ → Bool
together_by ups c d = is_in d (slice_index_or ups c 0) && is_in c (slice_index_or ups d 0)

-- the region of a node
abbrev pub region_by : (ups : List ℕ) → (count node : ℕ) → ℕ
region_by ups count c = set_where (together_by ups c) (below count)

-- the region of each node
abbrev pub all_regions : (ups : List ℕ) → List ℕ
all_regions ups = map (λ place. region_by ups (length ups) place.0) (enumerate_from 0 ups)

-- the same, told those that feed each
abbrev pub ups_by : (feeding : List ℕ) → List ℕ
ups_by feeding = map (up (map feeding_arrow (enumerate_from 0 feeding))) (below (length feeding))

abbrev pub sets_by : (feeding : List ℕ) → List ℕ
sets_by feeding = all_regions (ups_by feeding)

-- a member of a region has a feeder outside that has no number
abbrev pub is_blocked_by : (feeding : List ℕ) → (count set done : ℕ) → Bool
is_blocked_by feeding count set done = list_any (λ c. is_in c set && not (within (slice_index_or feeding c 0) (bit_or done set))) (below count)

-- a node has no number, and its region may be next
abbrev pub is_next_by : (feeding sets : List ℕ) → (count done node : ℕ) → Bool
is_next_by feeding sets count done c = not (is_in c done) && not (is_blocked_by feeding count (slice_index_or sets c 0) done)

abbrev pub next_by : (feeding sets : List ℕ) → (count done : ℕ) → Option ℕ
next_by feeding sets count done = find (is_next_by feeding sets count done) (below count)

-- the regions that get numbers from here on, at most `left`
abbrev pub regions_by : (feeding sets : List ℕ) → (count left done : ℕ) → List ℕ
regions_by feeding sets count zero done = []
regions_by feeding sets count (suc left) done = elim (next_by feeding sets count done) [ None ↦ [] | Some c ↦ slice_index_or sets c 0 ∷ regions_by feeding sets count left (bit_or done (slice_index_or sets c 0)) ]

-- a region has two or more members, or a member that feeds itself
abbrev pub is_cyclic_by : (feeding : List ℕ) → (count set : ℕ) → Bool
is_cyclic_by feeding count set = if nat_lt 1 (length (members set)) then true else list_any (λ c. is_in c set && is_in c (slice_index_or feeding c 0)) (below count)
