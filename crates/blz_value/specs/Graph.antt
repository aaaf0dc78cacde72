-- Regions of a graph, and their numbers. Nodes are numbers below a count; a set of nodes is one number, whose bit k says that node k is in it.
use Rattle.std.specs.Prelude.{ℕ, zero, suc, ◌<◌, ◌≡◌, ◌⊎◌, ◌==◌, ◌&&◌, not, nat_lt, Bool, true, if◌then◌else◌, Option, None, Some, List, [], ◌∷◌, map, length, bit_or}
use Rattle.std.specs.List.{list_any, find}
use Rattle.blz_value.specs.Members.{Has}
use Rattle.blz_value.specs.declared.attrs.Fd.{Fd}
use Rattle.blz_value.specs.Bits.{bit_of, meets, members}
use Rattle.blz_value.specs.Closure.{closure}
use Rattle.blz_value.specs.Arrows.{arrow_from}
use Rattle.blz_value.specs.NumberSets.{below, set_where}

-- who feeds, and whom
abbrev pub Edge : Type 0
Edge = ℕ × ℕ

-- who has the fed one has the feeder
abbrev pub arrow : Edge → Fd
arrow e = arrow_from (bit_of e.1) (bit_of e.0)

abbrev pub arrows : List Edge → List Fd
arrows edges = map arrow edges

abbrev pub is_in : ℕ → ℕ → Bool
is_in n set = meets (bit_of n) set

-- a node, and those that reach it
abbrev pub up : List Fd → ℕ → ℕ
up arrows n = closure (bit_of n) arrows

-- each reaches the other
abbrev pub together : List Fd → ℕ → ℕ → Bool
together arrows c d = is_in d (up arrows c) && is_in c (up arrows d)

-- the region of a node: those of all nodes that are together with it
abbrev pub region : List Fd → (count node : ℕ) → ℕ
region arrows count c = set_where (together arrows c) (below count)

-- an edge leads into a region from a node outside that has no number
abbrev pub is_blocked : List Edge → (set done : ℕ) → Bool
is_blocked edges set done = list_any (λ e. is_in e.1 set && (not (is_in e.0 done) && not (is_in e.0 set))) edges

-- a node has no number, and its region may be next
abbrev pub is_next : List Edge → List Fd → (count done node : ℕ) → Bool
is_next edges arrows count done c = not (is_in c done) && not (is_blocked edges (region arrows count c) done)

-- the first node whose region may be next
abbrev pub next : List Edge → List Fd → (count done : ℕ) → Option ℕ
next edges arrows count done = find (is_next edges arrows count done) (below count)

-- the regions that get numbers from here on, at most `left`
abbrev pub regions_from : List Edge → List Fd → (count left done : ℕ) → List ℕ
regions_from edges arrows count zero done = []
regions_from edges arrows count (suc left) done = elim (next edges arrows count done) [ None ↦ [] | Some c ↦ region arrows count c ∷ regions_from edges arrows count left (bit_or done (region arrows count c)) ]

-- the regions by their numbers: each time, of those that no other region without number feeds, the one with the first member
abbrev pub numbered_regions : List Edge → (count : ℕ) → List ℕ
numbered_regions edges count = regions_from edges (arrows edges) count count 0

-- a region has two or more members, or a member that feeds itself
abbrev pub is_cyclic_set : List Edge → (set : ℕ) → Bool
is_cyclic_set edges set = if nat_lt 1 (length (members set)) then true else list_any (λ e. e.0 == e.1 && is_in e.0 set) edges

-- one of the sets has the node
abbrev pub SomeHas : ℕ → List ℕ → Type 0
SomeHas c [] = ⊥
SomeHas c (set ∷ sets) = (is_in c set ≡ true) ⊎ SomeHas c sets

-- each set is the region of its members
abbrev pub AreRegions : List Edge → (count : ℕ) → List ℕ → Type 0
AreRegions edges count [] = Unit {0}
AreRegions edges count (set ∷ sets) = ((c d : ℕ) → c < count → d < count → is_in c set ≡ true → is_in d set ≡ together (arrows edges) c d) × AreRegions edges count sets

-- who feeds a set is in it or in an earlier one
abbrev pub InOrder : List Edge → (done : ℕ) → List ℕ → Type 0
InOrder edges done [] = Unit {0}
InOrder edges done (set ∷ sets) = ((e : Edge) → Has e edges → is_in e.1 set ≡ true → (is_in e.0 done ≡ true) ⊎ (is_in e.0 set ≡ true)) × InOrder edges (bit_or done set) sets

-- each node is in a region, and regions stand in an order in which each comes after those that feed it
pub record IsNumbered (count : ℕ) (edges : List Edge) (sets : List ℕ) : Type 0 where
  pub cover : (c : ℕ) → c < count → SomeHas c sets
  pub classes : AreRegions edges count sets
  pub order : InOrder edges 0 sets
