-- The streams into each port, as they are found, are those that go to it.
use Rattle.std.proofs.Common.{◌≡◌, ◌≤◌, ◌<◌, ◌++◌, ◌&&◌, ◌||◌, inl, inr, ℕ, nat_eq, is_some, cond, if◌then◌else◌, Bool, true, false, List, [], ◌∷◌, map, filter, length, get_or, bit_or, refl, arith, ap, ◌∙◌, sym}
use Rattle.std.specs.List.{flat_map, list_all, list_any}
use Rattle.std.proofs.lemmas.Bool.{cases_Bool, cases_lt}
use Rattle.std.proofs.lemmas.Grind.{common_steps}
use Rattle.std.proofs.lemmas.List.{get_or_past, map-append}
use Rattle.std.proofs.lemmas.List.Elements.{filter-append}
use Rattle.std.proofs.lemmas.Nat.{le_or_l, le_or_r, pow_pos}
use Rattle.std.proofs.lemmas.Nat.Bits.{bit_at_or, same_from_bits}
use Rattle.blz_value.specs.Members.{Has}
use Rattle.blz_value.proofs.Membership.{Has-from_filter}
use Rattle.blz_value.specs.Bits.{bit_of}
use Rattle.blz_value.proofs.Members.{bit_of-is, or-empty}
use Rattle.blz_value.proofs.Within.{or-absorbs, within-or_r}
use Rattle.blz_value.specs.Arrows.{bit_if, with_all}
use Rattle.topo_graph.specs.declared.ports.Feed.{Feed}
use Rattle.topo_graph.specs.Code.Paths.{is_some_set}
use Rattle.topo_graph.specs.Code.Ports.{feed_of, feeds_in, feeds_at, feeds_of, sets_into, set_of_port, row_of, all_rows, at_port}
use Rattle.topo_forms.specs.Carried.{streams_towards}
use Rattle.topo_forms.specs.Found.{into_port, into_ports}
use Rattle.blz_value.specs.NumberSets.{set_of_numbers}
use Rattle.blz_value.proofs.Maps.{same_map as map_on}
use Rattle.blz_value.proofs.Ranges.{Has-below as from_below, flat_below_more, at_below}
use Rattle.blz_value.proofs.Lists.{map_same, same_count as same_number}
use Rattle.topo_forms.specs.View.{View, End, Component, component_at, component_numbers, no_component, ends_of, goes_to, has_stream, note_at, port_numbers, ports_towards, same_end, stream_numbers, streams_to}

-- ---- the loop over the streams

pub ruleset feed_steps = (common_steps, flat_below_more)

-- ---- unions

-- a union of two lists of sets
with_all-append : (set : ℕ) (xs ys : List ℕ) → with_all set (xs ++ ys) ≡ with_all (with_all set xs) ys
with_all-append set [] ys = refl
with_all-append set (x ∷ xs) ys = with_all-append (bit_or set x) xs ys

or_assoc : (a b c : ℕ) → bit_or a (bit_or b c) ≡ bit_or (bit_or a b) c
or_assoc a b c = same_from_bits (bit_or a (bit_or b c)) (bit_or (bit_or a b) c) (λ k. omega (arith, bit_at_or a (bit_or b c) k, bit_at_or b c k, bit_at_or (bit_or a b) c k, bit_at_or a b k))

or-with_all : (a b : ℕ) (sets : List ℕ) → bit_or a (with_all b sets) ≡ with_all (bit_or a b) sets
or-with_all a b [] = refl
or-with_all a b (x ∷ sets) = or-with_all a (bit_or b x) sets ∙ ap (λ (set : ℕ). with_all set sets) (or_assoc a b x)

-- a union of unions
union_of_unions : (f : ℕ → List ℕ) (set : ℕ) (ps : List ℕ) → with_all set (map (λ p. set_of_numbers (f p)) ps) ≡ with_all set (map bit_of (flat_map f ps))
union_of_unions f set [] = refl
union_of_unions f set (p ∷ ps) =
    union_of_unions f (bit_or set (set_of_numbers (f p))) ps
    ∙ ap (λ (s : ℕ). with_all s (map bit_of (flat_map f ps))) (or-with_all set 0 (map bit_of (f p)) ∙ ap (λ (s : ℕ). with_all s (map bit_of (f p))) (or-empty set))
    ∙ sym (with_all-append set (map bit_of (f p)) (map bit_of (flat_map f ps)))
    ∙ ap (with_all set) (sym (map-append bit_of (f p) (flat_map f ps)))

-- one set, as often as a test holds
union_where : (b set : ℕ) (test : End → Bool) (ends : List End) → with_all set (map (λ (end : End). b) (filter test ends)) ≡ (if list_any test ends then bit_or set b else set)
union_where b set test [] = refl
union_where b set test (e ∷ ends) = by (test e) (union_where b set test ends) (union_where b (bit_or set b) test ends)
  where
    once : (y : Bool) → (if y then bit_or (bit_or set b) b else bit_or set b) ≡ bit_or set b
    once true = or-absorbs (bit_or set b) b (within-or_r set b)
    once false = refl

    by : (x : Bool)
        → with_all set (map (λ (end : End). b) (filter test ends)) ≡ (if list_any test ends then bit_or set b else set)
        → with_all (bit_or set b) (map (λ (end : End). b) (filter test ends)) ≡ (if list_any test ends then bit_or (bit_or set b) b else bit_or set b)
        → with_all set (map (λ (end : End). b) (cond x (e ∷ filter test ends) (filter test ends))) ≡ (if x || list_any test ends then bit_or set b else set)
    by true one more = more ∙ once (list_any test ends)
    by false one more = one

-- ---- the streams into a port

-- the ends of one stream
sets_of_stream : (c p b : ℕ) (ends : List End) → sets_into (feeds_in ends c b) p ≡ map (λ (end : End). b) (filter (same_end (c, p)) ends)
sets_of_stream c p b [] = refl
sets_of_stream c p b (e ∷ ends) = by (nat_eq c e.0) (sets_of_stream c p b ends)
  where
    own : (y : Bool) → sets_into (feeds_in ends c b) p ≡ map (λ (end : End). b) (filter (same_end (c, p)) ends)
        → map (λ (feed : Feed). feed.stream) (cond y (feed_of b e ∷ filter (λ (feed : Feed). nat_eq p feed.port) (feeds_in ends c b)) (filter (λ (feed : Feed). nat_eq p feed.port) (feeds_in ends c b)))
        ≡ map (λ (end : End). b) (cond y (e ∷ filter (same_end (c, p)) ends) (filter (same_end (c, p)) ends))
    own true rest = ap (λ (bs : List ℕ). b ∷ bs) rest
    own false rest = rest

    by : (x : Bool) → sets_into (feeds_in ends c b) p ≡ map (λ (end : End). b) (filter (same_end (c, p)) ends)
        → sets_into (map (feed_of b) (cond x (e ∷ filter (λ (end : End). nat_eq c end.0) ends) (filter (λ (end : End). nat_eq c end.0) ends))) p
        ≡ map (λ (end : End). b) (cond (x && nat_eq p e.1) (e ∷ filter (same_end (c, p)) ends) (filter (same_end (c, p)) ends))
    by true rest = own (nat_eq p e.1) rest
    by false rest = rest

sets_into-append : (xs ys : List Feed) (p : ℕ) → sets_into (xs ++ ys) p ≡ sets_into xs p ++ sets_into ys p
sets_into-append xs ys p =
    ap (map (λ (feed : Feed). feed.stream)) (filter-append (λ (feed : Feed). nat_eq p feed.port) xs ys)
    ∙ map-append (λ (feed : Feed). feed.stream) (filter (λ (feed : Feed). nat_eq p feed.port) xs) (filter (λ (feed : Feed). nat_eq p feed.port) ys)

module _ (v : View) (c p : ℕ) where
  -- a stream, where one of its ends is the port
  set_of_stream : (set n : ℕ) → with_all set (sets_into (feeds_at v c n) p) ≡ bit_or set (bit_if (goes_to v c p n) n)
  set_of_stream set n = ap (with_all set) (sets_of_stream c p (bit_of n) (ends_of v n)) ∙ union_where (bit_of n) set (same_end (c, p)) (ends_of v n) ∙ by (goes_to v c p n)
    where
      by : (y : Bool) → (if y then bit_or set (bit_of n) else set) ≡ bit_or set (bit_if y n)
      by true = refl
      by false = sym (or-empty set)

  -- the ends of all streams
  sets_of_streams : (set : ℕ) (ns : List ℕ) → with_all set (sets_into (flat_map (feeds_at v c) ns) p) ≡ with_all set (map (λ n. bit_if (goes_to v c p n) n) ns)
  sets_of_streams set [] = refl
  sets_of_streams set (n ∷ ns) =
      ap (with_all set) (sets_into-append (feeds_at v c n) (flat_map (feeds_at v c) ns) p)
      ∙ with_all-append set (sets_into (feeds_at v c n) p) (sets_into (flat_map (feeds_at v c) ns) p)
      ∙ ap (λ (s : ℕ). with_all s (sets_into (flat_map (feeds_at v c) ns) p)) (set_of_stream set n)
      ∙ sets_of_streams (bit_or set (bit_if (goes_to v c p n) n)) ns

-- the streams into each port of each component
pub rows_found : (v : View) → all_rows v ≡ map (into_ports v) (component_numbers v)
rows_found v = map_same (row_of v) (into_ports v) (λ c. map_same (set_of_port (feeds_of v c)) (into_port v c) (λ p. sets_of_streams v c p 0 (stream_numbers v)) (port_numbers v c)) (component_numbers v)

-- those of some numbers that pass a test
pub set_of_passing : (test : ℕ → Bool) (set : ℕ) (ns : List ℕ) → with_all set (map (λ n. bit_if (test n) n) ns) ≡ with_all set (map bit_of (filter test ns))
set_of_passing test set [] = refl
set_of_passing test set (n ∷ ns) = by (test n) (set_of_passing test set ns) (set_of_passing test (bit_or set (bit_of n)) ns)
  where
    by : (y : Bool) → with_all set (map (λ m. bit_if (test m) m) ns) ≡ with_all set (map bit_of (filter test ns))
        → with_all (bit_or set (bit_of n)) (map (λ m. bit_if (test m) m) ns) ≡ with_all (bit_or set (bit_of n)) (map bit_of (filter test ns))
        → with_all (bit_or set (bit_if y n)) (map (λ m. bit_if (test m) m) ns) ≡ with_all set (map bit_of (cond y (n ∷ filter test ns) (filter test ns)))
    by true out there = there
    by false out there = ap (λ (s : ℕ). with_all s (map (λ m. bit_if (test m) m) ns)) (or-empty set) ∙ out

-- of a port that is there the streams into it are found
at_rows : (v : View) (c p : ℕ) → p < length (component_at v c).ports → at_port (map (into_ports v) (component_numbers v)) c p ≡ set_of_numbers (streams_to v c p)
at_rows v c p lt = elim (cases_lt c (length v.components)) [
  | inl there ↦
      ap (λ (row : List ℕ). get_or row p 0) (at_below (into_ports v) (length v.components) c [] there)
      ∙ at_below (into_port v c) (length (component_at v c).ports) p 0 lt
      ∙ set_of_passing (goes_to v c p) 0 (stream_numbers v)
  | inr past ↦
      let none : length (component_at v c).ports ≡ 0 = ap (λ (x : Component). length x.ports) (get_or_past v.components c no_component past) in
      absurd (omega (arith, lt, none))
]

port_found : (v : View) (c p : ℕ) → p < length (component_at v c).ports → at_port (all_rows v) c p ≡ set_of_numbers (streams_to v c p)
port_found v c p lt = ap (λ (rows : List (List ℕ)). at_port rows c p) (rows_found v) ∙ at_rows v c p lt

-- ---- which sets hold a number

not_empty : (s : ℕ) → 0 < s → is_some_set s ≡ true
not_empty s some = elim (cases_Bool (nat_eq s 0)) [
  | inl t ↦ absurd (omega (arith, some, same_number s 0 t))
  | inr f ↦ rw f refl
]

stays : (set : ℕ) (sets : List ℕ) → 0 < set → 0 < with_all set sets
stays set [] some = some
stays set (x ∷ sets) some = stays (bit_or set x) sets (omega (arith, some, le_or_l set x))

some_where : (test : ℕ → Bool) (ns : List ℕ) → ((n : ℕ) → Has n ns → n < 64) → is_some_set (set_of_numbers (filter test ns)) ≡ list_any test ns
some_where test [] small = refl
some_where test (n ∷ ns) small = by (test n) (some_where test ns (λ m has. small m (inr has)))
  where
    some : 0 < bit_or 0 (bit_of n)
    some = omega (arith, le_or_r 0 (bit_of n), bit_of-is n (small n (inl refl)), pow_pos n)

    by : (y : Bool) → is_some_set (set_of_numbers (filter test ns)) ≡ list_any test ns
        → is_some_set (set_of_numbers (cond y (n ∷ filter test ns) (filter test ns))) ≡ (y || list_any test ns)
    by true rest = not_empty (with_all (bit_or 0 (bit_of n)) (map bit_of (filter test ns))) (stays (bit_or 0 (bit_of n)) (map bit_of (filter test ns)) some)
    by false rest = rest

-- ---- the ports with a note towards an output

module _ (v : View) (c o : ℕ) where
  abbrev towards : List ℕ
  towards = ports_towards v c o

  sets_found : map (at_port (all_rows v) c) towards ≡ map (λ p. set_of_numbers (streams_to v c p)) towards
  sets_found = map_on (at_port (all_rows v) c) (λ p. set_of_numbers (streams_to v c p)) towards (λ p has.
      port_found v c p (from_below (length (component_at v c).ports) p (Has-from_filter (λ q. is_some (note_at v c q o)) p (port_numbers v c) has).0))

  -- the streams into them
  pub behind_found : with_all 0 (map (at_port (all_rows v) c) towards) ≡ set_of_numbers (streams_towards v c o)
  behind_found = ap (with_all 0) sets_found ∙ union_of_unions (streams_to v c) 0 towards

  module _ (few : length v.streams ≤ 64) where
    all_fed : (ps : List ℕ) → list_all is_some_set (map (λ p. set_of_numbers (streams_to v c p)) ps) ≡ list_all (has_stream v c) ps
    all_fed [] = refl
    all_fed (p ∷ ps) =
        let one : is_some_set (set_of_numbers (streams_to v c p)) ≡ has_stream v c p = some_where (goes_to v c p) (stream_numbers v) (λ n has. omega (arith, few, from_below (length v.streams) n has)) in
        let more = all_fed ps in
        λ i. one i && more i

    -- whether each has one
    pub fed_found : list_all is_some_set (map (at_port (all_rows v) c) towards) ≡ list_all (has_stream v c) towards
    fed_found = ap (list_all is_some_set) sets_found ∙ all_fed towards
