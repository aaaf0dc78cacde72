-- A topology with fewer streams that count: its edges, regions and cycles, and that it is valid.
use Rattle.std.proofs.Common.{◌≡◌, ◌≤◌, ◌<◌, ℕ, not, Bool, true, false, ◌&&◌, ◌||◌, Option, None, Some, List, [], length, map, refl, arith, ap, sym, subst, ◌∙◌}
use Rattle.std.specs.Option.{option_map_or}
use Rattle.std.proofs.lemmas.Bool.{true≢false, false_from_ne_true}
use Rattle.blz_value.specs.declared.attrs.Fd.{Fd}
use Rattle.blz_value.specs.Bits.{bit_of}
use Rattle.blz_value.specs.Closure.{within, IsClosed, IsLeastClosed}
use Rattle.blz_value.proofs.Members.{in-within, meets-within, within-meets, member_small}
use Rattle.blz_value.proofs.Least.{closure-least}
use Rattle.blz_value.proofs.Reached.{closed-map, closure-trans, closure-self}
use Rattle.blz_value.specs.Members.{Has}
use Rattle.blz_value.proofs.Membership.{Has-map, Has-filter, Has-flat_map, Has-from_map, Has-from_filter, Has-from_flat_map}
use Rattle.bloom_forms.proofs.Collections.Chosen.{in_chosen, from_chosen}
use Rattle.bloom_forms.specs.declared.mode.Mode.TheVariants.{Free}
use Rattle.blz_value.specs.Graph.{Edge, arrow, arrows, is_in, up, together, region}
use Rattle.topo_forms.specs.Regions.{edges, edges_of, counting_ends, region_set, is_in_cycle}
use Rattle.blz_value.specs.NumberSets.{below, set_where}
use Rattle.blz_value.proofs.Booleans.{same_truth, not_true as not_so, and_true, both_true}
use Rattle.blz_value.proofs.Ranges.{Has-below as from_below}
use Rattle.topo_forms.specs.Valid.{IsValid}
use Rattle.topo_forms.specs.View.{View, End, Component, component_with_mode, origin_of, ends_of, is_order, mode_of, mode_key, stream_numbers}
use Rattle.topo_forms.proofs.Regions.Classes.{together-self, are-together, same-class}
use Rattle.topo_forms.proofs.Regions.RegionOrder.{edge_within, where_same}
use Rattle.topo_forms.proofs.Regions.Spreading.{in_below}
use Rattle.label_walk.proofs.Upstream.Alike.{holding, same_length, same_freed}
use Rattle.label_walk.proofs.Tests.{so_not}
use Rattle.topo_graph.proofs.OtherModes.{other_modes_law}

-- the components differ in modes alone; those that are Order stay so; and none in a cycle of the first has a key
pub record Later (b : View) (xs ys : List Component) : Type 0 where
  pub freed : map (component_with_mode Free) xs ≡ map (component_with_mode Free) ys
  pub orders : (c : ℕ) → is_order (holding b xs) c ≡ true → is_order (holding b ys) c ≡ true
  pub keyless : (c : ℕ) → is_in_cycle (holding b xs) c ≡ true → mode_key (mode_of (holding b ys) c) ≡ None

module _ (b : View) (xs ys : List Component) (valid : IsValid (holding b xs)) (later : Later b xs ys) where
  abbrev f : View
  f = holding b xs

  abbrev t : View
  t = holding b ys

  few : length xs ≤ 64
  few = omega (arith, valid.numbered.few_components)

  pub small : (c : ℕ) → c < length xs → c < 64
  small c lt = omega (arith, lt, few)

  pub unordered_before : (c : ℕ) → is_order t c ≡ false → is_order f c ≡ false
  unordered_before c free = false_from_ne_true (is_order f c) (λ ordered. true≢false (sym (later.orders c ordered) ∙ free))

  -- each edge was one before
  pub edge_before : (e : Edge) → Has e (edges t) → Has e (edges f)
  edge_before e has =
      let from = Has-from_flat_map (edges_of t) e (stream_numbers b) has in
      Has-flat_map (edges_of f) from.0 e (stream_numbers b) from.1 (go from.0 (origin_of b from.0) from.2)
    where
      go : (u : ℕ) (o : Option End) → Has e (option_map_or (λ (d : End). map (λ (e : End). (d.0, e.0)) (counting_ends t u)) o []) → Has e (option_map_or (λ (d : End). map (λ (e : End). (d.0, e.0)) (counting_ends f u)) o [])
      go u None h = absurd h
      go u (Some output) h =
          let made = Has-from_map (λ (d : End). (output.0, d.0)) e (counting_ends t u) h in
          let kept = Has-from_filter (λ (d : End). not (is_order t d.0)) made.0 (ends_of b u) made.1 in
          let free = unordered_before made.0.0 (not_so (is_order t made.0.0) kept.1) in
          subst (λ (z : Edge). Has z (map (λ (e : End). (output.0, e.0)) (counting_ends f u))) made.2
          (Has-map (λ (e : End). (output.0, e.0)) made.0 (counting_ends f u) (Has-filter (λ (d : End). not (is_order f d.0)) made.0 (ends_of b u) kept.0 (so_not (is_order f made.0.0) free)))

  -- an edge into a component that isn't Order now is one still
  pub edge_after : (e : Edge) → Has e (edges f) → is_order t e.1 ≡ false → Has e (edges t)
  edge_after e has free =
      let from = Has-from_flat_map (edges_of f) e (stream_numbers b) has in
      Has-flat_map (edges_of t) from.0 e (stream_numbers b) from.1 (go from.0 (origin_of b from.0) from.2)
    where
      go : (u : ℕ) (o : Option End) → Has e (option_map_or (λ (d : End). map (λ (e : End). (d.0, e.0)) (counting_ends f u)) o []) → Has e (option_map_or (λ (d : End). map (λ (e : End). (d.0, e.0)) (counting_ends t u)) o [])
      go u None h = absurd h
      go u (Some output) h =
          let made = Has-from_map (λ (d : End). (output.0, d.0)) e (counting_ends f u) h in
          let kept = Has-from_filter (λ (d : End). not (is_order f d.0)) made.0 (ends_of b u) made.1 in
          let here : is_order t made.0.0 ≡ false = subst (λ (z : Edge). is_order t z.1 ≡ false) (sym made.2) free in
          subst (λ (z : Edge). Has z (map (λ (e : End). (output.0, e.0)) (counting_ends t u))) made.2
          (Has-map (λ (e : End). (output.0, e.0)) made.0 (counting_ends t u) (Has-filter (λ (d : End). not (is_order t d.0)) made.0 (ends_of b u) kept.0 (so_not (is_order t made.0.0) here)))

  -- no edge leads into an Order component
  pub edge_unordered : (e : Edge) → Has e (edges f) → is_order f e.1 ≡ false
  edge_unordered e has =
      let from = Has-from_flat_map (edges_of f) e (stream_numbers b) has in
      go from.0 (origin_of b from.0) from.2
    where
      go : (u : ℕ) (o : Option End) → Has e (option_map_or (λ (d : End). map (λ (e : End). (d.0, e.0)) (counting_ends f u)) o []) → is_order f e.1 ≡ false
      go u None h = absurd h
      go u (Some output) h =
          let made = Has-from_map (λ (d : End). (output.0, d.0)) e (counting_ends f u) h in
          let kept = Has-from_filter (λ (d : End). not (is_order f d.0)) made.0 (ends_of b u) made.1 in
          subst (λ (z : Edge). is_order f z.1 ≡ false) made.2 (not_so (is_order f made.0.0) kept.1)

  edge_small : (e : Edge) → Has e (edges f) → (e.0 < 64) × (e.1 < 64)
  edge_small e has = let both = edge_within f valid e has in (small e.0 both.0, small e.1 both.1)

  -- who reaches a component did so before
  up_before : (c : ℕ) → within (up (arrows (edges t)) c) (up (arrows (edges f)) c) ≡ true
  up_before c =
      let own : IsLeastClosed (bit_of c) (arrows (edges t)) (up (arrows (edges t)) c) = closure-least (bit_of c) (arrows (edges t)) in
      own.least (up (arrows (edges f)) c) other.contains closed
    where
      other : IsLeastClosed (bit_of c) (arrows (edges f)) (up (arrows (edges f)) c)
      other = closure-least (bit_of c) (arrows (edges f))

      closed : IsClosed (arrows (edges t)) (up (arrows (edges f)) c)
      closed fd stands fires =
          let from = Has-from_map arrow fd (edges t) stands in
          subst (λ (z : Fd). within z.from.bits (up (arrows (edges f)) c) ≡ true → within z.to.bits (up (arrows (edges f)) c) ≡ true) from.2
          (λ into. closed-map arrow (edges f) (up (arrows (edges f)) c) other.closed from.0 (edge_before from.0 from.1) into) fires

  together_before : (c d : ℕ) → c < 64 → d < 64 → together (arrows (edges t)) c d ≡ true → together (arrows (edges f)) c d ≡ true
  together_before c d lc ld h =
      let both = both_true (is_in d (up (arrows (edges t)) c)) (is_in c (up (arrows (edges t)) d)) h in
      are-together (arrows (edges f)) c d
      (in-within d (up (arrows (edges t)) c) (up (arrows (edges f)) c) ld both.0 (up_before c))
      (in-within c (up (arrows (edges t)) d) (up (arrows (edges f)) d) lc both.1 (up_before d))

  same_count : length xs ≡ length ys
  same_count = same_length xs ys later.freed

  -- a member of its region was one before
  pub region_before : (c d : ℕ) → c < length xs → is_in d (region_set t c) ≡ true → is_in d (region_set f c) ≡ true
  unfolding region_set
  region_before c d lc h =
      let ld : d < 64 = member_small d (region (arrows (edges t)) (length ys) c) h in
      let chosen = from_chosen (together (arrows (edges t)) c) (λ n. n) (below (length ys)) d ld h in
      let joined : together (arrows (edges t)) c d ≡ true = subst (λ (n : ℕ). together (arrows (edges t)) c n ≡ true) chosen.is chosen.passes in
      let there : d < length xs = (let low = from_below (length ys) chosen.element chosen.stands in let same = chosen.is in omega (arith, low, same, same_count)) in
      in_chosen (together (arrows (edges f)) c) (λ n. n) (below (length xs)) d (in_below (length xs) d there) (together_before c d (small c lc) ld joined) ld

  -- ---- a region in which nothing has become Order

  module _ (c : ℕ) (lc : c < length xs) (kept : (d : ℕ) → is_in d (region_set f c) ≡ true → is_order f d ≡ false → is_order t d ≡ false) where
    abbrev T : ℕ
    T = up (arrows (edges t)) c

    abbrev F : ℕ
    F = up (arrows (edges f)) c

    abbrev R : ℕ
    R = region_set f c

    -- who reaches the component still, or did so before and isn't in its region
    abbrev reaching : ℕ → Bool
    reaching n = is_in n T || (is_in n F && not (is_in n R))

    abbrev X : ℕ
    X = set_where reaching (below 64)

    in_X : (n : ℕ) → n < 64 → reaching n ≡ true → is_in n X ≡ true
    in_X n lt h = in_chosen reaching (λ m. m) (below 64) n (in_below 64 n lt) h lt

    from_X : (n : ℕ) → n < 64 → is_in n X ≡ true → reaching n ≡ true
    from_X n lt h = let chosen = from_chosen reaching (λ m. m) (below 64) n lt h in subst (λ (m : ℕ). reaching m ≡ true) chosen.is chosen.passes

    in_R : (d : ℕ) → d < length xs → together (arrows (edges f)) c d ≡ true → is_in d R ≡ true
    unfolding region_set
    in_R d ld h = in_chosen (together (arrows (edges f)) c) (λ n. n) (below (length xs)) d (in_below (length xs) d ld) h (small d ld)

    from_R : (d : ℕ) → is_in d R ≡ true → (d < length xs) × (together (arrows (edges f)) c d ≡ true)
    unfolding region_set
    from_R d h =
        let ld : d < 64 = member_small d (region (arrows (edges f)) (length xs) c) h in
        let chosen = from_chosen (together (arrows (edges f)) c) (λ n. n) (below (length xs)) d ld h in
        (subst (λ (n : ℕ). n < length xs) chosen.is (from_below (length xs) chosen.element chosen.stands), subst (λ (n : ℕ). together (arrows (edges f)) c n ≡ true) chosen.is chosen.passes)

    own : IsLeastClosed (bit_of c) (arrows (edges f)) F
    own = closure-least (bit_of c) (arrows (edges f))

    mine : IsLeastClosed (bit_of c) (arrows (edges t)) T
    mine = closure-least (bit_of c) (arrows (edges t))

    fed : (e : Edge) → Has e (edges f) → is_in e.1 F ≡ true → is_in e.0 F ≡ true
    fed e has h = within-meets e.0 F (edge_small e has).0 (closed-map arrow (edges f) F own.closed e has (meets-within e.1 F h))

    fed_still : (e : Edge) → Has e (edges t) → is_in e.1 T ≡ true → is_in e.0 T ≡ true
    fed_still e has h = within-meets e.0 T (edge_small e (edge_before e has)).0 (closed-map arrow (edges t) T mine.closed e has (meets-within e.1 T h))

    in_F : (n : ℕ) → n < 64 → reaching n ≡ true → is_in n F ≡ true
    in_F n lt h = go (is_in n T) refl h
      where
        go : (x : Bool) → is_in n T ≡ x → (x || (is_in n F && not (is_in n R))) ≡ true → is_in n F ≡ true
        go true q h = in-within n T F lt q (up_before c)
        go false q h = (both_true (is_in n F) (not (is_in n R)) h).0

    -- who feeds a member of the region before, and is none itself, doesn't come from one
    next : (e : Edge) → Has e (edges f) → is_order f e.1 ≡ false → is_in e.1 X ≡ true → is_in e.0 X ≡ true
    next e has free h =
        let lt = edge_small e has in let there = in_F e.1 lt.1 (from_X e.1 lt.1 h) in let before = fed e has there in
        in_X e.0 lt.0 (go (is_in e.0 T) (is_in e.0 R) refl refl before (from_X e.1 lt.1 h) there)
      where
        go : (x y : Bool) → is_in e.0 T ≡ x → is_in e.0 R ≡ y → is_in e.0 F ≡ true → reaching e.1 ≡ true → is_in e.1 F ≡ true → (x || (is_in e.0 F && not y)) ≡ true
        go true y p q before h there = refl
        go false false p q before h there = and_true (is_in e.0 F) true before refl
        go false true p q before h there = absurd (
            let both = edge_within f valid e has in
            let from = from_R e.0 q in
            -- the target is in the region, since it reaches the component, and the component reaches it
            let back : is_in c (up (arrows (edges f)) e.1) ≡ true = closure-trans (arrows (edges f)) (bit_of e.1) e.0 c (small c lc)
            (within-meets e.0 (up (arrows (edges f)) e.1) (small e.0 both.0)
            (closed-map arrow (edges f) (up (arrows (edges f)) e.1) (let self : IsLeastClosed (bit_of e.1) (arrows (edges f)) (up (arrows (edges f)) e.1) = closure-least (bit_of e.1) (arrows (edges f)) in self.closed) e has (meets-within e.1 (up (arrows (edges f)) e.1) (closure-self (arrows (edges f)) e.1 (small e.1 both.1)))))
            (both_true (is_in e.0 (up (arrows (edges f)) c)) (is_in c (up (arrows (edges f)) e.0)) from.1).1 in
            let inside : is_in e.1 R ≡ true = in_R e.1 both.1 (are-together (arrows (edges f)) c e.1 there back) in
            let still : is_in e.1 T ≡ true = first (is_in e.1 T) (is_in e.1 F) (is_in e.1 R) inside h in
            true≢false (sym (fed_still e (edge_after e has (kept e.1 inside free)) still) ∙ p))
          where
            first : (x y z : Bool) → z ≡ true → (x || (y && not z)) ≡ true → x ≡ true
            first true y z e h = refl
            first false true true e h = absurd (true≢false (sym h))
            first false true false e h = absurd (true≢false (sym e))
            first false false z e h = absurd (true≢false (sym h))

    all_closed : IsClosed (arrows (edges f)) X
    all_closed fd stands fires =
        let from = Has-from_map arrow fd (edges f) stands in
        subst (λ (z : Fd). within z.from.bits X ≡ true → within z.to.bits X ≡ true) from.2
        (λ into. let lt = edge_small from.0 from.1 in meets-within from.0.0 X (next from.0 from.1 (edge_unordered from.0 from.1) (within-meets from.0.1 X lt.1 into))) fires

    -- all members reach the component still
    pub reached : (d : ℕ) → is_in d R ≡ true → is_in d T ≡ true
    reached d h =
        let from = from_R d h in let ld = small d from.0 in
        let self : is_in c T ≡ true = within-meets c T (small c lc) mine.contains in
        let start : within (bit_of c) X ≡ true = meets-within c X (in_X c (small c lc) (either (is_in c T) (is_in c F && not (is_in c R)) self)) in
        let there : is_in d X ≡ true = in-within d F X ld (both_true (is_in d F) (is_in c (up (arrows (edges f)) d)) from.1).0 (own.least X start all_closed) in
        first (is_in d T) (is_in d F) (is_in d R) h (from_X d ld there)
      where
        either : (x y : Bool) → x ≡ true → (x || y) ≡ true
        either true y e = refl
        either false y e = absurd (true≢false (sym e))

        first : (x y z : Bool) → z ≡ true → (x || (y && not z)) ≡ true → x ≡ true
        first true y z e h = refl
        first false true true e h = absurd (true≢false (sym h))
        first false true false e h = absurd (true≢false (sym e))
        first false false z e h = absurd (true≢false (sym h))

  -- members of one region have one region
  pub region_of_member : (c d : ℕ) → c < length xs → is_in d (region_set f c) ≡ true → (d < length xs) × (region_set f c ≡ region_set f d)
  unfolding region_set
  region_of_member c d lc h =
      let ld : d < 64 = member_small d (region (arrows (edges f)) (length xs) c) h in
      let chosen = from_chosen (together (arrows (edges f)) c) (λ n. n) (below (length xs)) d ld h in
      let joined : together (arrows (edges f)) c d ≡ true = subst (λ (n : ℕ). together (arrows (edges f)) c n ≡ true) chosen.is chosen.passes in (
        subst (λ (n : ℕ). n < length xs) chosen.is (from_below (length xs) chosen.element chosen.stands),
        where_same (together (arrows (edges f)) c) (together (arrows (edges f)) d) (below (length xs)) (λ n has. same-class (arrows (edges f)) c d n (small c lc) ld (small n (from_below (length xs) n has)) joined),
      )

  pub own_member : (c : ℕ) → c < length xs → is_in c (region_set f c) ≡ true
  unfolding region_set
  own_member c lc = in_chosen (together (arrows (edges f)) c) (λ n. n) (below (length xs)) c (in_below (length xs) c lc) (together-self (arrows (edges f)) c (small c lc)) (small c lc)

  from_members : (c : ℕ) → c < length xs → ((d : ℕ) → is_in d (region_set f c) ≡ true → is_in d (up (arrows (edges t)) c) ≡ true) → ((d : ℕ) → is_in d (region_set f c) ≡ true → is_in c (up (arrows (edges t)) d) ≡ true) → region_set t c ≡ region_set f c
  unfolding region_set
  from_members c lc to from =
      ap (λ (n : ℕ). set_where (together (arrows (edges t)) c) (below n)) (sym same_count)
      ∙ where_same (together (arrows (edges t)) c) (together (arrows (edges f)) c) (below (length xs)) (λ d has.
      let ld = from_below (length xs) d has in
      same_truth (together (arrows (edges t)) c d) (together (arrows (edges f)) c d) (together_before c d (small c lc) (small d ld)) (λ h.
      let inside = in_chosen (together (arrows (edges f)) c) (λ n. n) (below (length xs)) d has h (small d ld) in
      are-together (arrows (edges t)) c d (to d inside) (from d inside)))

  -- a region in which nothing has become Order is one still
  pub region_kept : (c : ℕ) → c < length xs → ((d : ℕ) → is_in d (region_set f c) ≡ true → is_order f d ≡ false → is_order t d ≡ false) → region_set t c ≡ region_set f c
  region_kept c lc kept = from_members c lc (λ d h. reached c lc kept d h) (λ d h.
      let other = region_of_member c d lc h in
      reached d other.0 (λ e inside. kept e (subst (λ (r : ℕ). is_in e r ≡ true) (sym other.1) inside)) c (subst (λ (r : ℕ). is_in c r ≡ true) other.1 (own_member c lc)))

  -- ---- it is valid

  pub valid_still : IsValid t
  valid_still = other_modes_law f ys valid (record {
    count = sym same_count;
    each = λ d. sym (same_freed b xs ys later.freed d);
    ordered = later.orders;
    keys = λ d lt cyclic. later.keyless d cyclic;
  })
