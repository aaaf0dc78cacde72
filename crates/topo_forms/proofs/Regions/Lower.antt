-- Who feeds a component over a stream that counts stands in a lower region, or in its own cyclic one.
use Rattle.std.proofs.Common.{◌≡◌, ◌≤◌, ◌<◌, inl, inr, ℕ, not, Bool, true, false, Option, None, Some, List, [], ◌∷◌, length, map, refl, arith, ap, sym, subst, ◌∙◌}
use Rattle.std.specs.List.{position_or_len}
use Rattle.std.specs.Option.{option_map_or}
use Rattle.std.proofs.lemmas.Bool.{true≢false, false_from_ne_true}
use Rattle.blz_value.specs.Members.{Has}
use Rattle.blz_value.proofs.Membership.{Has-map, Has-filter, Has-flat_map, Has-from_map, Has-from_filter, Has-from_flat_map}
use Rattle.blz_value.specs.declared.attrs.Fd.{Fd}
use Rattle.blz_value.specs.Bits.{bit_of}
use Rattle.blz_value.specs.Closure.{within, IsClosed, IsLeastClosed}
use Rattle.blz_value.proofs.Within.{within-refl}
use Rattle.blz_value.proofs.Members.{in-within, within-meets, one_number}
use Rattle.blz_value.proofs.Least.{closure-least}
use Rattle.blz_value.specs.Graph.{Edge, arrow, arrows, is_in, up, together, is_cyclic_set, IsNumbered, numbered_regions}
use Rattle.blz_value.proofs.Booleans.{same_truth}
use Rattle.topo_forms.specs.Regions.{edges, edges_of, counting_ends, region_of, region_set, regions, is_in_cycle}
use Rattle.topo_forms.specs.Valid.{IsValid}
use Rattle.topo_forms.specs.View.{View, End, origin_of, ends_of, is_order, stream_numbers}
use Rattle.topo_forms.proofs.Regions.Spreading.{in_below}
use Rattle.topo_forms.proofs.Regions.Classes.{together-self, together-sym, together-trans, together-up, region-is}
use Rattle.topo_forms.proofs.Regions.Numbering.{regions_law}
use Rattle.topo_forms.proofs.Regions.RegionOrder.{edge_within, classes_at, region_order}

module _ (v : View) (valid : IsValid v) where
  few : length v.components ≤ 64
  few = omega (arith, valid.numbered.few_components)

  small : {c : ℕ} → c < length v.components → c < 64
  small {c} lt = omega (arith, lt, few)

  not_false : (b : Bool) → b ≡ false → not b ≡ true
  not_false true e = absurd (true≢false e)
  not_false false e = refl

  not_true : (b : Bool) → not b ≡ true → b ≡ false
  not_true true e = absurd (true≢false (sym e))
  not_true false e = refl

  -- a stream to a component that isn't Order is an edge
  pub feeds_edge : (u : ℕ) (output end : End) → u < length v.streams → origin_of v u ≡ Some output → Has end (ends_of v u) → is_order v end.0 ≡ false → Has {X = Edge} (output.0, end.0) (edges v)
  feeds_edge u output end lt is has free =
      let kept = Has-filter (λ (e : End). not (is_order v e.0)) end (ends_of v u) has (not_false (is_order v end.0) free) in
      let made : Has {X = Edge} (output.0, end.0) (map (λ (e : End). (output.0, e.0)) (counting_ends v u)) = Has-map (λ (e : End). (output.0, e.0)) end (counting_ends v u) kept in
      Has-flat_map (edges_of v) u (output.0, end.0) (stream_numbers v) (in_below (length v.streams) u lt)
      (subst (λ (o : Option End). Has {X = Edge} (output.0, end.0) (option_map_or (λ (d : End). map (λ (e : End). (d.0, e.0)) (counting_ends v u)) o [])) (sym is) made)

  -- no edge leads into an Order component
  pub edge_free : (e : Edge) → Has e (edges v) → is_order v e.1 ≡ false
  edge_free e has =
      let from = Has-from_flat_map (edges_of v) e (stream_numbers v) has in
      go from.0 (origin_of v from.0) from.2
    where
      go : (u : ℕ) (o : Option End) → Has e (option_map_or (λ (d : End). map (λ (e : End). (d.0, e.0)) (counting_ends v u)) o []) → is_order v e.1 ≡ false
      go u None h = absurd h
      go u (Some output) h =
          let made = Has-from_map (λ (d : End). (output.0, d.0)) e (counting_ends v u) h in
          let kept = Has-from_filter (λ (d : End). not (is_order v d.0)) made.0 (ends_of v u) made.1 in
          subst (λ (z : Edge). is_order v z.1 ≡ false) made.2 (not_true (is_order v made.0.0) kept.1)

  -- who reaches an Order component is that component
  pub order_alone : (c d : ℕ) → c < 64 → d < 64 → is_order v d ≡ true → is_in c (up (arrows (edges v)) d) ≡ true → d ≡ c
  order_alone c d lc ld ordered h =
      let own : IsLeastClosed (bit_of d) (arrows (edges v)) (up (arrows (edges v)) d) = closure-least (bit_of d) (arrows (edges v)) in
      one_number c d lc (in-within c (up (arrows (edges v)) d) (bit_of d) lc h (own.least (bit_of d) (within-refl (bit_of d)) closed))
    where
      closed : IsClosed (arrows (edges v)) (bit_of d)
      closed fd stands fires =
          let from = Has-from_map arrow fd (edges v) stands in
          let into : within (bit_of from.0.1) (bit_of d) ≡ true = subst (λ (z : Fd). within z.from.bits (bit_of d) ≡ true) (sym from.2) fires in
          nothing from.0 from.1 into
        where
          nothing : (e : Edge) → Has e (edges v) → within (bit_of e.1) (bit_of d) ≡ true → within fd.to.bits (bit_of d) ≡ true
          nothing e has into =
              let lt : e.1 < 64 = small (edge_within v valid e has).1 in
              absurd (true≢false (sym ordered ∙ subst (λ (n : ℕ). is_order v n ≡ false) (sym (one_number e.1 d lt (within-meets e.1 (bit_of d) lt into))) (edge_free e has)))

  -- no member of a region is Order where one isn't
  pub none_ordered : (c d : ℕ) → c < length v.components → d < length v.components → is_order v c ≡ false → is_in d (region_set v c) ≡ true → is_order v d ≡ false
  unfolding region_set
  none_ordered c d lc ld free inside = false_from_ne_true (is_order v d) (λ ordered.
      let joined : together (arrows (edges v)) c d ≡ true = sym (region-is (arrows (edges v)) (length v.components) c d few ld) ∙ inside in
      let back : is_in c (up (arrows (edges v)) d) ≡ true = together-up (arrows (edges v)) d c (together-sym (arrows (edges v)) c d joined) in
      let same : d ≡ c = order_alone c d (small lc) (small ld) ordered back in
      true≢false (sym ordered ∙ subst (λ (n : ℕ). is_order v n ≡ false) (sym same) free))

  -- ---- members of one region have one number

  place_same : (a b : ℕ) (sets : List ℕ) → ((set : ℕ) → Has set sets → is_in a set ≡ is_in b set) → position_or_len (is_in a) sets ≡ position_or_len (is_in b) sets
  place_same a b [] same = refl
  place_same a b (set ∷ sets) same = rw (same set (inl refl), place_same a b sets (λ s has. same s (inr has))) refl

  pub given : IsNumbered (length v.components) (edges v) (numbered_regions (edges v) (length v.components))
  given = regions_law (length v.components) (edges v) (omega (arith, valid.numbered.few_components)) (edge_within v valid)

  pub one_place : (c d : ℕ) → c < length v.components → d < length v.components → together (arrows (edges v)) c d ≡ true → region_of v c ≡ region_of v d
  unfolding regions
  one_place c d lc ld joined = place_same c d (numbered_regions (edges v) (length v.components)) (λ set has. same_truth (is_in c set) (is_in d set)
      (λ h. classes_at (edges v) (length v.components) _ given.classes set has c d lc ld h ∙ joined)
      (λ h. classes_at (edges v) (length v.components) _ given.classes set has d c ld lc h ∙ together-sym (arrows (edges v)) c d joined))

  -- ---- lower regions

  -- into a component outside cycles
  pub lower_outside : (e : Edge) → Has e (edges v) → is_in_cycle v e.1 ≡ false → region_of v e.0 < region_of v e.1
  unfolding is_in_cycle
  lower_outside e has outside = elim (region_order v valid e has) [
    | inl lower ↦ lower
    | inr stays ↦ absurd (true≢false (sym (sym (ap (is_cyclic_set (edges v)) stays.0) ∙ stays.1) ∙ outside))
  ]

  -- into a member of a region from outside it
  pub lower_into : (c : ℕ) → c < length v.components → (e : Edge) → Has e (edges v) → is_in e.1 (region_set v c) ≡ true → is_in e.0 (region_set v c) ≡ false → region_of v e.0 < region_of v c
  unfolding region_set
  lower_into c lc e has inside outside =
      let within = edge_within v valid e has in
      let joined : together (arrows (edges v)) c e.1 ≡ true = sym (region-is (arrows (edges v)) (length v.components) c e.1 few within.1) ∙ inside in
      elim (region_order v valid e has) [
        | inl lower ↦ subst (λ (n : ℕ). region_of v e.0 < n) (sym (one_place c e.1 lc within.1 joined)) lower
        | inr stays ↦ absurd (
            let own : is_in e.0 (region_set v e.0) ≡ true = region-is (arrows (edges v)) (length v.components) e.0 e.0 few within.0 ∙ together-self (arrows (edges v)) e.0 (small within.0) in
            let there : is_in e.0 (region_set v e.1) ≡ true = subst (λ (set : ℕ). is_in e.0 set ≡ true) stays.0 own in
            let next : together (arrows (edges v)) e.1 e.0 ≡ true = sym (region-is (arrows (edges v)) (length v.components) e.1 e.0 few within.0) ∙ there in
            let all : together (arrows (edges v)) c e.0 ≡ true = together-trans (arrows (edges v)) c e.1 e.0 (small lc) (small within.0) joined next in
            true≢false (sym (region-is (arrows (edges v)) (length v.components) c e.0 few within.0 ∙ all) ∙ outside))
      ]
