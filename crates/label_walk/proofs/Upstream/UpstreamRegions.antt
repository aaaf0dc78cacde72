-- Regions look upstream only.
use Rattle.std.proofs.Common.{◌≡◌, ◌≤◌, ◌<◌, ℕ, nat_eq, nat_lt, Bool, true, false, ◌&&◌, if◌then◌else◌, List, length, refl, arith, ap, sym, subst, ◌∙◌}
use Rattle.std.specs.List.{list_any}
use Rattle.std.proofs.lemmas.Bool.{eqb-true}
use Rattle.blz_value.specs.Members.{Has}
use Rattle.blz_value.proofs.Membership.{Has-from_map, Has-from_any, any_from_Has}
use Rattle.blz_value.specs.declared.attrs.Fd.{Fd}
use Rattle.blz_value.specs.Bits.{bit_of, members}
use Rattle.blz_value.specs.Closure.{within, IsClosed, IsLeastClosed}
use Rattle.blz_value.proofs.Within.{within-antisym}
use Rattle.blz_value.proofs.Members.{in-within, meets-within, within-meets, member_small}
use Rattle.blz_value.proofs.Least.{closure-least}
use Rattle.blz_value.proofs.Reached.{closed-map}
use Rattle.bloom_forms.proofs.Collections.Chosen.{from_chosen}
use Rattle.blz_value.specs.Graph.{Edge, arrow, arrows, is_in, up, together, region, is_cyclic_set}
use Rattle.topo_forms.specs.Regions.{edges, region_set, is_in_cycle}
use Rattle.blz_value.specs.NumberSets.{below, set_where}
use Rattle.blz_value.proofs.Booleans.{same_truth, both_true}
use Rattle.blz_value.proofs.Ranges.{Has-below as from_below}
use Rattle.topo_forms.specs.View.{View, Component}
use Rattle.topo_forms.proofs.Regions.Classes.{together-up}
use Rattle.topo_forms.proofs.Regions.RegionOrder.{edge_within, where_same}
use Rattle.label_walk.proofs.Upstream.Alike.{holding, Alike, swapped, same_length, edge_kept}
use Rattle.label_walk.proofs.Tests.{and_false}

module _ (b : View) (xs ys : List Component) (set : ℕ) (alike : Alike b xs ys set) where
  abbrev v : View
  v = holding b xs

  abbrev w : View
  w = holding b ys

  few : length xs ≤ 64
  few = let valid = alike.first in omega (arith, valid.numbered.few_components)

  -- who reaches a component of the set is in it
  pub reach_set : (c : ℕ) → is_in c set ≡ true → within (up (arrows (edges v)) c) set ≡ true
  reach_set c here =
      let own : IsLeastClosed (bit_of c) (arrows (edges v)) (up (arrows (edges v)) c) = closure-least (bit_of c) (arrows (edges v)) in
      own.least set (meets-within c set here) closed
    where
      closed : IsClosed (arrows (edges v)) set
      closed fd stands fires =
          let from = Has-from_map arrow fd (edges v) stands in
          subst (λ (z : Fd). within z.from.bits set ≡ true → within z.to.bits set ≡ true) from.2
          (λ into. meets-within from.0.0 set (alike.before from.0 from.1 (within-meets from.0.1 set (let both = edge_within v alike.first from.0 from.1 in omega (arith, both.1, few)) into))) fires

  -- what reaches it in one topology reaches it in the other
  up_within : (c : ℕ) → is_in c set ≡ true → within (up (arrows (edges w)) c) set ≡ true → within (up (arrows (edges v)) c) (up (arrows (edges w)) c) ≡ true
  up_within c here there =
      let own : IsLeastClosed (bit_of c) (arrows (edges v)) (up (arrows (edges v)) c) = closure-least (bit_of c) (arrows (edges v)) in
      own.least (up (arrows (edges w)) c) other.contains closed
    where
      other : IsLeastClosed (bit_of c) (arrows (edges w)) (up (arrows (edges w)) c)
      other = closure-least (bit_of c) (arrows (edges w))

      closed : IsClosed (arrows (edges v)) (up (arrows (edges w)) c)
      closed fd stands fires =
          let from = Has-from_map arrow fd (edges v) stands in
          subst (λ (z : Fd). within z.from.bits (up (arrows (edges w)) c) ≡ true → within z.to.bits (up (arrows (edges w)) c) ≡ true) from.2 (grown from.0 from.1) fires
        where
          grown : (e : Edge) → Has e (edges v) → within (bit_of e.1) (up (arrows (edges w)) c) ≡ true → within (bit_of e.0) (up (arrows (edges w)) c) ≡ true
          grown e has into =
              let small : e.1 < 64 = (let both = edge_within v alike.first e has in omega (arith, both.1, few)) in
              let inside : is_in e.1 set ≡ true = in-within e.1 (up (arrows (edges w)) c) set small (within-meets e.1 (up (arrows (edges w)) c) small into) there in
              closed-map arrow (edges w) (up (arrows (edges w)) c) other.closed e (edge_kept b xs ys set alike.modes e has inside) into

module _ (b : View) (xs ys : List Component) (set : ℕ) (alike : Alike b xs ys set) where
  abbrev v' : View
  v' = holding b xs

  abbrev w' : View
  w' = holding b ys

  back : Alike b ys xs set
  back = swapped b xs ys set alike

  up_same : (c : ℕ) → is_in c set ≡ true → up (arrows (edges v')) c ≡ up (arrows (edges w')) c
  up_same c here = within-antisym (up (arrows (edges v')) c) (up (arrows (edges w')) c)
      (up_within b xs ys set alike c here (reach_set b ys xs set back c here))
      (up_within b ys xs set back c here (reach_set b xs ys set alike c here))

  small : (c : ℕ) → c < length xs → c < 64
  small c lt = let valid = alike.first in omega (arith, lt, valid.numbered.few_components)

  together_same : (c d : ℕ) → d < 64 → is_in c set ≡ true → together (arrows (edges v')) c d ≡ together (arrows (edges w')) c d
  together_same c d ld here = by (is_in d (up (arrows (edges v')) c)) refl
    where
      by : (x : Bool) → is_in d (up (arrows (edges v')) c) ≡ x → together (arrows (edges v')) c d ≡ together (arrows (edges w')) c d
      by true q =
          let inside : is_in d set ≡ true = in-within d (up (arrows (edges v')) c) set ld q (reach_set b xs ys set alike c here) in
          let one = up_same c here in let two = up_same d inside in
          λ i. is_in d (one i) && is_in c (two i)
      by false q =
          and_false (is_in d (up (arrows (edges v')) c)) (is_in c (up (arrows (edges v')) d)) q
          ∙ sym (and_false (is_in d (up (arrows (edges w')) c)) (is_in c (up (arrows (edges w')) d)) (sym (ap (is_in d) (up_same c here)) ∙ q))

  -- the region of a component of the set is the same
  pub region_same : (c : ℕ) → is_in c set ≡ true → region_set v' c ≡ region_set w' c
  unfolding region_set
  region_same c here =
      where_same (together (arrows (edges v')) c) (together (arrows (edges w')) c) (below (length xs)) (λ d has. together_same c d (small d (from_below (length xs) d has)) here)
      ∙ ap (λ (n : ℕ). set_where (together (arrows (edges w')) c) (below n)) (same_length xs ys alike.freed)

  -- and lies in the set
  pub region_inside : (c d : ℕ) → is_in c set ≡ true → is_in d (region_set v' c) ≡ true → is_in d set ≡ true
  unfolding region_set
  region_inside c d here h =
      let ld : d < 64 = member_small d (region (arrows (edges v')) (length xs) c) h in
      let chosen = from_chosen (together (arrows (edges v')) c) (λ n. n) (below (length xs)) d ld h in
      let joined : together (arrows (edges v')) c d ≡ true = subst (λ (n : ℕ). together (arrows (edges v')) c n ≡ true) chosen.is chosen.passes in
      in-within d (up (arrows (edges v')) c) set ld (together-up (arrows (edges v')) c d joined) (reach_set b xs ys set alike c here)

  -- a loop of the one is a loop of the other
  loop_kept : (xs ys : List Component) → Alike b xs ys set → (r : ℕ) → ((d : ℕ) → is_in d r ≡ true → is_in d set ≡ true)
      → list_any (λ (e : Edge). nat_eq e.0 e.1 && is_in e.0 r) (edges (holding b xs)) ≡ true → list_any (λ (e : Edge). nat_eq e.0 e.1 && is_in e.0 r) (edges (holding b ys)) ≡ true
  loop_kept xs ys alike r inside some =
      let found = Has-from_any (λ (e : Edge). nat_eq e.0 e.1 && is_in e.0 r) (edges (holding b xs)) some in
      let both = both_true (nat_eq found.0.0 found.0.1) (is_in found.0.0 r) found.2 in
      let there : is_in found.0.1 set ≡ true = subst (λ (n : ℕ). is_in n set ≡ true) (eqb-true found.0.0 found.0.1 both.0) (inside found.0.0 both.1) in
      any_from_Has (λ (e : Edge). nat_eq e.0 e.1 && is_in e.0 r) found.0 (edges (holding b ys)) (edge_kept b xs ys set alike.modes found.0 found.1 there) found.2

  pub cycle_same : (c : ℕ) → is_in c set ≡ true → is_in_cycle v' c ≡ is_in_cycle w' c
  unfolding is_in_cycle
  cycle_same c here =
      ap (is_cyclic_set (edges v')) (region_same c here)
      ∙ ap (λ (x : Bool). if nat_lt 1 (length (members (region_set w' c))) then true else x) (same_truth _ _
      (loop_kept xs ys alike (region_set w' c) inside)
      (loop_kept ys xs back (region_set w' c) inside))
    where
      inside : (d : ℕ) → is_in d (region_set w' c) ≡ true → is_in d set ≡ true
      inside d h = region_inside c d here (subst (λ (r : ℕ). is_in d r ≡ true) (sym (region_same c here)) h)
