-- Regions by feeders are the regions.
use Rattle.std.proofs.Common.{◌≡◌, ◌<◌, ◌⊎◌, inl, inr, ℕ, not, ◌&&◌, nat_eq, true, false, is_some, Option, None, Some, List, [], ◌∷◌, map, length, refl, arith, ap, sym, subst, ◌∙◌, bit_or}
use Rattle.std.specs.Option.{option_map_or}
use Rattle.std.proofs.lemmas.Bool.{cases_Bool, true≢false}
use Rattle.std.proofs.lemmas.Bool.Decides.{nat_tests}
use Rattle.blz_value.specs.declared.attrs.Fd.{Fd}
use Rattle.blz_value.specs.Bits.{bit_of}
use Rattle.blz_value.specs.Closure.{within, closure, IsClosed}
use Rattle.blz_value.proofs.Within.{within-empty, or-within}
use Rattle.blz_value.proofs.Members.{meets-within, within-meets, in-within}
use Rattle.blz_value.proofs.Least.{closure-least}
use Rattle.blz_value.proofs.Reached.{least-one, closed-map}
use Rattle.blz_value.specs.Members.{Has}
use Rattle.blz_value.proofs.Membership.{Has-map, Has-from_map, Has-filter, Has-from_filter, Has-flat_map, Has-from_flat_map, Has-from_any, any_from_Has}
use Rattle.blz_value.specs.Arrows.{arrow_from, with_all, bit_if}
use Rattle.bloom_forms.proofs.Collections.Chosen.{in_chosen, from_chosen}
use Rattle.topo_graph.specs.Code.Feeders.{counts_into, sender_of, feeders}
use Rattle.topo_forms.specs.Found.{HasEnds}
use Rattle.blz_value.specs.Graph.{Edge, arrow, arrows, is_in}
use Rattle.blz_value.proofs.Booleans.{and_true, both_true}
use Rattle.blz_value.proofs.Ranges.{Has-below as from_below}
use Rattle.blz_value.proofs.Lists.{same_count as same_number}
use Rattle.topo_forms.specs.Regions.{edges, edges_of, counting_ends}
use Rattle.topo_forms.specs.View.{View, End, origin_of, ends_of, is_order, goes_into, stream_numbers, component_numbers}
use Rattle.topo_forms.proofs.Regions.Spreading.{in_below}

pub own_number : (a : ℕ) → nat_eq a a ≡ true
own_number a = grind (arith, nat_tests)

-- ---- edges and feeders

-- who has a component has its feeders
abbrev pub feeder_arrow : View → (component : ℕ) → Fd
feeder_arrow v c = arrow_from (bit_of c) (feeders v c)

abbrev pub feeder_arrows : View → List Fd
feeder_arrows v = map (feeder_arrow v) (component_numbers v)

-- an edge by its stream
pub record Along (v : View) (e : Edge) : Type 0 where
  pub stream : ℕ
  pub stands : Has stream (stream_numbers v)
  pub output : End
  pub sent : origin_of v stream ≡ Some output
  pub sender : output.0 ≡ e.0
  pub goes : counts_into v e.1 stream ≡ true

along : (v : View) (e : Edge) → Has e (edges v) → Along v e
along v e has =
    let from = Has-from_flat_map (edges_of v) e (stream_numbers v) has in
    go from.0 from.1 (origin_of v from.0) refl from.2
  where
    go : (s : ℕ) → Has s (stream_numbers v) → (o : Option End) → origin_of v s ≡ o → Has e (option_map_or (λ output. map (λ end. (output.0, end.0)) (counting_ends v s)) o []) → Along v e
    go s stands None is h = absurd h
    go s stands (Some output) is h =
        let made = Has-from_map (λ end. (output.0, end.0)) e (counting_ends v s) h in
        let kept = Has-from_filter (λ end. not (is_order v end.0)) made.0 (ends_of v s) made.1 in
        let to : made.0.0 ≡ e.1 = ap (λ (z : Edge). z.1) made.2 in
        let counts : not (is_order v e.1) ≡ true = subst (λ (c : ℕ). not (is_order v c) ≡ true) to kept.1 in
        let reaches : goes_into v e.1 s ≡ true = any_from_Has (λ (end : End). nat_eq e.1 end.0) made.0 (ends_of v s) kept.0 (ap (λ (n : ℕ). nat_eq e.1 n) to ∙ own_number e.1) in
        record {
          stream = s;
          stands = stands;
          output = output;
          sent = is;
          sender = ap (λ (z : Edge). z.0) made.2;
          goes = and_true (is_some (origin_of v s)) (not (is_order v e.1) && goes_into v e.1 s) (ap is_some is) (and_true (not (is_order v e.1)) (goes_into v e.1 s) counts reaches);
        }

from_along : (v : View) (s : ℕ) → Has s (stream_numbers v) → (output : End) → origin_of v s ≡ Some output → (c : ℕ) → counts_into v c s ≡ true → Has {X = Edge} (output.0, c) (edges v)
from_along v s stands output is c counts =
    let parts = both_true (is_some (origin_of v s)) (not (is_order v c) && goes_into v c s) counts in
    let more = both_true (not (is_order v c)) (goes_into v c s) parts.1 in
    let found = Has-from_any (λ (end : End). nat_eq c end.0) (ends_of v s) more.1 in
    let same : c ≡ found.0.0 = same_number c found.0.0 found.2 in
    let counted : Has found.0 (counting_ends v s) = Has-filter (λ end. not (is_order v end.0)) found.0 (ends_of v s) found.1 (subst (λ (d : ℕ). not (is_order v d) ≡ true) same more.0) in
    let made : Has {X = Edge} (output.0, found.0.0) (map (λ end. (output.0, end.0)) (counting_ends v s)) = Has-map (λ end. (output.0, end.0)) found.0 (counting_ends v s) counted in
    let here : Has {X = Edge} (output.0, found.0.0) (edges_of v s) = subst (λ (o : Option End). Has {X = Edge} (output.0, found.0.0) (option_map_or (λ output. map (λ end. (output.0, end.0)) (counting_ends v s)) o [])) (sym is) made in
    let all : Has {X = Edge} (output.0, found.0.0) (edges v) = Has-flat_map (edges_of v) s (output.0, found.0.0) (stream_numbers v) stands here in
    subst (λ (d : ℕ). Has {X = Edge} (output.0, d) (edges v)) (sym same) all

-- who has an edge to a component is one of its feeders
pub edge-feeds : (v : View) (e : Edge) → Has e (edges v) → e.0 < 64 → is_in e.0 (feeders v e.1) ≡ true
edge-feeds v e has lt =
    let a = along v e has in
    let sent : sender_of v a.stream ≡ e.0 = ap (λ (o : Option End). option_map_or (λ output. output.0) o 0) a.sent ∙ a.sender in
    subst (λ (n : ℕ). is_in n (feeders v e.1) ≡ true) sent
    (in_chosen (counts_into v e.1) (sender_of v) (stream_numbers v) a.stream a.stands a.goes (omega (arith, sent, lt)))

-- and a feeder has an edge to it
pub feeder-edge : (v : View) (b c : ℕ) → b < 64 → is_in b (feeders v c) ≡ true → Has {X = Edge} (b, c) (edges v)
feeder-edge v b c lt h =
    let chosen = from_chosen (counts_into v c) (sender_of v) (stream_numbers v) b lt h in
    go chosen.element chosen.stands chosen.passes chosen.is (origin_of v chosen.element) refl
  where
    go : (s : ℕ) → Has s (stream_numbers v) → counts_into v c s ≡ true → sender_of v s ≡ b → (o : Option End) → origin_of v s ≡ o → Has {X = Edge} (b, c) (edges v)
    go s stands passes is None e = absurd (true≢false (sym (both_true (is_some (origin_of v s)) (not (is_order v c) && goes_into v c s) passes).0 ∙ ap is_some e))
    go s stands passes is (Some output) e =
        let sent : output.0 ≡ b = sym (ap (λ (o : Option End). option_map_or (λ output. output.0) o 0) e) ∙ is in
        subst (λ (n : ℕ). Has {X = Edge} (n, c) (edges v)) sent (from_along v s stands output e c passes)

-- the feeders of a component lie in a set that has who has an edge to it
pub feeders-within : (v : View) (c t : ℕ) → ((e : Edge) → Has e (edges v) → e.1 ≡ c → is_in e.0 t ≡ true) → within (feeders v c) t ≡ true
feeders-within v c t each = chosen_within 0 (stream_numbers v) (within-empty t) (λ s has. has)
  where
    chosen_within : (set : ℕ) (ns : List ℕ) → within set t ≡ true → ((s : ℕ) → Has s ns → Has s (stream_numbers v)) → within (with_all set (map (λ s. bit_if (counts_into v c s) (sender_of v s)) ns)) t ≡ true
    chosen_within set [] inside stand = inside
    chosen_within set (s ∷ ns) inside stand =
        chosen_within (bit_or set (bit_if (counts_into v c s) (sender_of v s))) ns
        (or-within set (bit_if (counts_into v c s) (sender_of v s)) t inside (one (cases_Bool (counts_into v c s))))
        (λ m has. stand m (inr has))
      where
        sent : counts_into v c s ≡ true → (o : Option End) → origin_of v s ≡ o → within (bit_of (sender_of v s)) t ≡ true
        sent h None e = absurd (true≢false (sym (both_true (is_some (origin_of v s)) (not (is_order v c) && goes_into v c s) h).0 ∙ ap is_some e))
        sent h (Some output) e = let is : sender_of v s ≡ output.0 = ap (λ (o : Option End). option_map_or (λ output. output.0) o 0) e in subst (λ (n : ℕ). within (bit_of n) t ≡ true) (sym is) (meets-within output.0 t (each (output.0, c) (from_along v s (stand s (inl refl)) output e c h) refl))

        one : (counts_into v c s ≡ true) ⊎ (counts_into v c s ≡ false) → within (bit_if (counts_into v c s) (sender_of v s)) t ≡ true
        one (inl h) = let inside : within (bit_of (sender_of v s)) t ≡ true = sent h (origin_of v s) refl in rw h inside
        one (inr f) = rw f (within-empty t)

-- ---- closures

module _ (v : View) (given : HasEnds v) where
  pub bounds_of : (e : Edge) → Has e (edges v) → (e.0 < length v.components) × (e.1 < length v.components)
  bounds_of e has =
      let a = along v e has in
      let lt = from_below (length v.streams) a.stream a.stands in
      let first = given.origins a.stream a.output lt a.sent in
      let parts = both_true (is_some (origin_of v a.stream)) (not (is_order v e.1) && goes_into v e.1 a.stream) a.goes in
      let more = both_true (not (is_order v e.1)) (goes_into v e.1 a.stream) parts.1 in
      let found = Has-from_any (λ (end : End). nat_eq e.1 end.0) (ends_of v a.stream) more.1 in
      let second = given.ends a.stream found.0 lt found.1 in
      (subst (λ (n : ℕ). n < length v.components) a.sender first, subst (λ (n : ℕ). n < length v.components) (sym (same_number e.1 found.0.0 found.2)) second)

  closed-edges : (s : ℕ) → IsClosed (feeder_arrows v) s → IsClosed (arrows (edges v)) s
  closed-edges s closed fd stands fires =
      let from = Has-from_map arrow fd (edges v) stands in
      let e = from.0 in
      let bounds = bounds_of e from.1 in
      let l0 : e.0 < 64 = omega (arith, bounds.0, given.few_components) in
      let fires' : within (bit_of e.1) s ≡ true = subst (λ (z : Fd). within z.from.bits s ≡ true) (sym from.2) fires in
      let inside : within (feeders v e.1) s ≡ true = closed-map (feeder_arrow v) (component_numbers v) s closed e.1 (in_below (length v.components) e.1 bounds.1) fires' in
      let there : within (bit_of e.0) s ≡ true = meets-within e.0 s (in-within e.0 (feeders v e.1) s l0 (edge-feeds v e from.1 l0) inside) in
      subst (λ (z : Fd). within z.to.bits s ≡ true) from.2 there

  closed-feeders : (s : ℕ) → IsClosed (arrows (edges v)) s → IsClosed (feeder_arrows v) s
  closed-feeders s closed fd stands fires =
      let from = Has-from_map (feeder_arrow v) fd (component_numbers v) stands in
      let c = from.0 in
      let fires' : within (bit_of c) s ≡ true = subst (λ (z : Fd). within z.from.bits s ≡ true) (sym from.2) fires in
      let inside : within (feeders v c) s ≡ true = feeders-within v c s (λ e has is.
      let bounds = bounds_of e has in
      let l0 : e.0 < 64 = omega (arith, bounds.0, given.few_components) in
      let at : within (bit_of e.1) s ≡ true = rw is fires' in
      within-meets e.0 s l0 (closed-map arrow (edges v) s closed e has at)) in
      subst (λ (z : Fd). within z.to.bits s ≡ true) from.2 inside

  -- both lists of arrows lead to the same
  pub closure-same : (start : ℕ) → closure start (feeder_arrows v) ≡ closure start (arrows (edges v))
  closure-same start =
      let a = closure-least start (feeder_arrows v) in
      let b = closure-least start (arrows (edges v)) in
      least-one start (arrows (edges v)) _ _
      (record { contains = a.contains; closed = closed-edges _ a.closed; least = λ t inside closed. a.least t inside (closed-feeders t closed) })
      b
