-- The regions that are found by feeders are the regions of the view.
use Rattle.std.proofs.Common.{◌≡◌, ◌<◌, inl, inr, ℕ, zero, suc, not, ◌&&◌, ◌||◌, nat_lt, nat_eq, Bool, true, false, if◌then◌else◌, Option, None, Some, List, [], ◌∷◌, map, length, get_or, refl, arith, ap, sym, subst, ◌∙◌, bit_or}
use Rattle.std.specs.List.{list_any, find}
use Rattle.std.proofs.lemmas.Bool.{cases_Bool, true≢false}
use Rattle.blz_value.specs.Bits.{bit_of, members}
use Rattle.blz_value.specs.Closure.{within}
use Rattle.blz_value.proofs.Members.{in-within, in-or}
use Rattle.blz_value.specs.Members.{Has}
use Rattle.blz_value.proofs.Membership.{Has-from_any, any_from_Has}
use Rattle.topo_graph.specs.Code.Feeders.{feeders, all_feeders}
use Rattle.blz_value.specs.Regions.{together_by, region_by, is_blocked_by, is_next_by, next_by, regions_by, is_cyclic_by}
use Rattle.topo_forms.specs.Found.{HasEnds}
use Rattle.blz_value.specs.Graph.{Edge, arrows, is_in, up, together, region, is_blocked, is_next, next, regions_from, is_cyclic_set}
use Rattle.topo_forms.specs.Regions.{edges}
use Rattle.blz_value.specs.NumberSets.{below}
use Rattle.blz_value.proofs.Booleans.{same_truth, not_true, and_true, both_true, none_of}
use Rattle.blz_value.proofs.Ranges.{Has-below as from_below, at_below}
use Rattle.blz_value.proofs.Lists.{same_count as same_number}
use Rattle.topo_forms.specs.View.{View}
use Rattle.topo_graph.proofs.Feeding.{feeder_arrows, own_number, edge-feeds, feeder-edge, feeders-within, bounds_of, closure-same}
use Rattle.topo_forms.proofs.Regions.Numbering.{any-none, find-some}
use Rattle.topo_forms.proofs.Regions.RegionOrder.{where_same}
use Rattle.topo_forms.proofs.Regions.Spreading.{in_below}

find_same : (f g : ℕ → Bool) (ns : List ℕ) → ((k : ℕ) → Has k ns → f k ≡ g k) → find f ns ≡ find g ns
find_same f g [] same = refl
find_same f g (n ∷ ns) same =
    let one : f n ≡ g n = same n (inl refl) in
    let more = find_same f g ns (λ k has. same k (inr has)) in
    rw (one, more) refl

neither_of : (a b : Bool) → (not a && not b) ≡ false → (a || b) ≡ true
neither_of true b e = refl
neither_of false true e = refl
neither_of false false e = absurd (true≢false e)

second_false : (a b : Bool) → a ≡ true → (a && b) ≡ false → b ≡ false
second_false a b p e = rw p at e

module _ (v : View) (given : HasEnds v) where
  abbrev n : ℕ
  n = length v.components

  at_feeding : (c : ℕ) → c < n → get_or (all_feeders v) c 0 ≡ feeders v c
  at_feeding c lt = at_below (feeders v) n c 0 lt

  abbrev pub ups : List ℕ
  ups = map (up (feeder_arrows v)) (below n)

  at_ups : (c : ℕ) → c < n → get_or ups c 0 ≡ up (arrows (edges v)) c
  at_ups c lt = at_below (up (feeder_arrows v)) n c 0 lt ∙ closure-same v given (bit_of c)

  together-same : (c d : ℕ) → c < n → d < n → together_by ups c d ≡ together (arrows (edges v)) c d
  together-same c d lc ld = let one = at_ups c lc in let two = at_ups d ld in λ i. is_in d (one i) && is_in c (two i)

  -- the region of a component
  pub region-same : (c : ℕ) → c < n → region_by ups n c ≡ region (arrows (edges v)) n c
  region-same c lt = where_same (together_by ups c) (together (arrows (edges v)) c) (below n) (λ d has. together-same c d lt (from_below n d has))

  -- ---- blocked regions

  blocked-there : (set done : ℕ) → is_blocked_by (all_feeders v) n set done ≡ true → is_blocked (edges v) set done ≡ true
  blocked-there set done h = elim (cases_Bool (is_blocked (edges v) set done)) [
    | inl t ↦ t
    | inr f ↦ absurd (
        let found = Has-from_any (λ c. is_in c set && not (within (get_or (all_feeders v) c 0) (bit_or done set))) (below n) h in
        let c = found.0 in
        let lt = from_below n c found.1 in
        let both = both_true (is_in c set) (not (within (get_or (all_feeders v) c 0) (bit_or done set))) found.2 in
        let outside : within (feeders v c) (bit_or done set) ≡ false = subst (λ (s : ℕ). within s (bit_or done set) ≡ false) (at_feeding c lt) (not_true _ both.1) in
        let inside : within (feeders v c) (bit_or done set) ≡ true = feeders-within v c (bit_or done set) (λ e has is.
        let l0 : e.0 < 64 = omega (arith, (bounds_of v given e has).0, given.few_components) in
        let none = any-none (λ (e : Edge). is_in e.1 set && (not (is_in e.0 done) && not (is_in e.0 set))) (edges v) f e has in
        let into : is_in e.1 set ≡ true = rw is both.0 in
        in-or e.0 done set l0 ∙ neither_of (is_in e.0 done) (is_in e.0 set) (second_false (is_in e.1 set) _ into none)) in
        true≢false (sym inside ∙ outside)
        )
  ]

  blocked-back : (set done : ℕ) → is_blocked (edges v) set done ≡ true → is_blocked_by (all_feeders v) n set done ≡ true
  blocked-back set done h =
      let found = Has-from_any (λ (e : Edge). is_in e.1 set && (not (is_in e.0 done) && not (is_in e.0 set))) (edges v) h in
      let e = found.0 in
      let bounds = bounds_of v given e found.1 in
      let l0 : e.0 < 64 = omega (arith, bounds.0, given.few_components) in
      let first = both_true (is_in e.1 set) (not (is_in e.0 done) && not (is_in e.0 set)) found.2 in
      let last = both_true (not (is_in e.0 done)) (not (is_in e.0 set)) first.1 in
      let out : within (feeders v e.1) (bit_or done set) ≡ false = elim (cases_Bool (within (feeders v e.1) (bit_or done set))) [
        | inr f ↦ f
        | inl t ↦ absurd (true≢false (
            sym (in-within e.0 (feeders v e.1) (bit_or done set) l0 (edge-feeds v e found.1 l0) t)
            ∙ in-or e.0 done set l0
            ∙ none_of (is_in e.0 done) (is_in e.0 set) (not_true (is_in e.0 done) last.0) (not_true (is_in e.0 set) last.1)))
      ] in
      let at = at_feeding e.1 bounds.1 in
      any_from_Has (λ c. is_in c set && not (within (get_or (all_feeders v) c 0) (bit_or done set))) e.1 (below n) (in_below n e.1 bounds.1)
      (and_true (is_in e.1 set) (not (within (get_or (all_feeders v) e.1 0) (bit_or done set))) first.0 (ap (λ (s : ℕ). not (within s (bit_or done set))) at ∙ ap not out))

  blocked-same : (set done : ℕ) → is_blocked_by (all_feeders v) n set done ≡ is_blocked (edges v) set done
  blocked-same set done = same_truth (is_blocked_by (all_feeders v) n set done) (is_blocked (edges v) set done) (blocked-there set done) (blocked-back set done)

  -- ---- the numbers of regions

  abbrev pub sets : List ℕ
  sets = map (region (arrows (edges v)) n) (below n)

  at_sets : (c : ℕ) → c < n → get_or sets c 0 ≡ region (arrows (edges v)) n c
  at_sets c lt = at_below (region (arrows (edges v)) n) n c 0 lt

  next-same : (done : ℕ) → next_by (all_feeders v) sets n done ≡ next (edges v) (arrows (edges v)) n done
  next-same done = find_same (is_next_by (all_feeders v) sets n done) (is_next (edges v) (arrows (edges v)) n done) (below n) (λ c has.
      let at = at_sets c (from_below n c has) in
      let blocked = blocked-same (region (arrows (edges v)) n c) done in
      ap (λ (set : ℕ). not (is_in c done) && not (is_blocked_by (all_feeders v) n set done)) at ∙ ap (λ (b : Bool). not (is_in c done) && not b) blocked)

  abbrev continued : ℕ → ℕ → Option ℕ → List ℕ
  continued left done None = []
  continued left done (Some c) = get_or sets c 0 ∷ regions_by (all_feeders v) sets n left (bit_or done (get_or sets c 0))

  abbrev wanted : ℕ → ℕ → Option ℕ → List ℕ
  wanted left done None = []
  wanted left done (Some c) = region (arrows (edges v)) n c ∷ regions_from (edges v) (arrows (edges v)) n left (bit_or done (region (arrows (edges v)) n c))

  -- the regions by their numbers
  pub regions-same : (left done : ℕ) → regions_by (all_feeders v) sets n left done ≡ regions_from (edges v) (arrows (edges v)) n left done
  regions-same zero done = refl
  regions-same (suc left) done =
      ap (continued left done) (next-same done) ∙ go (next (edges v) (arrows (edges v)) n done) refl (λ d. regions-same left d)
    where
      go : (o : Option ℕ) → next (edges v) (arrows (edges v)) n done ≡ o → ((d : ℕ) → regions_by (all_feeders v) sets n left d ≡ regions_from (edges v) (arrows (edges v)) n left d) → continued left done o ≡ wanted left done o
      go None e more = refl
      go (Some c) e more =
          let found = find-some (is_next (edges v) (arrows (edges v)) n done) (below n) c e in
          let at = at_sets c (from_below n c found.0) in
          let later = more (bit_or done (region (arrows (edges v)) n c)) in
          ap (λ (set : ℕ). set ∷ regions_by (all_feeders v) sets n left (bit_or done set)) at ∙ ap (λ (rest : List ℕ). region (arrows (edges v)) n c ∷ rest) later

  -- ---- cyclic regions

  itself-there : (set : ℕ) → list_any (λ c. is_in c set && is_in c (get_or (all_feeders v) c 0)) (below n) ≡ true → list_any (λ (e : Edge). nat_eq e.0 e.1 && is_in e.0 set) (edges v) ≡ true
  itself-there set h =
      let found = Has-from_any (λ c. is_in c set && is_in c (get_or (all_feeders v) c 0)) (below n) h in
      let c = found.0 in
      let lt = from_below n c found.1 in
      let both = both_true (is_in c set) (is_in c (get_or (all_feeders v) c 0)) found.2 in
      let fed : is_in c (feeders v c) ≡ true = subst (λ (s : ℕ). is_in c s ≡ true) (at_feeding c lt) both.1 in
      any_from_Has (λ (e : Edge). nat_eq e.0 e.1 && is_in e.0 set) (c, c) (edges v) (feeder-edge v c c (omega (arith, lt, given.few_components)) fed)
      (and_true (nat_eq c c) (is_in c set) (own_number c) both.0)

  itself-back : (set : ℕ) → list_any (λ (e : Edge). nat_eq e.0 e.1 && is_in e.0 set) (edges v) ≡ true → list_any (λ c. is_in c set && is_in c (get_or (all_feeders v) c 0)) (below n) ≡ true
  itself-back set h =
      let found = Has-from_any (λ (e : Edge). nat_eq e.0 e.1 && is_in e.0 set) (edges v) h in
      let e = found.0 in
      let bounds = bounds_of v given e found.1 in
      let both = both_true (nat_eq e.0 e.1) (is_in e.0 set) found.2 in
      let same : e.0 ≡ e.1 = same_number e.0 e.1 both.0 in
      let fed : is_in e.0 (feeders v e.0) ≡ true = subst (λ (c : ℕ). is_in e.0 (feeders v c) ≡ true) (sym same) (edge-feeds v e found.1 (omega (arith, bounds.0, given.few_components))) in
      let at = at_feeding e.0 bounds.0 in
      any_from_Has (λ c. is_in c set && is_in c (get_or (all_feeders v) c 0)) e.0 (below n) (in_below n e.0 bounds.0)
      (and_true (is_in e.0 set) (is_in e.0 (get_or (all_feeders v) e.0 0)) both.1 (ap (λ (s : ℕ). is_in e.0 s) at ∙ fed))

  -- a set is cyclic by feeders where it is by edges
  pub cyclic-same : (set : ℕ) → is_cyclic_by (all_feeders v) n set ≡ is_cyclic_set (edges v) set
  cyclic-same set =
      ap (λ (b : Bool). if nat_lt 1 (length (members set)) then true else b)
      (same_truth (list_any (λ c. is_in c set && is_in c (get_or (all_feeders v) c 0)) (below n)) (list_any (λ (e : Edge). nat_eq e.0 e.1 && is_in e.0 set) (edges v)) (itself-there set) (itself-back set))
