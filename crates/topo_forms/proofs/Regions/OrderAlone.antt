-- An Order component is a region of its own, and that isn't cyclic.
use Rattle.std.proofs.Common.{◌≡◌, ◌≤◌, ◌<◌, ℕ, zero, suc, ◌+◌, nat_eq, nat_lt, ◌&&◌, Bool, true, false, if◌then◌else◌, ◌∷◌, length, filter, refl, arith, rules, sym, subst, ◌∙◌}
use Rattle.std.specs.List.{list_any, range_with_len}
use Rattle.std.proofs.lemmas.Bool.{true≢false, false_from_ne_true, eqb-true}
use Rattle.blz_value.proofs.Membership.{Has-from_any}
use Rattle.blz_value.specs.Bits.{bit_of, meets, members}
use Rattle.blz_value.proofs.Members.{member_small}
use Rattle.bloom_forms.proofs.Collections.Chosen.{from_chosen}
use Rattle.blz_value.specs.Graph.{Edge, arrows, is_in, together, region, is_cyclic_set}
use Rattle.topo_forms.specs.Laws.{OrderIsAcyclic}
use Rattle.topo_forms.specs.Regions.{edges, region_set, is_in_cycle}
use Rattle.blz_value.specs.NumberSets.{below}
use Rattle.blz_value.proofs.Booleans.{both_true}
use Rattle.topo_forms.specs.Valid.{IsValid}
use Rattle.topo_forms.specs.View.{View, is_order}
use Rattle.topo_forms.proofs.Regions.Classes.{together-up}
use Rattle.topo_forms.proofs.Regions.Lower.{edge_free, order_alone}

-- a filter that keeps one number of a range at most
one_kept : (p : ℕ → Bool) (c at n : ℕ) → ((k : ℕ) → at ≤ k → p k ≡ true → k ≡ c) → length (filter p (range_with_len at n)) ≤ 1
one_kept p c at zero only = omega arith
one_kept p c at (suc n) only = by (p at) refl (one_kept p c (at + 1) n (λ k le. only k (omega arith)))
  where
    none : (from m : ℕ) → c < from → at ≤ from → length (filter p (range_with_len from m)) ≡ 0
    none from zero lt le = refl
    none from (suc m) lt le = go (p from) refl (none (from + 1) m (omega arith) (omega arith))
      where
        go : (b : Bool) → p from ≡ b → length (filter p (range_with_len (from + 1) m)) ≡ 0 → length (if b then from ∷ filter p (range_with_len (from + 1) m) else filter p (range_with_len (from + 1) m)) ≡ 0
        go true e h = absurd (let same : from ≡ c = only from le e in omega arith)
        go false e h = h

    by : (b : Bool) → p at ≡ b → length (filter p (range_with_len (at + 1) n)) ≤ 1 → length (if b then at ∷ filter p (range_with_len (at + 1) n) else filter p (range_with_len (at + 1) n)) ≤ 1
    by true e h = let same : at ≡ c = only at (omega arith) e in omega (arith, none (at + 1) n (omega arith) (omega arith))
    by false e h = h

not_above : (n : ℕ) → n ≤ 1 → nat_lt 1 n ≡ false
not_above n le = search rules

if_neither : (a b : Bool) → a ≡ false → b ≡ false → (if a then true else b) ≡ false
if_neither true b p q = absurd (true≢false p)
if_neither false b p q = q

module _ (v : View) (valid : IsValid v) where
  few : length v.components ≤ 64
  few = omega (arith, valid.numbered.few_components)

  -- its region has no other member
  region_alone : (c k : ℕ) → c < length v.components → is_order v c ≡ true → is_in k (region_set v c) ≡ true → k ≡ c
  unfolding region_set
  region_alone c k lc ordered h =
      let small : k < 64 = member_small k (region (arrows (edges v)) (length v.components) c) h in
      let chosen = from_chosen (together (arrows (edges v)) c) (λ n. n) (below (length v.components)) k small h in
      let joined : together (arrows (edges v)) c k ≡ true = subst (λ (n : ℕ). together (arrows (edges v)) c n ≡ true) chosen.is chosen.passes in
      sym (order_alone v valid k c small (omega (arith, lc, few)) ordered (together-up (arrows (edges v)) c k joined))

  alone_acyclic : (c : ℕ) → c < length v.components → is_order v c ≡ true → is_cyclic_set (edges v) (region_set v c) ≡ false
  alone_acyclic c lc ordered =
      let short : length (members (region_set v c)) ≤ 1 = one_kept (λ k. meets (bit_of k) (region_set v c)) c 0 64 (λ k le h. region_alone c k lc ordered h) in
      let one = not_above (length (members (region_set v c))) short in
      let quiet : list_any (λ (e : Edge). nat_eq e.0 e.1 && is_in e.0 (region_set v c)) (edges v) ≡ false = false_from_ne_true _ (λ some. loop some) in
      if_neither (nat_lt 1 (length (members (region_set v c)))) (list_any (λ (e : Edge). nat_eq e.0 e.1 && is_in e.0 (region_set v c)) (edges v)) one quiet
    where
      loop : list_any (λ (e : Edge). nat_eq e.0 e.1 && is_in e.0 (region_set v c)) (edges v) ≡ true → ⊥
      loop some =
          let found = Has-from_any (λ (e : Edge). nat_eq e.0 e.1 && is_in e.0 (region_set v c)) (edges v) some in
          let both = both_true (nat_eq found.0.0 found.0.1) (is_in found.0.0 (region_set v c)) found.2 in
          let there : found.0.1 ≡ c = sym (eqb-true found.0.0 found.0.1 both.0) ∙ region_alone c found.0.0 lc ordered both.1 in
          true≢false (sym ordered ∙ subst (λ (n : ℕ). is_order v n ≡ false) there (edge_free v valid found.0 found.1))

pub order_acyclic : OrderIsAcyclic
unfolding is_in_cycle
order_acyclic v c valid lc ordered = alone_acyclic v valid c lc ordered
