-- With fewer streams that count: a region of which no member became Order is one still, and is cyclic where it was; a component that was in no cycle is in none.
use Rattle.std.proofs.Common.{◌≡◌, ◌<◌, ℕ, nat_eq, nat_lt, Bool, true, false, ◌&&◌, if◌then◌else◌, List, length, refl, ap, sym, subst, ◌∙◌}
use Rattle.std.specs.List.{list_any}
use Rattle.std.proofs.lemmas.Bool.{true≢false, false_from_ne_true, eqb-true}
use Rattle.blz_value.proofs.Membership.{Has-from_any, any_from_Has}
use Rattle.blz_value.specs.Bits.{members}
use Rattle.blz_value.specs.Graph.{Edge, is_in, is_cyclic_set}
use Rattle.blz_value.proofs.Booleans.{both_true}
use Rattle.topo_forms.specs.Regions.{edges, region_set, is_in_cycle}
use Rattle.topo_forms.specs.Valid.{IsValid}
use Rattle.topo_forms.specs.View.{View, Component, is_order, is_order_mode, mode_of}
use Rattle.topo_graph.proofs.OtherModes.{cyclic_more}
use Rattle.label_walk.proofs.Upstream.Alike.{holding}
use Rattle.coord_modes.proofs.Later.{Later, edge_before, edge_after, edge_unordered, region_before, region_kept, region_of_member}

module _ (b : View) (xs ys : List Component) (valid : IsValid (holding b xs)) (later : Later b xs ys) where
  abbrev f : View
  f = holding b xs

  abbrev t : View
  t = holding b ys

  cyclic_before : (set : ℕ) → is_cyclic_set (edges t) set ≡ true → is_cyclic_set (edges f) set ≡ true
  cyclic_before set cyclic = go (nat_lt 1 (length (members set))) cyclic
    where
      go : (x : Bool) → (if x then true else list_any (λ (e : Edge). nat_eq e.0 e.1 && is_in e.0 set) (edges t)) ≡ true → (if x then true else list_any (λ (e : Edge). nat_eq e.0 e.1 && is_in e.0 set) (edges f)) ≡ true
      go true h = refl
      go false h =
          let found = Has-from_any (λ (e : Edge). nat_eq e.0 e.1 && is_in e.0 set) (edges t) h in
          any_from_Has (λ (e : Edge). nat_eq e.0 e.1 && is_in e.0 set) found.0 (edges f) (edge_before b xs ys valid later found.0 found.1) found.2

  -- a component that was in no cycle is in none
  pub acyclic_still : (c : ℕ) → c < length xs → is_in_cycle f c ≡ false → is_in_cycle t c ≡ false
  unfolding is_in_cycle
  acyclic_still c lc acyclic = false_from_ne_true (is_cyclic_set (edges t) (region_set t c)) (λ cyclic.
      true≢false (sym (cyclic_more (edges f) (region_set t c) (region_set f c) (λ n h. region_before b xs ys valid later c n lc h) (cyclic_before (region_set t c) cyclic)) ∙ acyclic))

  -- ---- a cyclic region, whose members have the modes that they had

  module _ (r first : ℕ) (within : first < length xs) (is : r ≡ region_set f first) (begun : (d : ℕ) → is_in d r ≡ true → mode_of t d ≡ mode_of f d) where
    -- a member has this region
    pub member_of : (d : ℕ) → is_in d r ≡ true → (d < length xs) × (r ≡ region_set f d)
    member_of d h =
        let both = region_of_member b xs ys valid later first d within (subst (λ (x : ℕ). is_in d x ≡ true) is h) in
        (both.0, is ∙ both.1)

    pub still : (d : ℕ) → is_in d r ≡ true → region_set t d ≡ r
    still d h =
        let own = member_of d h in
        region_kept b xs ys valid later d own.0 (λ e inside free. ap is_order_mode (begun e (subst (λ (x : ℕ). is_in e x ≡ true) (sym own.1) inside)) ∙ free) ∙ sym own.1

    module _ (cyclic : is_cyclic_set (edges f) r ≡ true) where
      pub still_cyclic : is_cyclic_set (edges t) r ≡ true
      still_cyclic = go (nat_lt 1 (length (members r))) cyclic
        where
          go : (x : Bool) → (if x then true else list_any (λ (e : Edge). nat_eq e.0 e.1 && is_in e.0 r) (edges f)) ≡ true → (if x then true else list_any (λ (e : Edge). nat_eq e.0 e.1 && is_in e.0 r) (edges t)) ≡ true
          go true h = refl
          go false h =
              let found = Has-from_any (λ (e : Edge). nat_eq e.0 e.1 && is_in e.0 r) (edges f) h in
              let both = both_true (nat_eq found.0.0 found.0.1) (is_in found.0.0 r) found.2 in
              let there : is_in found.0.1 r ≡ true = subst (λ (n : ℕ). is_in n r ≡ true) (eqb-true found.0.0 found.0.1 both.0) both.1 in
              let free : is_order t found.0.1 ≡ false = ap is_order_mode (begun found.0.1 there) ∙ edge_unordered b xs ys valid later found.0 found.1 in
              any_from_Has (λ (e : Edge). nat_eq e.0 e.1 && is_in e.0 r) found.0 (edges t) (edge_after b xs ys valid later found.0 found.1 free) found.2

      pub in_cycle : (d : ℕ) → is_in d r ≡ true → is_in_cycle t d ≡ true
      unfolding is_in_cycle
      in_cycle d h = ap (is_cyclic_set (edges t)) (still d h) ∙ still_cyclic
