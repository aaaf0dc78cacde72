-- Each region has a first member, and the plan goes by it.
use Rattle.std.proofs.Common.{◌≡◌, ◌<◌, ◌+◌, ℕ, zero, suc, Bool, true, if◌then◌else◌, List, [], ◌∷◌, ◌++◌, length, get_or, fold, take, refl, arith, ap, sym, subst, ◌∙◌}
use Rattle.blz_value.specs.Members.{Has}
use Rattle.blz_value.proofs.Membership.{Has-get_or}
use Rattle.blz_value.proofs.MembersInOrder.{from_members, in_members}
use Rattle.bloom_forms.proofs.Collections.Chosen.{in_chosen}
use Rattle.blz_value.specs.Graph.{arrows, is_in, together}
use Rattle.topo_forms.specs.Regions.{edges, is_in_cycle, region_members, region_set, regions}
use Rattle.blz_value.specs.NumberSets.{below}
use Rattle.topo_forms.specs.Valid.{IsValid}
use Rattle.topo_forms.specs.View.{View}
use Rattle.topo_forms.proofs.Regions.Classes.{together-self}
use Rattle.topo_forms.proofs.Regions.RegionSets.{each_region, member_within}
use Rattle.topo_forms.proofs.Regions.Spreading.{in_below}
use Rattle.label_walk.specs.Paths.{region_at}
use Rattle.coord_modes.specs.declared.steps.Steps.{Steps}
use Rattle.coord_synth.specs.Code.Shapes.{AreFirsts, plan_at}
use Rattle.coord_modes.specs.Plan.{plan_component, plan_cycle}

own_in : (v : View) → IsValid v → (c : ℕ) → c < length v.components → is_in c (region_set v c) ≡ true
unfolding region_set
own_in v valid c lc =
    let few = valid.numbered.few_components in
    let small : c < 64 = omega (arith, few, lc) in
    in_chosen (together (arrows (edges v)) c) (λ n. n) (below (length v.components)) c (in_below (length v.components) c lc) (together-self (arrows (edges v)) c small) small

module _ (v : View) (valid : IsValid v) (r : ℕ) (lt : r < length (regions v)) where
  some_member : (c : ℕ) × Has c (region_members v r)
  some_member =
      let of = each_region v valid (region_at v r) (Has-get_or (regions v) r 0 lt) in
      (of.0, in_members (region_at v r) of.0 (subst (λ (set : ℕ). is_in of.0 set ≡ true) (sym of.2) (own_in v valid of.0 of.1)))

  filled : (ns : List ℕ) (n : ℕ) → Has n ns → 0 < length ns
  filled [] n has = absurd has
  filled (m ∷ ns) n has = omega arith

  pub has_first : 0 < length (region_members v r)
  has_first = filled (region_members v r) some_member.0 some_member.1

  pub first_in : (ms : List ℕ) (d : ℕ) → ms ≡ region_members v r → is_in (get_or ms 0 d) (region_at v r) ≡ true
  first_in ms d is = subst (λ (ns : List ℕ). is_in (get_or ns 0 d) (region_at v r) ≡ true) (sym is) (from_members (region_at v r) (get_or (region_members v r) 0 d) (Has-get_or (region_members v r) 0 d has_first)).1

-- a member of each region is a component
pub first_within : (v : View) → IsValid v → (firsts : List ℕ) → AreFirsts v firsts → (k : ℕ) → k < length firsts → get_or firsts k 0 < length v.components
first_within v valid firsts are k lt = member_within v valid (region_at v k) (get_or firsts k 0) (Has-get_or (regions v) k 0 (let each = are.each in omega (arith, lt, each))) (are.members k lt)

-- ---- the steps at a region

module _ (steps : Steps) (v : View) (c : ℕ) where
  pub at_cycle : (set : ℕ) → is_in_cycle v c ≡ true → set ≡ region_set v c → plan_cycle steps v set ≡ plan_at steps v c
  at_cycle set cyclic is = ap (plan_cycle steps v) is ∙ ap (λ (b : Bool). if b then plan_cycle steps v (region_set v c) else plan_component steps v c) (sym cyclic)

-- ---- one member more

pub fold_more : {X : Type 0} (f : X → ℕ → X) (a : X) (xs : List ℕ) (i : ℕ) → i < length xs → f (fold f a (take i xs)) (get_or xs i 0) ≡ fold f a (take (i + 1) xs)
fold_more f a [] i lt = absurd (omega arith)
fold_more f a (x ∷ xs) zero lt = refl
fold_more f a (x ∷ xs) (suc i) lt =
    let next : suc (i + 1) ≡ suc i + 1 = omega arith in
    fold_more f (f a x) xs i (omega arith) ∙ ap (λ (n : ℕ). fold f a (take n (x ∷ xs))) next
