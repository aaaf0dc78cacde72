-- A planned topology differs in modes alone, and what is Order stays so, whichever steps are taken; and it is planned step by step from a member of each region.
use Rattle.std.proofs.Common.{◌≡◌, ◌≤◌, ◌<◌, inl, inr, ℕ, suc, nat_eq, nat_lt, Bool, true, false, ◌&&◌, ◌||◌, if◌then◌else◌, Option, None, Some, List, [], ◌∷◌, length, get_or, fold, refl, arith, ap, sym, subst, ◌∙◌, bit_or}
use Rattle.std.specs.List.{list_any}
use Rattle.std.proofs.lemmas.Bool.{true≢false, ltb-false}
use Rattle.blz_value.specs.declared.attrs.Attrs.{Attrs}
use Rattle.blz_value.specs.Bits.{members}
use Rattle.blz_value.proofs.Members.{in-or}
use Rattle.blz_value.proofs.MembersInOrder.{from_members, in_members}
use Rattle.blz_value.specs.Members.{Has}
use Rattle.bloom_forms.specs.declared.mode.Mode.{Mode}
use Rattle.bloom_forms.specs.declared.mode.Mode.TheVariants as mode
use Rattle.blz_value.specs.Graph.{Edge, arrows, is_in, region, is_cyclic_set, numbered_regions}
use Rattle.topo_forms.specs.Regions.{edges, region_set, regions, is_in_cycle}
use Rattle.topo_forms.specs.Valid.{IsValid}
use Rattle.topo_forms.specs.View.{View, Component, is_order, is_order_mode, mode_of, mode_key, with_mode}
use Rattle.label_walk.proofs.Upstream.Alike.{holding, same_length}
use Rattle.label_walk.specs.LabelLaws.{DifferInModes}
use Rattle.coord_modes.specs.declared.steps.Steps.{Steps}
use Rattle.coord_synth.specs.Code.Shapes.{AreFirsts, plan_at}
use Rattle.coord_synth.specs.Laws.{PlansSetModes, PlansKeepOrder}
use Rattle.coord_modes.specs.Plan.{freed, tried_mode, kept_key, wants_order, with_key, plan_component, order_member, cycle_wants_order, plan_cycle, plan_region, planned_by}
use Rattle.coord_modes.proofs.CyclesLater.{acyclic_still, still, in_cycle}
use Rattle.coord_modes.proofs.FreshRegions.{AreFresh, are_fresh}
use Rattle.coord_modes.proofs.Later.{Later, region_of_member, own_member}
use Rattle.coord_synth.proofs.PlanLaw.{start, start_keyless, start_later, start_valid, freed_map}
use Rattle.coord_modes.proofs.PlanSteps.{changed, changed_other, later_changed, order_all}

module _ (b : View) (xs : List Component) (valid : IsValid (holding b xs)) (unkeyed : (c : ℕ) → mode_key (mode_of (holding b xs) c) ≡ None) (steps : Steps) where
  abbrev f : View
  f = holding b xs

  -- a topology with modes that a plan may set at a region, from one with these components
  record Kept (r : ℕ) (ys : List Component) (view : View) : Type 0 where
    zs : List Component
    is : view ≡ holding b zs
    later : Later b xs zs
    others : (d : ℕ) → is_in d r ≡ false → mode_of (holding b zs) d ≡ mode_of (holding b ys) d

  same : (r : ℕ) (ys : List Component) → Later b xs ys → Kept r ys (holding b ys)
  same r ys later = record { zs = ys; is = refl; later = later; others = λ d out. refl }

  -- another mode of a member
  set_one : (r : ℕ) (ys : List Component) (c : ℕ) (m : Mode) → Later b xs ys → is_in c r ≡ true → c < length ys → (is_order f c ≡ true → is_order_mode m ≡ true) → (is_in_cycle f c ≡ true → mode_key m ≡ None) → Kept r ys (with_mode (holding b ys) c m)
  set_one r ys c m later here there orders keys = record {
    zs = changed b ys c m;
    is = refl;
    later = later_changed b xs valid unkeyed ys c m later there orders keys;
    others = λ d out. changed_other b ys c m d (λ e. true≢false (sym here ∙ subst (λ (n : ℕ). is_in n r ≡ false) e out));
  }

  component_kept : (r c : ℕ) → is_in c r ≡ true → c < length xs → is_in_cycle f c ≡ false → (ys : List Component) → Later b xs ys → Kept r ys (plan_component steps (holding b ys) c)
  component_kept r c here lt acyclic ys later = by (is_order (holding b ys) c) refl
    where
      there : c < length ys
      there = omega (arith, same_length xs ys later.freed, lt)

      ordered_by : (x : Bool) → Kept r ys (if x then with_mode (holding b ys) c mode.Order else holding b ys)
      ordered_by true = set_one r ys c mode.Order later here there (λ o. refl) (λ h. refl)
      ordered_by false = same r ys later

      keyed_by : is_order (holding b ys) c ≡ false → (o : Option Attrs) → Kept r ys (with_key steps (holding b ys) c o)
      keyed_by free None = ordered_by (steps.orders && wants_order (holding b ys) c)
      keyed_by free (Some key) = set_one r ys c (tried_mode (holding b ys) c key) later here there
          (λ o. absurd (true≢false (sym (later.orders c o) ∙ free))) (λ cyclic. absurd (true≢false (sym cyclic ∙ acyclic)))

      by : (x : Bool) → is_order (holding b ys) c ≡ x → Kept r ys (if x then holding b ys else with_key steps (holding b ys) c (kept_key steps (holding b ys) c))
      by true q = same r ys later
      by false q = keyed_by q (kept_key steps (holding b ys) c)

  components_kept : (r : ℕ) (ms : List ℕ) → ((d : ℕ) → Has d ms → (is_in d r ≡ true) × (d < length xs) × (is_in_cycle f d ≡ false)) → (ys : List Component) → Later b xs ys → Kept r ys (fold (plan_component steps) (holding b ys) ms)
  components_kept r [] each ys later = same r ys later
  components_kept r (m ∷ ms) each ys later =
      let own = each m (inl refl) in
      let one = component_kept r m own.0 own.1 own.2 ys later in
      let more = components_kept r ms (λ d has. each d (inr has)) one.zs one.later in
      record {
        zs = more.zs;
        is = ap (λ (view : View). fold (plan_component steps) view ms) one.is ∙ more.is;
        later = more.later;
        others = λ d out. more.others d out ∙ one.others d out;
      }

  acyclic_of : (c : ℕ) → is_cyclic_set (edges f) (region_set f c) ≡ false → is_in_cycle f c ≡ false
  unfolding is_in_cycle
  acyclic_of c e = e

  of_region : (c r : ℕ) → r ≡ region (arrows (edges f)) (length xs) c → r ≡ region_set f c
  unfolding region_set
  of_region c r e = e

  -- a set that is the region of a component
  module _ (r first : ℕ) (lt : first < length xs) (is : r ≡ region_set f first) (ys : List Component) (later : Later b xs ys) where
    own : (d : ℕ) → is_in d r ≡ true → (d < length xs) × (r ≡ region_set f d)
    own d here =
        let both = region_of_member b xs ys valid later first d lt (subst (λ (x : ℕ). is_in d x ≡ true) is here) in
        (both.0, is ∙ both.1)

    member_in : (d : ℕ) → Has d (members r) → is_in d r ≡ true
    member_in d has = (from_members r d has).1

    outside : is_cyclic_set (edges f) r ≡ false → (d : ℕ) → is_in d r ≡ true → is_in_cycle f d ≡ false
    outside q d here = acyclic_of d (ap (is_cyclic_set (edges f)) (sym (own d here).1) ∙ q)

    region_kept : Kept r ys (plan_region steps f (holding b ys) r)
    region_kept = by (is_cyclic_set (edges f) r) refl
      where
        ordered_by : (x : Bool) → Kept r ys (if x then fold order_member (holding b ys) (members r) else holding b ys)
        ordered_by true =
            let o = order_all b xs valid unkeyed (members r) ys later (λ d has. (own d (member_in d has)).0) in
            record { zs = o.zs; is = o.is; later = o.later; others = λ d out. o.outside d (λ has. true≢false (sym (member_in d has) ∙ out)) }
        ordered_by false = same r ys later

        by : (x : Bool) → is_cyclic_set (edges f) r ≡ x → Kept r ys (if x then plan_cycle steps (holding b ys) r else fold (plan_component steps) (holding b ys) (members r))
        by true q = ordered_by (steps.orders && cycle_wants_order (holding b ys) r)
        by false q = components_kept r (members r) (λ d has. let here = member_in d has in (here, (own d here).0, outside q d here)) ys later

    -- a set of one number, which is its only member
    one_long : (c : ℕ) (ms : List ℕ) → Has c ms → length ms ≤ 1 → ms ≡ c ∷ []
    one_long c [] has le = absurd has
    one_long c (m ∷ []) (inl e) le = ap (λ (n : ℕ). n ∷ []) e
    one_long c (m ∷ []) (inr has) le = absurd has
    one_long c (m ∷ n ∷ ms) has le = absurd (omega arith)

    -- the steps at the region are those that are found at a member, where the members have the modes that they began with
    planned_at : (c : ℕ) → is_in c r ≡ true → ((d : ℕ) → is_in d r ≡ true → mode_of (holding b ys) d ≡ mode_of f d) → plan_region steps f (holding b ys) r ≡ plan_at steps (holding b ys) c
    planned_at c here begun = by (is_cyclic_set (edges f) r) refl
      where
        choice : (x y : Bool) (p q : View) → y ≡ x → (if x then p else q) ≡ (if y then p else q)
        choice x y p q e = ap (λ (z : Bool). if z then p else q) (sym e)

        first_test : (x y : Bool) → (if x then true else y) ≡ false → x ≡ false
        first_test true y e = absurd (true≢false e)
        first_test false y e = refl

        by : (x : Bool) → is_cyclic_set (edges f) r ≡ x → (if x then plan_cycle steps (holding b ys) r else fold (plan_component steps) (holding b ys) (members r)) ≡ plan_at steps (holding b ys) c
        by true q =
            ap (plan_cycle steps (holding b ys)) (sym (still b xs ys valid later r first lt is begun c here))
            ∙ choice true (is_in_cycle (holding b ys) c) (plan_cycle steps (holding b ys) (region_set (holding b ys) c)) (plan_component steps (holding b ys) c) (in_cycle b xs ys valid later r first lt is begun q c here)
        by false q =
            let short : length (members r) ≤ 1 = ltb-false 1 (length (members r)) (first_test (nat_lt 1 (length (members r))) (list_any (λ (e : Edge). nat_eq e.0 e.1 && is_in e.0 r) (edges f)) q) in
            ap (fold (plan_component steps) (holding b ys)) (one_long c (members r) (in_members r c here) short)
            ∙ choice false (is_in_cycle (holding b ys) c) (plan_cycle steps (holding b ys) (region_set (holding b ys) c)) (plan_component steps (holding b ys) c) (acyclic_still b xs ys valid later c (own c here).0 (outside q c here))

  -- ---- all regions

  -- what is planned in the end, and step by step from a member of each region
  record Walked (sets firsts : List ℕ) (ys : List Component) : Type 0 where
    zs : List Component
    is : fold (plan_region steps f) (holding b ys) sets ≡ holding b zs
    later : Later b xs zs
    by_members : fold (plan_region steps f) (holding b ys) sets ≡ fold (plan_at steps) (holding b ys) firsts

  -- each is a member of the set beside it
  abbrev AreMembers : List ℕ → List ℕ → Type 0
  AreMembers [] [] = Unit {0}
  AreMembers [] (n ∷ firsts) = ⊥
  AreMembers (r ∷ sets) [] = ⊥
  AreMembers (r ∷ sets) (n ∷ firsts) = (is_in n r ≡ true) × AreMembers sets firsts

  -- the modes that aren't planned yet
  abbrev AreBegun : ℕ → List Component → Type 0
  AreBegun done ys = (c : ℕ) → c < length xs → is_in c done ≡ false → mode_of (holding b ys) c ≡ mode_of f c

  walk : (done : ℕ) (sets firsts : List ℕ) → AreFresh (arrows (edges f)) (length xs) done sets → AreMembers sets firsts → (ys : List Component) → Later b xs ys → AreBegun done ys → Walked sets firsts ys
  walk done [] [] fresh members ys later begun = record { zs = ys; is = refl; later = later; by_members = refl }
  walk done [] (n ∷ firsts) fresh members ys later begun = absurd members
  walk done (r ∷ sets) [] fresh members ys later begun = absurd members
  walk done (r ∷ sets) (n ∷ firsts) fresh members ys later begun =
      let is : r ≡ region_set f fresh.0.0 = of_region fresh.0.0 r fresh.0.2 in
      let one = region_kept r fresh.0.0 fresh.0.1 is ys later in
      let at = planned_at r fresh.0.0 fresh.0.1 is ys later n members.0 (λ d here. begun d (own r fresh.0.0 fresh.0.1 is ys later d here).0 (fresh.1.0 d here)) in
      let more = walk (bit_or done r) sets firsts fresh.1.1 members.1 one.zs one.later (λ c lt out. let both = neither c lt out in one.others c both.1 ∙ begun c lt both.0) in
      record {
        zs = more.zs;
        is = ap (λ (view : View). fold (plan_region steps f) view sets) one.is ∙ more.is;
        later = more.later;
        by_members =
            ap (λ (view : View). fold (plan_region steps f) view sets) one.is ∙ more.by_members
            ∙ ap (λ (view : View). fold (plan_at steps) view firsts) (sym one.is ∙ at);
      }
    where
      neither : (c : ℕ) → c < length xs → is_in c (bit_or done r) ≡ false → (is_in c done ≡ false) × (is_in c r ≡ false)
      neither c lt out = go (is_in c done) (is_in c r) (sym (in-or c done r (let few = valid.numbered.few_components in omega (arith, few, lt))) ∙ out)
        where
          go : (x y : Bool) → (x || y) ≡ false → (x ≡ false) × (y ≡ false)
          go true y e = absurd (true≢false e)
          go false y e = (refl, e)

  -- the members by their places
  by_place : (sets firsts : List ℕ) → length firsts ≡ length sets → ((k : ℕ) → k < length firsts → is_in (get_or firsts k 0) (get_or sets k 0) ≡ true) → AreMembers sets firsts
  by_place [] [] count each = tt
  by_place [] (n ∷ firsts) count each = absurd (omega (arith, count))
  by_place (r ∷ sets) [] count each = absurd (omega (arith, count))
  by_place (r ∷ sets) (n ∷ firsts) count each = (each 0 (omega arith), by_place sets firsts (omega (arith, count)) (λ k lt. each (suc k) (omega (arith, lt))))

  itself : Later b xs xs
  itself = record { freed = refl; orders = λ c e. e; keyless = λ c e. unkeyed c }

  fresh_regions : AreFresh (arrows (edges f)) (length xs) 0 (numbered_regions (edges f) (length xs))
  fresh_regions = let few = valid.numbered.few_components in are_fresh (length xs) (edges f) (omega (arith, few))

  -- from a member of each region
  planned : (firsts : List ℕ) → AreFirsts f firsts → Walked (regions f) firsts xs
  unfolding regions
  planned firsts are =
      walk 0 (numbered_regions (edges f) (length xs)) firsts fresh_regions (by_place (numbered_regions (edges f) (length xs)) firsts are.each are.members) xs itself (λ c lt out. refl)

  -- there are such members
  some_members : (done : ℕ) (sets : List ℕ) → AreFresh (arrows (edges f)) (length xs) done sets → (firsts : List ℕ) × AreMembers sets firsts
  some_members done [] fresh = ([], tt)
  some_members done (r ∷ sets) fresh =
      let more = some_members (bit_or done r) sets fresh.1.1 in
      let is : r ≡ region_set f fresh.0.0 = of_region fresh.0.0 r fresh.0.2 in
      (fresh.0.0 ∷ more.0, (subst (λ (x : ℕ). is_in fresh.0.0 x ≡ true) (sym is) (own_member b xs xs valid itself fresh.0.0 fresh.0.1), more.1))

  planned_modes : (zs : List Component) × (fold (plan_region steps f) f (regions f) ≡ holding b zs) × Later b xs zs
  unfolding regions
  planned_modes =
      let some = some_members 0 (numbered_regions (edges f) (length xs)) fresh_regions in
      let all = walk 0 (numbered_regions (edges f) (length xs)) some.0 fresh_regions some.1 xs itself (λ c lt out. refl) in
      (all.zs, all.is, all.later)

module _ (steps : Steps) (v : View) (valid : IsValid v) where
  abbrev first : View
  first = holding v (start v)

  kept : (zs : List Component) × (fold (plan_region steps first) first (regions first) ≡ holding v zs) × Later v (start v) zs
  kept = planned_modes v (start v) (start_valid v valid) (start_keyless v) steps

  planned_is : planned_by steps v ≡ holding v kept.0
  unfolding planned_by
  planned_is = kept.1

  other_modes : DifferInModes v (holding v kept.0)
  other_modes = let later = kept.2 in record {
    attributes = refl;
    streams = refl;
    fds = refl;
    components = freed_map v.components ∙ later.freed;
  }

  still_ordered : (c : ℕ) → is_order v c ≡ true → is_order (holding v kept.0) c ≡ true
  still_ordered c ordered = let first = start_later v in let later = kept.2 in later.orders c (first.orders c ordered)

  -- the plan from a member of each region, as they are found in the topology so far
  pub by_firsts : (firsts : List ℕ) → AreFirsts (freed v) firsts → fold (plan_at steps) (freed v) firsts ≡ planned_by steps v
  unfolding planned_by
  by_firsts firsts are = let all = planned v (start v) (start_valid v valid) (start_keyless v) steps firsts are in sym all.by_members

pub sets_modes : PlansSetModes
sets_modes steps v valid = subst (DifferInModes v) (sym (planned_is steps v valid)) (other_modes steps v valid)

pub keeps_order : PlansKeepOrder
keeps_order steps v c valid ordered = subst (λ (x : View). is_order x c ≡ true) (sym (planned_is steps v valid)) (still_ordered steps v valid c ordered)
