-- A plan of a valid topology is valid.
use Rattle.std.proofs.Common.{◌≡◌, ◌≢◌, ◌≤◌, ◌<◌, ◌&&◌, ◌⊎◌, inl, inr, ℕ, zero, suc, nat_lt, Bool, true, false, if◌then◌else◌, Option, None, Some, List, [], ◌∷◌, length, map, fold, get_or, slice_set, refl, arith, ap, sym, subst, ◌∙◌}
use Rattle.std.proofs.lemmas.Bool.{cases_Bool, cases_eq, true≢false}
use Rattle.std.proofs.lemmas.Bool.Decides.{nat_tests}
use Rattle.std.proofs.lemmas.List.{length-map, length-set, get_or-set_same, get_or-set_other}
use Rattle.std.proofs.Math.ListN.{get_or-map}
use Rattle.blz_value.specs.declared.attrs.Attrs.{Attrs}
use Rattle.blz_value.specs.Bits.{bit_of, meets, members}
use Rattle.blz_value.specs.Members.{Has}
use Rattle.blz_value.proofs.Membership.{Has-from_filter}
use Rattle.bloom_forms.proofs.Collections.Chosen.{from_chosen}
use Rattle.blz_value.proofs.Members.{member_small}
use Rattle.bloom_forms.specs.declared.mode.Mode.{Mode}
use Rattle.bloom_forms.specs.declared.mode.Mode.TheVariants.{Free, Pass, Seal, Order}
use Rattle.blz_value.specs.Graph.{arrows, is_in, together, region, is_cyclic_set, numbered_regions}
use Rattle.topo_forms.specs.OtherModes.{with_components, AreRemoded}
use Rattle.topo_forms.specs.Regions.{edges, regions, region_set, is_in_cycle}
use Rattle.blz_value.specs.NumberSets.{below}
use Rattle.blz_value.proofs.Ranges.{Has-below as from_below}
use Rattle.topo_forms.specs.Valid.{IsValid}
use Rattle.topo_forms.specs.View.{View, Component, no_component, component_at, component_with_mode, is_order, is_order_mode, mode_key, with_mode}
use Rattle.topo_forms.proofs.Regions.Lower.{given}
use Rattle.topo_graph.proofs.OtherModes.{other_modes_law, cyclic_more}
use Rattle.topo_forms.proofs.Regions.RegionOrder.{classes_at}
use Rattle.coord_synth.specs.Laws.{PlansKeepValid}
use Rattle.coord_modes.specs.declared.steps.Steps.{Steps}
use Rattle.coord_modes.specs.Plan.{freed, freed_component, tried_mode, wants_order, with_key, kept_key, plan_component, order_member, has_order_note, cycle_wants_order, plan_cycle, plan_region, planned_by}

set_past : {X : Type 0} (xs : List X) (i : ℕ) (x : X) → length xs ≤ i → slice_set xs i x ≡ xs
set_past [] i x past = refl
set_past (y ∷ xs) zero x past = absurd (omega (arith, past))
set_past (y ∷ xs) (suc i) x past = ap (λ ys. y ∷ ys) (set_past xs i x (omega (arith, past)))

-- ---- where a plan begins

module _ (v : View) (valid : IsValid v) where
  freed_at : (d : ℕ) → get_or (map freed_component v.components) d no_component ≡ freed_component (component_at v d)
  freed_at d = get_or-map freed_component v.components d no_component

  begun : AreRemoded v (map freed_component v.components)
  begun = record {
    count = length-map v.components freed_component;
    each = λ d. ap (component_with_mode Free) (freed_at d);
    ordered = λ d e. subst (λ (c : Component). is_order_mode c.mode ≡ true) (sym (freed_at d)) (still (component_at v d).mode e);
    keys = λ d lt e. ap (λ (c : Component). mode_key c.mode) (freed_at d) ∙ keyless (component_at v d).mode;
  }
    where
      still : (m : Mode) → is_order_mode m ≡ true → is_order_mode (if is_order_mode m then Order else Free) ≡ true
      still m e = rw e refl

      keyless : (m : Mode) → mode_key (if is_order_mode m then Order else Free) ≡ None
      keyless Free = refl
      keyless (Pass key) = refl
      keyless (Seal key) = refl
      keyless Order = refl

  start_valid : IsValid (freed v)
  start_valid = other_modes_law v (map freed_component v.components) valid begun

-- ---- what each step keeps

module _ (start : View) (valid : IsValid start) where
  -- the topology where the plan began, with other modes
  record Kept (now : View) : Type 0 where
    remoded : AreRemoded start now.components
    rest : with_components start now.components ≡ now

  set_mode : (now : View) → Kept now → (c : ℕ) (mode : Mode) → (is_order now c ≡ true → is_order_mode mode ≡ true) → (c < length start.components → is_in_cycle start c ≡ true → mode_key mode ≡ None) → Kept (with_mode now c mode)
  set_mode now k c mode order_ok key_ok = elim (cases_Bool (nat_lt c (length now.components))) [
    | inr past ↦ subst Kept (sym (ap (λ (cs : List Component). with_components now cs) (set_past now.components c (component_with_mode mode (component_at now c)) (let le : length now.components ≤ c = grind (arith, nat_tests) in le)))) k
    | inl t ↦ inside (let lt : c < length now.components = grind (arith, nat_tests) in lt)
  ]
    where
      inside : c < length now.components → Kept (with_mode now c mode)
      inside lt = record {
        remoded = record {
          count = length-set now.components c (component_with_mode mode (component_at now c)) ∙ k.remoded.count;
          each = λ d. each_at d (cases_eq d c);
          ordered = λ d e. ordered_at d e (cases_eq d c);
          keys = λ d ld e. keys_at d ld e (cases_eq d c);
        };
        rest = ap (λ (u : View). with_components u (slice_set now.components c (component_with_mode mode (component_at now c)))) k.rest;
      }
        where
          changed : get_or (slice_set now.components c (component_with_mode mode (component_at now c))) c no_component ≡ component_with_mode mode (component_at now c)
          changed = get_or-set_same now.components c (component_with_mode mode (component_at now c)) no_component lt

          unchanged : (d : ℕ) → d ≢ c → get_or (slice_set now.components c (component_with_mode mode (component_at now c))) d no_component ≡ component_at now d
          unchanged d other = get_or-set_other now.components c d (component_with_mode mode (component_at now c)) no_component other

          each_at : (d : ℕ) → (d ≡ c) ⊎ (d ≢ c) → component_with_mode Free (get_or (slice_set now.components c (component_with_mode mode (component_at now c))) d no_component) ≡ component_with_mode Free (component_at start d)
          each_at d (inl same) = subst (λ (n : ℕ). component_with_mode Free (get_or (slice_set now.components c (component_with_mode mode (component_at now c))) n no_component) ≡ component_with_mode Free (component_at start n)) (sym same) (ap (component_with_mode Free) changed ∙ k.remoded.each c)
          each_at d (inr other) = ap (component_with_mode Free) (unchanged d other) ∙ k.remoded.each d

          ordered_at : (d : ℕ) → is_order start d ≡ true → (d ≡ c) ⊎ (d ≢ c) → is_order_mode (get_or (slice_set now.components c (component_with_mode mode (component_at now c))) d no_component).mode ≡ true
          ordered_at d e (inl same) = subst (λ (n : ℕ). is_order_mode (get_or (slice_set now.components c (component_with_mode mode (component_at now c))) n no_component).mode ≡ true) (sym same)
              (ap (λ (x : Component). is_order_mode x.mode) changed ∙ order_ok (k.remoded.ordered c (subst (λ (n : ℕ). is_order start n ≡ true) same e)))
          ordered_at d e (inr other) = ap (λ (x : Component). is_order_mode x.mode) (unchanged d other) ∙ k.remoded.ordered d e

          keys_at : (d : ℕ) → d < length start.components → is_in_cycle start d ≡ true → (d ≡ c) ⊎ (d ≢ c) → mode_key (get_or (slice_set now.components c (component_with_mode mode (component_at now c))) d no_component).mode ≡ None
          keys_at d ld e (inl same) = subst (λ (n : ℕ). mode_key (get_or (slice_set now.components c (component_with_mode mode (component_at now c))) n no_component).mode ≡ None) (sym same)
              (ap (λ (x : Component). mode_key x.mode) changed ∙ key_ok (subst (λ (n : ℕ). n < length start.components) same ld) (subst (λ (n : ℕ). is_in_cycle start n ≡ true) same e))
          keys_at d ld e (inr other) = ap (λ (x : Component). mode_key x.mode) (unchanged d other) ∙ k.remoded.keys d ld e

  order_step : (now : View) → Kept now → (c : ℕ) → Kept (with_mode now c Order)
  order_step now k c = set_mode now k c Order (λ e. refl) (λ lt e. refl)

  either : (b : Bool) (x y : View) → Kept x → Kept y → Kept (if b then x else y)
  either true x y k l = k
  either false x y k l = l

  -- ---- regions

  component_step : (steps : Steps) (now : View) → Kept now → (c : ℕ) → (c < length start.components → is_in_cycle start c ≡ false) → Kept (plan_component steps now c)
  component_step steps now k c acyclic = by (is_order now c) refl
    where
      by : (b : Bool) → is_order now c ≡ b → Kept (if b then now else with_key steps now c (kept_key steps now c))
      by true e = k
      by false e = tried (kept_key steps now c)
        where
          tried : (o : Option Attrs) → Kept (with_key steps now c o)
          tried None = either (steps.orders && wants_order now c) (with_mode now c Order) now (order_step now k c) k
          tried (Some key) = set_mode now k c (tried_mode now c key) (λ t. absurd (true≢false (sym t ∙ e))) (λ lt t. absurd (true≢false (sym t ∙ acyclic lt)))

  components_step : (steps : Steps) (now : View) (cs : List ℕ) → Kept now → ((c : ℕ) → Has c cs → c < length start.components → is_in_cycle start c ≡ false) → Kept (fold (plan_component steps) now cs)
  components_step steps now [] k acyclic = k
  components_step steps now (c ∷ cs) k acyclic = components_step steps (plan_component steps now c) cs (component_step steps now k c (acyclic c (inl refl))) (λ d has. acyclic d (inr has))

  members_step : (now : View) (cs : List ℕ) → Kept now → Kept (fold order_member now cs)
  members_step now [] k = k
  members_step now (c ∷ cs) k = members_step (order_member now c) cs (either (has_order_note now c) (with_mode now c Order) now (order_step now k c) k)

  -- the members of an acyclic region are in no cycle
  in_no_cycle : (set : ℕ) → Has set (numbered_regions (edges start) (length start.components)) → is_cyclic_set (edges start) set ≡ false → (c : ℕ) → Has c (members set) → c < length start.components → is_in_cycle start c ≡ false
  unfolding is_in_cycle region_set
  in_no_cycle set has acyclic c member lc = elim (cases_Bool (is_cyclic_set (edges start) (region (arrows (edges start)) (length start.components) c))) [
    | inr e ↦ e
    | inl t ↦ absurd (true≢false (sym (cyclic_more (edges start) (region (arrows (edges start)) (length start.components) c) set own t) ∙ acyclic))
  ]
    where
      own : (n : ℕ) → meets (bit_of n) (region (arrows (edges start)) (length start.components) c) ≡ true → meets (bit_of n) set ≡ true
      own n h =
          let ln : n < 64 = member_small n (region (arrows (edges start)) (length start.components) c) h in
          let chosen = from_chosen (together (arrows (edges start)) c) (λ m. m) (below (length start.components)) n ln h in
          let lt : n < length start.components = subst (λ (m : ℕ). m < length start.components) chosen.is (from_below (length start.components) chosen.element chosen.stands) in
          let here : is_in c set ≡ true = (Has-from_filter (λ m. meets (bit_of m) set) c (below 64) member).1 in
          let all = given start valid in
          classes_at (edges start) (length start.components) _ all.classes set has c n lc lt here ∙ subst (λ (m : ℕ). together (arrows (edges start)) c m ≡ true) chosen.is chosen.passes

  region_step : (steps : Steps) (now : View) (set : ℕ) → Has set (numbered_regions (edges start) (length start.components)) → Kept now → Kept (plan_region steps start now set)
  region_step steps now set has k = by (is_cyclic_set (edges start) set) refl
    where
      by : (b : Bool) → is_cyclic_set (edges start) set ≡ b → Kept (if b then plan_cycle steps now set else fold (plan_component steps) now (members set))
      by true e = either (steps.orders && cycle_wants_order now set) (fold order_member now (members set)) now (members_step now (members set) k) k
      by false e = components_step steps now (members set) k (in_no_cycle set has e)

  regions_step : (steps : Steps) (now : View) (sets : List ℕ) → ((set : ℕ) → Has set sets → Has set (numbered_regions (edges start) (length start.components))) → Kept now → Kept (fold (plan_region steps start) now sets)
  regions_step steps now [] among k = k
  regions_step steps now (set ∷ sets) among k = regions_step steps (plan_region steps start now set) sets (λ s has. among s (inr has)) (region_step steps now set (among set (inl refl)) k)

  unmoved : Kept start
  unmoved = record {
    remoded = record { count = refl; each = λ d. refl; ordered = λ d e. e; keys = λ d lt e. (valid.components d lt).no_seal e };
    rest = refl;
  }

  kept_valid : (now : View) → Kept now → IsValid now
  kept_valid now k = subst IsValid k.rest (other_modes_law start now.components valid k.remoded)

pub plans_keep_valid : PlansKeepValid
unfolding planned_by regions
plans_keep_valid steps v valid =
    let start = start_valid v valid in
    kept_valid (freed v) start _ (regions_step (freed v) start steps (freed v) (numbered_regions (edges (freed v)) (length (freed v).components)) (λ set has. has) (unmoved (freed v) start))
