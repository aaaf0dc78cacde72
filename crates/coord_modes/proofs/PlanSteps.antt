-- What each step of a plan keeps.
use Rattle.std.proofs.Common.{◌≡◌, ◌≢◌, ◌≤◌, ◌<◌, ◌⊎◌, inl, inr, ℕ, not, nat_eq, nat_lt, Bool, true, false, ◌&&◌, ◌||◌, if◌then◌else◌, Option, None, Some, List, [], ◌∷◌, length, map, fold, set, refl, arith, ap, sym, subst, ◌∙◌, bit_or}
use Rattle.std.specs.List.{list_any, flat_map, filter_map}
use Rattle.std.specs.Option.{option_map_or}
use Rattle.std.proofs.lemmas.Bool.{cases_eq, or_cases, true≢false, false_from_ne_true, eq-eqb, ltb-false}
use Rattle.std.proofs.lemmas.List.{get_or-set_same, get_or-set_other}
use Rattle.std.proofs.Math.Seq.{map-set_same}
use Rattle.blz_value.specs.declared.attrs.Attrs.{Attrs}
use Rattle.blz_value.specs.Bits.{bit_of, meets, members}
use Rattle.blz_value.proofs.Members.{in-or, in-empty}
use Rattle.blz_value.specs.Members.{Has}
use Rattle.blz_value.proofs.Membership.{Has-filter, Has-from_filter, all_member}
use Rattle.bloom_forms.specs.declared.mode.Mode.{Mode}
use Rattle.bloom_forms.specs.declared.mode.Mode.TheVariants as mode
use Rattle.topo_forms.specs.Carried.{is_confluent}
use Rattle.blz_value.specs.Graph.{Edge, arrows, is_in, region, is_cyclic_set, numbered_regions, SomeHas, InOrder}
use Rattle.topo_forms.specs.Regions.{edges, region_set, regions, is_in_cycle}
use Rattle.blz_value.specs.NumberSets.{below}
use Rattle.blz_value.proofs.Booleans.{not_true as not_so, or_right as or_second, or_left as or_first}
use Rattle.blz_value.proofs.Lists.{any-none}
use Rattle.topo_forms.specs.Valid.{IsValid}
use Rattle.topo_forms.specs.View.{View, End, Component, no_component, component_at, component_with_mode, comes_from, origin_of, is_order, is_order_mode, is_replicated, mode_of, mode_key, stream_numbers, streams_from, with_mode}
use Rattle.topo_forms.proofs.Regions.Lower.{given}
use Rattle.topo_forms.proofs.Regions.RegionOrder.{edge_within}
use Rattle.topo_forms.proofs.Regions.Spreading.{in_below}
use Rattle.label_rules.specs.declared.label.Label.{Label}
use Rattle.label_rules.specs.declared.label.Label.TheVariants.{Run}
use Rattle.label_rules.specs.Label.{severity}
use Rattle.label_walk.specs.Labels.{AreLabels, label_by, labels_of, region_label, outside_label}
use Rattle.label_walk.specs.Paths.{label_at, is_replicated_set}
use Rattle.label_walk.proofs.Upstream.Alike.{holding, Alike, same_length, same_freed}
use Rattle.label_walk.proofs.Labelling.Computed.{computed}
use Rattle.label_walk.proofs.Labelling.RegionByRegion.{has_labels}
use Rattle.label_walk.proofs.Upstream.UpstreamLabels.{label_same}
use Rattle.coord_modes.specs.Plan.{all_steps, has_order_note, is_bad, is_good, tried_mode, trial, tried_keys, kept_key, wants_order, ordered, with_key, plan_component, order_member, cycle_wants_order, plan_cycle, plan_region}
use Rattle.coord_modes.proofs.FreshRegions.{AreFresh, are_fresh, find-some}
use Rattle.coord_modes.proofs.CyclesLater as cycles
use Rattle.coord_modes.proofs.Later.{Later, valid_still, edge_before, region_of_member, own_member, small}

-- ---- another mode of one component

module _ (b : View) (ys : List Component) (c : ℕ) (m : Mode) where
  abbrev pub changed : List Component
  changed = set ys c (component_with_mode m (component_at (holding b ys) c))

  pub changed_freed : map (component_with_mode mode.Free) ys ≡ map (component_with_mode mode.Free) changed
  changed_freed = sym (map-set_same (component_with_mode mode.Free) ys c (component_with_mode m (component_at (holding b ys) c)) no_component refl)

  pub changed_other : (d : ℕ) → d ≢ c → mode_of (holding b changed) d ≡ mode_of (holding b ys) d
  changed_other d other = ap (λ (C : Component). C.mode) (get_or-set_other ys c d (component_with_mode m (component_at (holding b ys) c)) no_component other)

  pub changed_here : c < length ys → mode_of (holding b changed) c ≡ m
  changed_here lt = ap (λ (C : Component). C.mode) (get_or-set_same ys c (component_with_mode m (component_at (holding b ys) c)) no_component lt)

module _ (b : View) (xs : List Component) (valid : IsValid (holding b xs)) (unkeyed : (c : ℕ) → mode_key (mode_of (holding b xs) c) ≡ None) where
  abbrev f : View
  f = holding b xs

  abbrev at : List Component → View
  at ys = holding b ys

  -- ---- what is known of a component that was planned

  -- its streams are Seal or Async
  abbrev pub IsGood : List Component → ℕ → Type 0
  IsGood ys d = (s : ℕ) (output : End) → s < length b.streams → origin_of b s ≡ Some output → output.0 ≡ d → severity (label_at (labels_of (at ys)) s) ≤ 2

  -- in a region all members that aren't Order are good; or all of them have C notes alone; or all have one replica
  abbrev pub AreGood : List Component → ℕ → Type 0
  AreGood ys r = (d : ℕ) → is_in d r ≡ true → is_order (at ys) d ≡ false → IsGood ys d

  abbrev pub AreBare : List Component → ℕ → Type 0
  AreBare ys r = (d : ℕ) → is_in d r ≡ true → is_order (at ys) d ≡ false → has_order_note f d ≡ false

  abbrev pub AreSingle : List Component → ℕ → Type 0
  AreSingle ys r = (d : ℕ) → is_in d r ≡ true → is_order (at ys) d ≡ false → is_replicated f d ≡ false

  pub record Settled (ys : List Component) (c : ℕ) : Type 0 where
    pub region : AreGood ys (region_set f c) ⊎ (AreBare ys (region_set f c) ⊎ AreSingle ys (region_set f c))
    pub keyed : (key : Attrs) → mode_key (mode_of (at ys) c) ≡ Some key → IsGood ys c

  pub record State (done : ℕ) (ys : List Component) : Type 0 where
    pub later : Later b xs ys
    pub fresh : (c : ℕ) → c < length xs → is_in c done ≡ false → mode_of (at ys) c ≡ mode_of f c
    pub closed : (e : Edge) → Has e (edges f) → is_in e.1 done ≡ true → is_in e.0 done ≡ true
    pub whole : (c d : ℕ) → c < length xs → is_in c done ≡ true → is_in d (region_set f c) ≡ true → is_in d done ≡ true
    pub settled : (c : ℕ) → c < length xs → is_in c done ≡ true → Settled ys c

  later_valid : (ys : List Component) → Later b xs ys → IsValid (at ys)
  later_valid ys later = valid_still b xs ys valid later

  labels_are : (ys : List Component) → Later b xs ys → AreLabels (at ys) (labels_of (at ys))
  labels_are ys later = has_labels (at ys) (later_valid ys later)

  -- ---- modes outside make no difference

  alike : (done : ℕ) (ys zs : List Component) → Later b xs ys → Later b xs zs → ((e : Edge) → Has e (edges f) → is_in e.1 done ≡ true → is_in e.0 done ≡ true) → ((c : ℕ) → is_in c done ≡ true → mode_of (at ys) c ≡ mode_of (at zs) c) → Alike b ys zs done
  alike done ys zs first second closed same = record {
    first = later_valid ys first;
    second = later_valid zs second;
    freed = sym first.freed ∙ second.freed;
    modes = same;
    before = λ e has. closed e (edge_before b xs ys valid first e has);
    after = λ e has. closed e (edge_before b xs zs valid second e has);
  }

  good_still : (done : ℕ) (ys zs : List Component) → Later b xs ys → Later b xs zs → ((e : Edge) → Has e (edges f) → is_in e.1 done ≡ true → is_in e.0 done ≡ true) → ((c : ℕ) → is_in c done ≡ true → mode_of (at ys) c ≡ mode_of (at zs) c) → (d : ℕ) → is_in d done ≡ true → IsGood ys d → IsGood zs d
  good_still done ys zs first second closed same d here good s output lt is from =
      subst (λ (l : Label). severity l ≤ 2)
      (label_same b ys zs done (alike done ys zs first second closed same) (labels_of (at ys)) (labels_of (at zs)) (labels_are ys first) (labels_are zs second) s lt
      (λ other e. let one : output ≡ other = cc in subst (λ (n : ℕ). is_in n done ≡ true) (sym from ∙ ap (λ (end : End). end.0) one) here))
      (good s output lt is from)

  settled_still : (done : ℕ) (ys zs : List Component) → State done ys → Later b xs zs → ((c : ℕ) → is_in c done ≡ true → mode_of (at ys) c ≡ mode_of (at zs) c) → (c : ℕ) → c < length xs → is_in c done ≡ true → Settled zs c
  settled_still done ys zs state second same c lt here =
      let was = state.settled c lt here in
      record {
        region = elim was.region [
          | inl good ↦ inl (λ d inside free. moved d (state.whole c d lt here inside) (good d inside (back d (state.whole c d lt here inside) free)))
          | inr rest ↦ inr (elim rest [
            | inl bare ↦ inl (λ d inside free. bare d inside (back d (state.whole c d lt here inside) free))
            | inr single ↦ inr (λ d inside free. single d inside (back d (state.whole c d lt here inside) free))
          ])
        ];
        keyed = λ key e. moved c here (was.keyed key (ap mode_key (same c here) ∙ e));
      }
    where
      back : (d : ℕ) → is_in d done ≡ true → is_order (at zs) d ≡ false → is_order (at ys) d ≡ false
      back d inside free = ap is_order_mode (same d inside) ∙ free

      moved : (d : ℕ) → is_in d done ≡ true → IsGood ys d → IsGood zs d
      moved d inside good = good_still done ys zs state.later second state.closed same d inside good

  -- ---- one more region

  -- a set that is the region of a component, has none of those before it, and is fed by these and itself
  pub record Region (done r : ℕ) : Type 0 where
    pub first : ℕ
    pub within : first < length xs
    pub is : r ≡ region_set f first
    pub apart : (d : ℕ) → is_in d r ≡ true → is_in d done ≡ false
    pub order : (e : Edge) → Has e (edges f) → is_in e.1 r ≡ true → (is_in e.0 done ≡ true) ⊎ (is_in e.0 r ≡ true)

  module _ (done r : ℕ) (reg : Region done r) where
    member_of : (d : ℕ) → is_in d r ≡ true → (d < length xs) × (r ≡ region_set f d)
    member_of d h =
        let both = region_of_member b xs xs valid (record { freed = refl; orders = λ c e. e; keyless = λ c e. unkeyed c }) reg.first d reg.within (subst (λ (x : ℕ). is_in d x ≡ true) reg.is h) in
        (both.0, reg.is ∙ both.1)

    low : (d : ℕ) → d < length xs → d < 64
    low d lt = let few = valid.numbered.few_components in omega arith

    more : (ys zs : List Component) → State done ys → Later b xs zs → ((c : ℕ) → is_in c r ≡ false → mode_of (at zs) c ≡ mode_of (at ys) c)
        → ((c : ℕ) → is_in c r ≡ true → Settled zs c) → State (bit_or done r) zs
    more ys zs state later kept inside = record {
      later = later;
      fresh = λ c lt out. let both = neither (is_in c done) (is_in c r) (sym (in-or c done r (low c lt)) ∙ out) in kept c both.1 ∙ state.fresh c lt both.0;
      closed = λ e has here. let within = edge_within f valid e has in
          put e.0 within.0 (from e (or_cases (is_in e.1 done) (is_in e.1 r) (sym (in-or e.1 done r (low e.1 within.1)) ∙ here)) has);
      whole = λ c d lt here joined. all c d lt joined (or_cases (is_in c done) (is_in c r) (sym (in-or c done r (low c lt)) ∙ here));
      settled = λ c lt here. elim (or_cases (is_in c done) (is_in c r) (sym (in-or c done r (low c lt)) ∙ here)) [
        | inl before ↦ settled_still done ys zs state later (λ d in_done. sym (kept d (outside d in_done))) c lt before
        | inr now ↦ inside c now
      ];
    }
      where
        neither : (x y : Bool) → (x || y) ≡ false → (x ≡ false) × (y ≡ false)
        neither true y e = absurd (true≢false e)
        neither false y e = (refl, e)

        put : (d : ℕ) → d < length xs → (is_in d done ≡ true) ⊎ (is_in d r ≡ true) → is_in d (bit_or done r) ≡ true
        put d lt (inl h) = in-or d done r (low d lt) ∙ or_first (is_in d done) (is_in d r) h
        put d lt (inr h) = in-or d done r (low d lt) ∙ or_second (is_in d done) (is_in d r) h

        outside : (d : ℕ) → is_in d done ≡ true → is_in d r ≡ false
        outside d h = false_from_ne_true (is_in d r) (λ here. true≢false (sym h ∙ reg.apart d here))

        from : (e : Edge) → (is_in e.1 done ≡ true) ⊎ (is_in e.1 r ≡ true) → Has e (edges f) → (is_in e.0 done ≡ true) ⊎ (is_in e.0 r ≡ true)
        from e (inl before) has = inl (state.closed e has before)
        from e (inr now) has = reg.order e has now

        all : (c d : ℕ) → c < length xs → is_in d (region_set f c) ≡ true → (is_in c done ≡ true) ⊎ (is_in c r ≡ true) → is_in d (bit_or done r) ≡ true
        all c d lt joined (inl before) = let ld = (region_of_member b xs xs valid (record { freed = refl; orders = λ c e. e; keyless = λ c e. unkeyed c }) c d lt joined).0 in put d ld (inl (state.whole c d lt before joined))
        all c d lt joined (inr now) =
            let inside : is_in d r ≡ true = subst (λ (x : ℕ). is_in d x ≡ true) (sym (member_of c now).1) joined in
            put d (member_of d inside).0 (inr inside)

    -- ---- what the tests say

    module _ (ys : List Component) (state : State done ys) where
      same : (c : ℕ) → component_with_mode mode.Free (component_at f c) ≡ component_with_mode mode.Free (component_at (at ys) c)
      same = (let later = state.later in same_freed b xs ys later.freed)

      note_same : (c : ℕ) → has_order_note (at ys) c ≡ has_order_note f c
      note_same c = let one = same c in sym (λ i. list_any (λ note. not (is_confluent note)) (flat_map (filter_map (λ note. note)) (one i).notes))

      replicas_same : (c : ℕ) → is_replicated (at ys) c ≡ is_replicated f c
      replicas_same c = let one = same c in sym (λ i. nat_lt 1 (one i).replicas)

      -- a member of the region has the mode that it began with
      begun : (c : ℕ) → is_in c r ≡ true → mode_of (at ys) c ≡ mode_of f c
      begun c here = state.fresh c (member_of c here).0 (reg.apart c here)

      begun_unkeyed : {P : Type 0} (c : ℕ) → is_in c r ≡ true → (key : Attrs) → mode_key (mode_of (at ys) c) ≡ Some key → P
      begun_unkeyed c here key e = absurd (let no : None ≡ Some key = sym (unkeyed c) ∙ ap mode_key (sym (begun c here)) ∙ e in cc)

  fine : (label : Label) → not (is_bad label) ≡ true → severity label ≤ 2
  fine label h = ltb-false 2 (severity label) (not_so (is_bad label) h)

  -- all streams of a component are good
  are_good : (ys : List Component) (c : ℕ) → is_good (at ys) c ≡ true → IsGood ys c
  are_good ys c h s output lt is from =
      fine (label_at (labels_of (at ys)) s) (all_member (λ (u : ℕ). not (is_bad (label_at (labels_of (at ys)) u))) (streams_from (at ys) c) s h
      (Has-filter (comes_from b c) s (stream_numbers b) (in_below (length b.streams) s lt)
      (subst (λ (o : Option End). option_map_or (λ output. nat_eq output.0 c) o false ≡ true) (sym is) (eq-eqb output.0 c from))))

  ordered_keyless : {P : Type 0} (m : Mode) → is_order_mode m ≡ true → (key : Attrs) → mode_key m ≡ Some key → P
  ordered_keyless mode.Free p key e = absurd (true≢false (sym p))
  ordered_keyless (mode.Pass k) p key e = absurd (true≢false (sym p))
  ordered_keyless (mode.Seal k) p key e = absurd (true≢false (sym p))
  ordered_keyless mode.Order p key e = absurd cc

  -- another mode of a component
  pub later_changed : (ys : List Component) (c : ℕ) (m : Mode) → Later b xs ys → c < length ys → (is_order f c ≡ true → is_order_mode m ≡ true) → (is_in_cycle f c ≡ true → mode_key m ≡ None) → Later b xs (changed b ys c m)
  later_changed ys c m later lt orders keyless = record {
    freed = later.freed ∙ changed_freed b ys c m;
    orders = λ d ordered. elim (cases_eq d c) [
      | inl here ↦ subst (λ (n : ℕ). is_order (at (changed b ys c m)) n ≡ true) (sym here) (ap is_order_mode (changed_here b ys c m lt) ∙ orders (subst (λ (n : ℕ). is_order f n ≡ true) here ordered))
      | inr other ↦ ap is_order_mode (changed_other b ys c m d other) ∙ later.orders d ordered
    ];
    keyless = λ d cyclic. elim (cases_eq d c) [
      | inl here ↦ subst (λ (n : ℕ). mode_key (mode_of (at (changed b ys c m)) n) ≡ None) (sym here) (ap mode_key (changed_here b ys c m lt) ∙ keyless (subst (λ (n : ℕ). is_in_cycle f n ≡ true) here cyclic))
      | inr other ↦ ap mode_key (changed_other b ys c m d other) ∙ later.keyless d cyclic
    ];
  }

  -- ---- an acyclic region

  -- what a region's planning gives
  pub record Next (done r : ℕ) (view : View) : Type 0 where
    pub zs : List Component
    pub is : view ≡ at zs
    pub state : State (bit_or done r) zs

  module _ (done r : ℕ) (reg : Region done r) (ys : List Component) (state : State done ys) (c : ℕ) (here : is_in c r ≡ true) (alone : (d : ℕ) → is_in d r ≡ true → d ≡ c) (acyclic : is_in_cycle f c ≡ false) where
    lc : c < length xs
    lc = (member_of done r reg c here).0

    there : c < length ys
    there = (let later = state.later in omega (arith, same_length xs ys later.freed, lc))

    region_is : r ≡ region_set f c
    region_is = (member_of done r reg c here).1

    alone_in : (d : ℕ) → is_in d (region_set f c) ≡ true → d ≡ c
    alone_in d h = alone d (subst (λ (x : ℕ). is_in d x ≡ true) (sym region_is) h)

    -- one mode more, of this component
    with_one : (zs : List Component) → Later b xs zs → ((d : ℕ) → d ≢ c → mode_of (at zs) d ≡ mode_of (at ys) d) → Settled zs c → State (bit_or done r) zs
    with_one zs later kept settled = more done r reg ys zs state later
        (λ d out. kept d (λ e. true≢false (sym here ∙ subst (λ (n : ℕ). is_in n r ≡ false) e out)))
        (λ d inside. subst (Settled zs) (sym (alone d inside)) settled)

    keyless_here : {P : Type 0} → is_in_cycle f c ≡ true → P
    keyless_here cyclic = absurd (true≢false (sym cyclic ∙ acyclic))

    -- it is Order
    order_settled : (zs : List Component) → is_order (at zs) c ≡ true → Settled zs c
    order_settled zs ordered = record {
      region = inl (λ d inside free. absurd (true≢false (sym ordered ∙ subst (λ (n : ℕ). is_order (at zs) n ≡ false) (alone_in d inside) free)));
      keyed = λ key e. ordered_keyless (mode_of (at zs) c) ordered key e;
    }

    -- a trial is kept
    trial_next : (key : Attrs) → is_good (trial (at ys) c key) c ≡ true → is_order (at ys) c ≡ false → State (bit_or done r) (changed b ys c (tried_mode (at ys) c key))
    trial_next key good free =
        let zs = changed b ys c (tried_mode (at ys) c key) in
        let fine : IsGood zs c = are_good zs c good in
        with_one zs (later_changed ys c (tried_mode (at ys) c key) state.later there (λ ordered. (let later = state.later in absurd (true≢false (sym (later.orders c ordered) ∙ free)))) keyless_here)
        (λ d other. changed_other b ys c (tried_mode (at ys) c key) d other)
        (record { region = inl (λ d inside order. subst (IsGood zs) (sym (alone_in d inside)) fine); keyed = λ k e. fine })

    -- it becomes Order
    order_next : State (bit_or done r) (changed b ys c mode.Order)
    order_next = with_one (changed b ys c mode.Order) (later_changed ys c mode.Order state.later there (λ ordered. refl) keyless_here)
        (λ d other. changed_other b ys c mode.Order d other) (order_settled (changed b ys c mode.Order) (ap is_order_mode (changed_here b ys c mode.Order there)))

    -- it stays as it is
    stays_next : Settled ys c → State (bit_or done r) ys
    stays_next settled = with_one ys state.later (λ d other. refl) settled

    free_settled : wants_order (at ys) c ≡ false → Settled ys c
    free_settled h = record {
      region = go (has_order_note (at ys) c) (is_good (at ys) c) (is_replicated (at ys) c) refl refl refl h;
      keyed = λ key e. begun_unkeyed done r reg ys state c here key e;
    }
      where
        go : (x y z : Bool) → has_order_note (at ys) c ≡ x → is_good (at ys) c ≡ y → is_replicated (at ys) c ≡ z → (x && (not y && z)) ≡ false → AreGood ys (region_set f c) ⊎ (AreBare ys (region_set f c) ⊎ AreSingle ys (region_set f c))
        go false y z p q s h = inr (inl (λ d inside free. subst (λ (n : ℕ). has_order_note f n ≡ false) (sym (alone_in d inside)) (sym (note_same done r reg ys state c) ∙ p)))
        go true true z p q s h = inl (λ d inside free. subst (IsGood ys) (sym (alone_in d inside)) (are_good ys c q))
        go true false false p q s h = inr (inr (λ d inside free. subst (λ (n : ℕ). is_replicated f n ≡ false) (sym (alone_in d inside)) (sym (replicas_same done r reg ys state c) ∙ s)))
        go true false true p q s h = absurd (true≢false h)

    component_next : Next done r (plan_component all_steps (at ys) c)
    component_next = by (is_order (at ys) c) refl
      where
        ordered_by : (x : Bool) → wants_order (at ys) c ≡ x → Next done r (if x then with_mode (at ys) c mode.Order else at ys)
        ordered_by true q = record { zs = changed b ys c mode.Order; is = refl; state = order_next }
        ordered_by false q = record { zs = ys; is = refl; state = stays_next (free_settled q) }

        keyed_by : is_order (at ys) c ≡ false → (o : Option Attrs) → kept_key all_steps (at ys) c ≡ o → Next done r (with_key all_steps (at ys) c o)
        keyed_by free None q = ordered_by (wants_order (at ys) c) refl
        keyed_by free (Some key) q = record {
          zs = changed b ys c (tried_mode (at ys) c key);
          is = refl;
          state = trial_next key (find-some (λ key. is_good (trial (at ys) c key) c) (tried_keys all_steps (at ys) c) key q).1 free;
        }

        by : (x : Bool) → is_order (at ys) c ≡ x → Next done r (if x then at ys else with_key all_steps (at ys) c (kept_key all_steps (at ys) c))
        by true q = record { zs = ys; is = refl; state = stays_next (order_settled ys q) }
        by false q = keyed_by q (kept_key all_steps (at ys) c) refl

  -- ---- a cyclic region

  -- what making the members with an O note Order gives
  pub record Ordered (ys : List Component) (ms : List ℕ) : Type 0 where
    pub zs : List Component
    pub is : fold order_member (at ys) ms ≡ at zs
    pub later : Later b xs zs
    pub modes : (d : ℕ) → (mode_of (at zs) d ≡ mode_of (at ys) d) ⊎ (mode_of (at zs) d ≡ mode.Order)
    pub outside : (d : ℕ) → (Has d ms → ⊥) → mode_of (at zs) d ≡ mode_of (at ys) d
    pub inside : (d : ℕ) → Has d ms → (is_order (at zs) d ≡ true) ⊎ (has_order_note f d ≡ false)

  pub order_all : (ms : List ℕ) (ys : List Component) → Later b xs ys → ((d : ℕ) → Has d ms → d < length xs) → Ordered ys ms
  order_all [] ys later small = record { zs = ys; is = refl; later = later; modes = λ d. inl refl; outside = λ d out. refl; inside = λ d has. absurd has }
  order_all (m ∷ ms) ys later small = by (has_order_note (at ys) m) refl (order_all ms (changed b ys m mode.Order) (later_changed ys m mode.Order later there (λ o. refl) (λ c. refl)) (λ d has. small d (inr has))) (order_all ms ys later (λ d has. small d (inr has)))
    where
      there : m < length ys
      there = omega (arith, same_length xs ys later.freed, small m (inl refl))

      note_was : has_order_note (at ys) m ≡ has_order_note f m
      note_was = let one = same_freed b xs ys later.freed m in sym (λ i. list_any (λ note. not (is_confluent note)) (flat_map (filter_map (λ note. note)) (one i).notes))

      by : (x : Bool) → has_order_note (at ys) m ≡ x → Ordered (changed b ys m mode.Order) ms → Ordered ys ms → Ordered ys (m ∷ ms)
      by true q more plain = record {
        zs = more.zs;
        is = ap (λ (x : Bool). fold order_member (if x then with_mode (at ys) m mode.Order else at ys) ms) q ∙ more.is;
        later = more.later;
        modes = λ d. elim (more.modes d) [
          | inr ordered ↦ inr ordered
          | inl same ↦ elim (cases_eq d m) [
            | inl here ↦ inr (same ∙ subst (λ (n : ℕ). mode_of (at (changed b ys m mode.Order)) n ≡ mode.Order) (sym here) (changed_here b ys m mode.Order there))
            | inr other ↦ inl (same ∙ changed_other b ys m mode.Order d other)
          ]
        ];
        outside = λ d out. more.outside d (λ has. out (inr has)) ∙ changed_other b ys m mode.Order d (λ e. out (inl (sym e)));
        inside = λ d has. elim has [
          | inr later ↦ more.inside d later
          | inl e ↦ inl (ap is_order_mode (subst (λ (n : ℕ). mode_of (at more.zs) n ≡ mode.Order) e (elim (more.modes m) [
            | inr ordered ↦ ordered
            | inl same ↦ same ∙ changed_here b ys m mode.Order there
          ])))
        ];
      }
      by false q more plain = record {
        zs = plain.zs;
        is = ap (λ (x : Bool). fold order_member (if x then with_mode (at ys) m mode.Order else at ys) ms) q ∙ plain.is;
        later = plain.later;
        modes = plain.modes;
        outside = λ d out. plain.outside d (λ has. out (inr has));
        inside = λ d has. elim has [
          | inr later ↦ plain.inside d later
          | inl e ↦ inr (subst (λ (n : ℕ). has_order_note f n ≡ false) e (sym note_was ∙ q))
        ];
      }

  module _ (done r : ℕ) (reg : Region done r) (ys : List Component) (state : State done ys) (cyclic : is_cyclic_set (edges f) r ≡ true) where
    in_members : (d : ℕ) → is_in d r ≡ true → Has d (members r)
    in_members d h = Has-filter (λ m. meets (bit_of m) r) d (below 64) (in_below 64 d (low done r reg d (member_of done r reg d h).0)) h

    from_members : (d : ℕ) → Has d (members r) → is_in d r ≡ true
    from_members d has = (Has-from_filter (λ m. meets (bit_of m) r) d (below 64) has).1

    in_it : (c d : ℕ) → is_in c r ≡ true → is_in d (region_set f c) ≡ true → is_in d r ≡ true
    in_it c d here h = subst (λ (x : ℕ). is_in d x ≡ true) (sym (member_of done r reg c here).1) h

    -- its members with an O note have become Order
    all_ordered : (o : Ordered ys (members r)) → State (bit_or done r) o.zs
    all_ordered o = more done r reg ys o.zs state o.later
        (λ c out. o.outside c (λ has. true≢false (sym (from_members c has) ∙ out)))
        (λ c here. record {
          region = inr (inl (λ d inside free. elim (o.inside d (in_members d (in_it c d here inside))) [
            | inl ordered ↦ absurd (true≢false (sym ordered ∙ free))
            | inr bare ↦ bare
          ]));
          keyed = λ key e. elim (o.modes c) [
            | inl same ↦ begun_unkeyed done r reg ys state c here key (ap mode_key (sym same) ∙ e)
            | inr ordered ↦ absurd (let no : None ≡ Some key = ap mode_key (sym ordered) ∙ e in cc)
          ];
        })

    -- nothing is done, for one of two reasons
    all_kept : AreGood ys r ⊎ AreSingle ys r → State (bit_or done r) ys
    all_kept why = more done r reg ys ys state state.later (λ c out. refl) (λ c here. record {
      region = elim why [
        | inl good ↦ inl (λ d inside free. good d (in_it c d here inside) free)
        | inr single ↦ inr (inr (λ d inside free. single d (in_it c d here inside) free))
      ];
      keyed = λ key e. begun_unkeyed done r reg ys state c here key e;
    })

    single_set : is_replicated_set (at ys) r ≡ false → AreSingle ys r
    single_set e d h free = sym (replicas_same done r reg ys state d) ∙ any-none (is_replicated (at ys)) (members r) e d (in_members d h)

    -- the region is one still
    still : (d : ℕ) → is_in d r ≡ true → region_set (at ys) d ≡ r
    still d h = cycles.still b xs ys valid state.later r reg.first reg.within reg.is (begun done r reg ys state) d h

    in_cycle : (d : ℕ) → is_in d r ≡ true → is_in_cycle (at ys) d ≡ true
    in_cycle d h = cycles.in_cycle b xs ys valid state.later r reg.first reg.within reg.is (begun done r reg ys state) cyclic d h

    good_set : severity (region_label (at ys) (labels_of (at ys)) r) ≤ 2 → AreGood ys r
    good_set le d h free s output lt is from =
        let labels = labels_of (at ys) in
        let one : label_at labels s ≡ label_by (at ys) labels s (Some output) =
        computed (at ys) labels s (origin_of b s) (label_at labels s) ((labels_are ys state.later).are s lt) ∙ ap (label_by (at ys) labels s) is in
        let here : is_in output.0 r ≡ true = subst (λ (n : ℕ). is_in n r ≡ true) (sym from) h in
        let unordered : is_order (at ys) output.0 ≡ false = subst (λ (n : ℕ). is_order (at ys) n ≡ false) (sym from) free in
        let two : label_by (at ys) labels s (Some output) ≡ region_label (at ys) labels (region_set (at ys) output.0) =
        second (is_order (at ys) output.0) (is_in_cycle (at ys) output.0) Run (region_label (at ys) labels (region_set (at ys) output.0)) (outside_label (at ys) labels s output) unordered (in_cycle output.0 here) in
        subst (λ (l : Label). severity l ≤ 2) (sym (one ∙ two ∙ ap (region_label (at ys) labels) (still output.0 here))) le
      where
        second : (x y : Bool) (l m n : Label) → x ≡ false → y ≡ true → (if x then l else (if y then m else n)) ≡ m
        second true y l m n p q = absurd (true≢false p)
        second false true l m n p q = refl
        second false false l m n p q = absurd (true≢false (sym q))

    cycle_next : Next done r (plan_cycle all_steps (at ys) r)
    cycle_next = by (cycle_wants_order (at ys) r) refl
      where
        reason : (x y : Bool) → is_replicated_set (at ys) r ≡ x → is_bad (region_label (at ys) (labels_of (at ys)) r) ≡ y → (x && y) ≡ false → AreGood ys r ⊎ AreSingle ys r
        reason false y p q e = inr (single_set p)
        reason true false p q e = inl (good_set (ltb-false 2 (severity (region_label (at ys) (labels_of (at ys)) r)) q))
        reason true true p q e = absurd (true≢false e)

        by : (x : Bool) → cycle_wants_order (at ys) r ≡ x → Next done r (if x then fold order_member (at ys) (members r) else at ys)
        by true q =
            let o = order_all (members r) ys state.later (λ d has. (member_of done r reg d (from_members d has)).0) in
            record { zs = o.zs; is = o.is; state = all_ordered o }
        by false q = record { zs = ys; is = refl; state = all_kept (reason (is_replicated_set (at ys) r) (is_bad (region_label (at ys) (labels_of (at ys)) r)) refl refl q) }

  -- ---- any region

  acyclic_of : (c : ℕ) → is_cyclic_set (edges f) (region_set f c) ≡ false → is_in_cycle f c ≡ false
  unfolding is_in_cycle
  acyclic_of c e = e

  one_long : (c : ℕ) (ms : List ℕ) → Has c ms → length ms ≤ 1 → ms ≡ c ∷ []
  one_long c [] has le = absurd has
  one_long c (m ∷ []) (inl e) le = ap (λ (n : ℕ). n ∷ []) e
  one_long c (m ∷ []) (inr has) le = absurd has
  one_long c (m ∷ n ∷ ms) has le = absurd (omega arith)

  region_next : (done r : ℕ) → Region done r → (ys : List Component) → State done ys → Next done r (plan_region all_steps f (at ys) r)
  region_next done r reg ys state = by (is_cyclic_set (edges f) r) refl
    where
      by : (x : Bool) → is_cyclic_set (edges f) r ≡ x → Next done r (if x then plan_cycle all_steps (at ys) r else fold (plan_component all_steps) (at ys) (members r))
      by true q = cycle_next done r reg ys state q
      by false q =
          let c = reg.first in
          let here : is_in c r ≡ true = subst (λ (x : ℕ). is_in c x ≡ true) (sym reg.is) (own_member b xs xs valid itself c reg.within) in
          let short : length (members r) ≤ 1 = ltb-false 1 (length (members r)) (first (nat_lt 1 (length (members r))) (list_any (λ (e : Edge). nat_eq e.0 e.1 && is_in e.0 r) (edges f)) q) in
          let only : members r ≡ c ∷ [] = one_long c (members r) (put c here) short in
          let acyclic : is_in_cycle f c ≡ false = outside c q in
          let next = component_next done r reg ys state c here (λ d h. single c d (subst (λ (ms : List ℕ). Has d ms) only (put d h))) acyclic in
          record { zs = next.zs; is = ap (fold (plan_component all_steps) (at ys)) only ∙ next.is; state = next.state }
        where
          itself : Later b xs xs
          itself = record { freed = refl; orders = λ c e. e; keyless = λ c e. unkeyed c }

          put : (d : ℕ) → is_in d r ≡ true → Has d (members r)
          put d h = Has-filter (λ m. meets (bit_of m) r) d (below 64) (in_below 64 d (low done r reg d (member_of done r reg d h).0)) h

          first : (x y : Bool) → (if x then true else y) ≡ false → x ≡ false
          first true y e = absurd (true≢false e)
          first false y e = refl

          single : (c d : ℕ) → Has d (c ∷ []) → d ≡ c
          single c d (inl e) = sym e
          single c d (inr has) = absurd has

          outside : (c : ℕ) → is_cyclic_set (edges f) r ≡ false → is_in_cycle f reg.first ≡ false
          outside c q = acyclic_of reg.first (ap (is_cyclic_set (edges f)) (sym reg.is) ∙ q)

  -- ---- all regions

  -- what planning gives
  pub record Final (done : ℕ) (sets : List ℕ) (view : View) : Type 0 where
    pub zs : List Component
    pub is : fold (plan_region all_steps f) view sets ≡ at zs
    pub all : ℕ
    pub state : State all zs
    pub keeps : (c : ℕ) → c < 64 → is_in c done ≡ true → is_in c all ≡ true
    pub covers : (c : ℕ) → c < 64 → SomeHas c sets → is_in c all ≡ true

  of_region : (c : ℕ) (r : ℕ) → r ≡ region (arrows (edges f)) (length xs) c → r ≡ region_set f c
  unfolding region_set
  of_region c r e = e

  walk : (done : ℕ) (sets : List ℕ) → InOrder (edges f) done sets → AreFresh (arrows (edges f)) (length xs) done sets → (ys : List Component) → State done ys → Final done sets (at ys)
  walk done [] order fresh ys state = record { zs = ys; is = refl; all = done; state = state; keeps = λ c lt h. h; covers = λ c lt some. absurd some }
  walk done (r ∷ sets) order fresh ys state =
      let reg : Region done r = record { first = fresh.0.0; within = fresh.0.1; is = of_region fresh.0.0 r fresh.0.2; apart = fresh.1.0; order = order.0 } in
      let next = region_next done r reg ys state in
      let final = walk (bit_or done r) sets order.1 fresh.1.1 next.zs next.state in
      record {
        zs = final.zs;
        is = ap (λ (view : View). fold (plan_region all_steps f) view sets) next.is ∙ final.is;
        all = final.all;
        state = final.state;
        keeps = λ c lt h. final.keeps c lt (in-or c done r lt ∙ or_first (is_in c done) (is_in c r) h);
        covers = λ c lt some. elim some [
          | inl here ↦ final.keeps c lt (in-or c done r lt ∙ or_second (is_in c done) (is_in c r) here)
          | inr later ↦ final.covers c lt later
        ];
      }

  begin : State 0 xs
  begin = record {
    later = record { freed = refl; orders = λ c e. e; keyless = λ c e. unkeyed c };
    fresh = λ c lt e. refl;
    closed = λ e has h. absurd (true≢false (sym h ∙ in-empty e.1));
    whole = λ c d lt h k. absurd (true≢false (sym h ∙ in-empty c));
    settled = λ c lt h. absurd (true≢false (sym h ∙ in-empty c));
  }

  pub final : Final 0 (regions f) f
  unfolding regions
  final =
      let few = valid.numbered.few_components in
      let all = given f valid in
      walk 0 (numbered_regions (edges f) (length xs)) all.order (are_fresh (length xs) (edges f) (omega arith)) xs begin

  pub covered : (c : ℕ) → c < length xs → (fin : Final 0 (regions f) f) → is_in c fin.all ≡ true
  unfolding regions
  covered c lt fin =
      let few = valid.numbered.few_components in
      let all = given f valid in
      fin.covers c (omega arith) (all.cover c lt)
