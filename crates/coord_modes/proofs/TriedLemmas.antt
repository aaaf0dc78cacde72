-- With another mode, what comes into a component outside cycles has the labels that it had: so these decide whether its output streams are Seal or Async.
use Rattle.std.proofs.Common.{◌≡◌, ◌≤◌, ◌<◌, ◌⊎◌, inl, inr, ℕ, not, nat_eq, nat_lt, Bool, true, false, ◌&&◌, if◌then◌else◌, Option, None, Some, List, [], length, get_or, refl, arith, ap, sym, subst, ◌∙◌}
use Rattle.std.specs.List.{flat_map}
use Rattle.std.specs.Option.{option_map_or}
use Rattle.std.proofs.lemmas.Bool.{cases_Bool, cases_eq, cases_lt, true≢false, eqb-true, ltb-true, lt-ltb}
use Rattle.std.proofs.lemmas.List.{get_or_past, get_or-set_same}
use Rattle.blz_value.specs.Members.{Has}
use Rattle.blz_value.proofs.Membership.{Has-from_any, Has-from_filter}
use Rattle.bloom_forms.proofs.Collections.Chosen.{in_chosen, from_chosen}
use Rattle.blz_value.proofs.Members.{member_small}
use Rattle.blz_value.specs.declared.attrs.Attrs.{Attrs}
use Rattle.bloom_forms.specs.declared.note.Note.{Note}
use Rattle.bloom_forms.specs.declared.mode.Mode.{Mode}
use Rattle.topo_forms.specs.Dependencies.{upholds, is_usable, has_to_with_from, usable_fds}
use Rattle.blz_value.specs.Graph.{Edge, arrows, is_in, together}
use Rattle.topo_forms.specs.Regions.{edges, region_of, region_set, is_in_cycle}
use Rattle.blz_value.specs.NumberSets.{below, set_where, set_of_numbers}
use Rattle.blz_value.proofs.Maps.{same_map as map_alike, flat_map_same as flat_alike}
use Rattle.blz_value.proofs.Ranges.{Has-below as from_below}
use Rattle.blz_value.proofs.Lists.{all_on as all_alike, filter_same as filter_alike}
use Rattle.topo_forms.specs.Valid.{IsValid}
use Rattle.topo_forms.specs.View.{View, End, Component, no_component, no_port, component_at, component_with_mode, comes_from, ends_of, goes_into, is_order, is_order_mode, is_replicated, mode_key, mode_of, note_at, origin_of, port_numbers, stream_numbers, streams_from, streams_into, streams_to, with_mode}
use Rattle.topo_forms.proofs.Regions.Classes.{region-is}
use Rattle.topo_forms.proofs.Regions.Lower.{feeds_edge, lower_outside, lower_into, one_place}
use Rattle.topo_forms.proofs.Regions.RegionOrder.{edge_within}
use Rattle.topo_forms.proofs.Regions.Spreading.{in_below}
use Rattle.label_rules.specs.declared.label.Label.{Label}
use Rattle.label_rules.specs.declared.label.Label.TheVariants.{Seal, Async, Run, Inst, Diverge}
use Rattle.label_rules.specs.PathTable.{pass_path}
use Rattle.label_rules.specs.Reconciliation.{reconcile}
use Rattle.label_walk.specs.Labels.{AreLabels, as_carried, label_by, labels_of, outside_label, region_label}
use Rattle.label_walk.specs.Paths.{label_at, path_label, port_paths, output_paths}
use Rattle.label_walk.proofs.Labelling.Computed.{computed}
use Rattle.label_walk.proofs.Labelling.RegionByRegion.{has_labels}
use Rattle.label_walk.proofs.Upstream.Alike.{holding, Alike, edge_kept}
use Rattle.label_walk.proofs.Upstream.UpstreamLabels.{label_same}
use Rattle.label_walk.proofs.Upstream.UpstreamSeals.{to_into, upholds_same}
use Rattle.coord_modes.specs.Code.Tried.{path_with, port_paths_with, paths_with, label_with, is_fine_with, is_good_with}
use Rattle.coord_modes.specs.Plan.{is_bad, is_good}
use Rattle.coord_modes.proofs.CyclesLater.{acyclic_still}
use Rattle.coord_modes.proofs.Later.{Later, own_member, valid_still}
use Rattle.coord_modes.proofs.PlanSteps.{changed, changed_freed, changed_here, changed_other}

-- ---- what carries a key or not makes no stream worse than Async

seal_or_async : (b : Bool) (key : Attrs) → is_bad (if b then Seal key else Async) ≡ false
seal_or_async true key = refl
seal_or_async false key = refl

bad_carried : (v : View) (s : ℕ) (label : Label) → is_bad (as_carried v s label) ≡ is_bad label
bad_carried v s (Seal key) = seal_or_async _ key
bad_carried v s Async = refl
bad_carried v s Run = refl
bad_carried v s Inst = refl
bad_carried v s Diverge = refl

module _ (v : View) (valid : IsValid v) (c : ℕ) (lc : c < length v.components) (free : is_order v c ≡ false) (acyclic : is_in_cycle v c ≡ false) where
  -- ---- the components in earlier regions

  abbrev is_earlier : ℕ → Bool
  is_earlier d = nat_lt (region_of v d) (region_of v c)

  abbrev earlier : ℕ
  earlier = set_where is_earlier (below 64)

  few : length v.components ≤ 64
  few = omega (arith, valid.numbered.few_components)

  in_earlier : (d : ℕ) → d < length v.components → region_of v d < region_of v c → is_in d earlier ≡ true
  in_earlier d ld lower = let small : d < 64 = omega (arith, ld, few) in in_chosen is_earlier (λ n. n) (below 64) d (in_below 64 d small) (lt-ltb (region_of v d) (region_of v c) lower) small

  from_earlier : (d : ℕ) → is_in d earlier ≡ true → region_of v d < region_of v c
  from_earlier d here =
      let chosen = from_chosen is_earlier (λ n. n) (below 64) d (member_small d earlier here) here in
      subst (λ (n : ℕ). region_of v n < region_of v c) chosen.is (ltb-true (region_of v chosen.element) (region_of v c) chosen.passes)

  itself : Later v v.components v.components
  itself = record { freed = refl; orders = λ d e. e; keyless = λ d cyclic. keyless d (cases_lt d (length v.components)) cyclic }
    where
      keyless : (d : ℕ) → (d < length v.components) ⊎ (length v.components ≤ d) → is_in_cycle v d ≡ true → mode_key (mode_of v d) ≡ None
      keyless d (inl ld) cyclic = (valid.components d ld).no_seal cyclic
      keyless d (inr past) cyclic = ap (λ (x : Component). mode_key x.mode) (get_or_past v.components d no_component past)

  -- who feeds a component is in no later region
  not_later : (e : Edge) → Has e (edges v) → region_of v e.0 ≤ region_of v e.1
  unfolding region_set
  not_later e has =
      let within = edge_within v valid e has in
      elim (cases_Bool (is_in e.0 (region_set v e.1))) [
        | inl inside ↦
            let joined : together (arrows (edges v)) e.1 e.0 ≡ true = sym (region-is (arrows (edges v)) (length v.components) e.1 e.0 few within.0) ∙ inside in
            let same = one_place v valid e.1 e.0 within.1 within.0 joined in omega (arith, same)
        | inr away ↦
            let lower = lower_into v valid e.1 within.1 e has (own_member v v.components v.components valid itself e.1 within.1) away in omega (arith, lower)
      ]

  closed : (e : Edge) → Has e (edges v) → is_in e.1 earlier ≡ true → is_in e.0 earlier ≡ true
  closed e has here =
      let within = edge_within v valid e has in
      let first = not_later e has in
      let second = from_earlier e.1 here in
      in_earlier e.0 within.0 (omega (arith, first, second))

  -- a stream into the component comes from one of these, or is a source
  fed : (u : ℕ) → Has u (streams_into v c) → (u < length v.streams) × ((output : End) → origin_of v u ≡ Some output → is_in output.0 earlier ≡ true)
  fed u has =
      let kept = Has-from_filter (goes_into v c) u (stream_numbers v) has in
      let lt = from_below (length v.streams) u kept.0 in
      let goes = Has-from_any (λ (end : End). nat_eq c end.0) (ends_of v u) kept.1 in
      let there : c ≡ goes.0.0 = eqb-true c goes.0.0 goes.2 in (
        lt,
        λ output is.
            let edge : Has {X = Edge} (output.0, c) (edges v) = subst (λ (d : ℕ). Has {X = Edge} (output.0, d) (edges v)) (sym there) (feeds_edge v valid u output goes.0 lt is goes.1 (subst (λ (d : ℕ). is_order v d ≡ false) there free)) in
            in_earlier output.0 (edge_within v valid (output.0, c) edge).0 (lower_outside v valid (output.0, c) edge acyclic),
      )

  module _ (m : Mode) (unordered : is_order_mode m ≡ false) (labels : List Label) (are : AreLabels v labels) where
    -- ---- the topology with the mode

    abbrev ys : List Component
    ys = changed v v.components c m

    abbrev t : View
    t = holding v ys

    later : Later v v.components ys
    later = record {
      freed = changed_freed v v.components c m;
      orders = λ d ordered. elim (cases_eq d c) [
        | inl here ↦ absurd (true≢false (sym (subst (λ (n : ℕ). is_order v n ≡ true) here ordered) ∙ free))
        | inr other ↦ ap is_order_mode (changed_other v v.components c m d other) ∙ ordered
      ];
      keyless = λ d cyclic. elim (cases_eq d c) [
        | inl here ↦ absurd (true≢false (sym (subst (λ (n : ℕ). is_in_cycle v n ≡ true) here cyclic) ∙ acyclic))
        | inr other ↦ ap mode_key (changed_other v v.components c m d other) ∙ itself.keyless d cyclic
      ];
    }

    next_valid : IsValid t
    next_valid = valid_still v v.components ys valid later

    abbrev labels' : List Label
    labels' = labels_of t

    same_modes : (d : ℕ) → is_in d earlier ≡ true → mode_of v d ≡ mode_of t d
    same_modes d here = sym (changed_other v v.components c m d (λ e. (let lower = from_earlier c (subst (λ (n : ℕ). is_in n earlier ≡ true) e here) in absurd (omega (arith, lower)))))

    alike : Alike v v.components ys earlier
    alike = record {
      first = valid;
      second = next_valid;
      freed = changed_freed v v.components c m;
      modes = same_modes;
      before = closed;
      after = λ e has here. closed e (edge_kept v ys v.components earlier (λ d inside. sym (same_modes d inside)) e has here) here;
    }

    -- ---- what comes into the component

    same_label : (u : ℕ) → Has u (streams_into v c) → label_at labels u ≡ label_at labels' u
    same_label u has = let f = fed u has in label_same v v.components ys earlier alike labels labels' are (has_labels t next_valid) u f.0 f.1

    same_fds : usable_fds v c ≡ usable_fds t c
    unfolding usable_fds
    same_fds = filter_alike (is_usable v c) (is_usable t c) v.fds (λ fd has.
        all_alike (λ s. upholds v fd s && has_to_with_from v fd s) (λ s. upholds t fd s && has_to_with_from v fd s) (streams_into v c) (λ s into.
        let f = fed s into in ap (λ (x : Bool). x && has_to_with_from v fd s) (upholds_same v v.components ys earlier alike fd s f.0 f.1)))

    one : component_with_mode m (component_at v c) ≡ component_at t c
    one = sym (get_or-set_same v.components c (component_with_mode m (component_at v c)) no_component lc)

    same_port : (p : ℕ) (note : Option Note) → port_paths_with v labels c p m note ≡ port_paths t labels' c p note
    same_port p None = refl
    same_port p (Some note) = map_alike (path_with v labels c p m note) (path_label t labels' c p note) (streams_to v c p) (λ u has.
        let label = same_label u (to_into v v.components ys earlier alike c p u has) in
        λ i. pass_path (label i) note (record { bits = set_of_numbers (get_or (one i).ports p no_port).columns }) (one i).mode (same_fds i))

    same_paths : (o : ℕ) → paths_with v labels c o m ≡ output_paths t labels' c o
    same_paths o =
        flat_alike (λ p. port_paths_with v labels c p m (note_at v c p o)) (λ p. port_paths t labels' c p (note_at t c p o)) (port_numbers v c)
        (λ p has. same_port p (note_at v c p o) ∙ ap (port_paths t labels' c p) (λ i. get_or (get_or (one i).notes p []) o None))
        ∙ ap (flat_map (λ p. port_paths t labels' c p (note_at t c p o))) (λ i. below (length (one i).ports))

    -- ---- what goes out of it

    same_outside : (s o : ℕ) → is_bad (label_with v labels c o m) ≡ is_bad (outside_label t labels' s (c, o))
    same_outside s o =
        let paths = same_paths o in
        ap is_bad (λ i. reconcile (paths i) (one i).mode (nat_lt 1 (one i).replicas) (same_fds i))
        ∙ sym (bad_carried t s (reconcile (output_paths t labels' c o) (mode_of t c) (is_replicated t c) (usable_fds t c)))

    now_free : is_order t c ≡ false
    now_free = ap is_order_mode (changed_here v v.components c m lc) ∙ unordered

    now_acyclic : is_in_cycle t c ≡ false
    now_acyclic = acyclic_still v v.components ys valid later c lc acyclic

    label_is : (s o : ℕ) → label_by t labels' s (Some (c, o)) ≡ outside_label t labels' s (c, o)
    label_is s o = λ i. if now_free i then Run else (if now_acyclic i then region_label t labels' (region_set t c) else outside_label t labels' s (c, o))

    same_fine : (s : ℕ) → Has s (streams_from v c) → is_fine_with v labels m (origin_of v s) ≡ not (is_bad (label_at labels' s))
    same_fine s has =
        let kept = Has-from_filter (comes_from v c) s (stream_numbers v) has in
        let lt = from_below (length v.streams) s kept.0 in
        by (origin_of v s) refl kept.1 (computed t labels' s (origin_of v s) (label_at labels' s) ((has_labels t next_valid).are s lt))
      where
        by : (o : Option End) → origin_of v s ≡ o → option_map_or (λ output. nat_eq output.0 c) o false ≡ true → label_at labels' s ≡ label_by t labels' s (origin_of v s) → is_fine_with v labels m o ≡ not (is_bad (label_at labels' s))
        by None is from e = absurd (true≢false (sym from))
        by (Some output) is from e =
            let here : c ≡ output.0 = sym (eqb-true output.0 c from) in
            let known : label_at labels' s ≡ label_by t labels' s (Some output) = e ∙ ap (label_by t labels' s) is in
            subst (λ (d : ℕ). label_at labels' s ≡ label_by t labels' s (Some (d, output.1)) → is_fine_with v labels m (Some (d, output.1)) ≡ not (is_bad (label_at labels' s))) here
            (λ own. ap not (same_outside s output.1 ∙ ap is_bad (sym (own ∙ label_is s output.1)))) known

    pub good_with : is_good_with v labels c m ≡ is_good (with_mode v c m) c
    good_with = all_alike (λ s. is_fine_with v labels m (origin_of v s)) (λ s. not (is_bad (label_at labels' s))) (streams_from v c) same_fine
