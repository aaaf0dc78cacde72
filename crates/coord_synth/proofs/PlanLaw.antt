-- After planning no stream is worse than Run, and each stream of a component with a key is Seal or Async.
use Rattle.std.proofs.Common.{◌≡◌, ◌≢◌, ◌≤◌, ◌<◌, ◌⊎◌, inl, inr, ℕ, zero, suc, not, nat_lt, Bool, true, false, if◌then◌else◌, Option, None, Some, List, [], ◌∷◌, length, map, filter, get_or, refl, arith, ap, sym, subst, ◌∙◌}
use Rattle.std.specs.List.{list_any, flat_map, filter_map}
use Rattle.std.specs.Option.{option_map_or}
use Rattle.std.proofs.lemmas.Bool.{true≢false}
use Rattle.std.proofs.Math.ListN.{get_or-map}
use Rattle.blz_value.specs.declared.attrs.Attrs.{Attrs}
use Rattle.blz_value.specs.Bits.{bit_of, meets, members}
use Rattle.blz_value.specs.Members.{Has}
use Rattle.blz_value.proofs.Membership.{Has-append_left, Has-append_right, Has-from_filter, Has-from_map, Has-from_flat_map}
use Rattle.bloom_forms.specs.declared.note.Note.{Note}
use Rattle.bloom_forms.specs.declared.mode.Mode.TheVariants as mode
use Rattle.topo_forms.specs.Carried.{is_confluent}
use Rattle.topo_forms.specs.Dependencies.{usable_fds}
use Rattle.blz_value.specs.Graph.{is_in}
use Rattle.topo_forms.specs.Regions.{region_of, region_set, regions, is_in_cycle}
use Rattle.blz_value.specs.NumberSets.{below}
use Rattle.blz_value.proofs.Booleans.{not_true as not_so, not_false}
use Rattle.blz_value.proofs.Ranges.{Has-below as from_below}
use Rattle.blz_value.proofs.Lists.{none_any as none-any, any-none}
use Rattle.topo_forms.specs.Valid.{IsValid}
use Rattle.topo_forms.specs.View.{View, End, Component, no_component, no_attrs, stream_at, component_at, component_with_mode, origin_of, ends_of, is_order, is_order_mode, is_replicated, mode_of, mode_key, note_at, port_attrs, port_numbers, stream_numbers, streams_to}
use Rattle.topo_forms.proofs.Regions.Lower.{feeds_edge, none_ordered, lower_into}
use Rattle.label_rules.specs.declared.label.Label.{Label}
use Rattle.label_rules.specs.declared.label.Label.TheVariants.{Seal, Async, Run}
use Rattle.label_rules.specs.declared.label.PathLabel.{PathLabel}
use Rattle.label_rules.specs.Label.{severity}
use Rattle.label_rules.specs.PathTable.{pass_path}
use Rattle.label_rules.specs.Reconciliation.{settled, is_protected, reconcile}
use Rattle.label_walk.specs.Labels.{AreLabels, label_by, labels_of, region_label, outside_label}
use Rattle.label_walk.specs.Paths.{label_at, path_label, port_paths, output_paths, notes_in, region_note, region_inputs, region_paths, is_from_outside, ends_in, is_replicated_set}
use Rattle.label_walk.proofs.Upstream.Alike.{holding, Alike, same_length, same_freed}
use Rattle.label_walk.proofs.Labelling.Computed.{computed}
use Rattle.label_walk.proofs.Labelling.OneLabelling.{has_one_labelling}
use Rattle.label_walk.proofs.Labelling.RegionByRegion.{has_labels}
use Rattle.label_walk.proofs.Upstream.UpstreamSeals.{rank, rank_from, Inside, by_rank, feeding, to_into}
use Rattle.coord_synth.specs.Laws.{IsCoordinated, AreCoordinated, AfterPlanning}
use Rattle.coord_modes.specs.Plan.{freed_component, has_order_note, planned, planned_by}
use Rattle.coord_synth.proofs.Bounds.{confluent_ok, single_ok, reconcile_ok, carried_ok, region_confluent}
use Rattle.coord_modes.proofs.Later.{Later, valid_still, edge_before, region_before, region_of_member, own_member}
use Rattle.coord_modes.proofs.PlanSteps.{State, AreBare, AreSingle, Final, final, covered}

-- a note of a component
note_has : (notes : List (List (Option Note))) (p o : ℕ) (note : Note) → get_or (get_or notes p []) o None ≡ Some note → Has note (flat_map (filter_map (λ note. note)) notes)
note_has [] p o note e = absurd cc
note_has (row ∷ notes) zero o note e = Has-append_left note (filter_map (λ note. note) row) (flat_map (filter_map (λ note. note)) notes) (in_row row o e)
  where
    in_row : (row : List (Option Note)) (o : ℕ) → get_or row o None ≡ Some note → Has note (filter_map (λ note. note) row)
    in_row [] o e = absurd cc
    in_row (None ∷ row) zero e = absurd cc
    in_row (Some n ∷ row) zero e = inl (let z : n ≡ note = cc in z)
    in_row (None ∷ row) (suc o) e = in_row row o e
    in_row (Some n ∷ row) (suc o) e = inr (in_row row o e)
note_has (row ∷ notes) (suc p) o note e = Has-append_right note (filter_map (λ note. note) row) (flat_map (filter_map (λ note. note)) notes) (note_has notes p o note e)

-- ---- a topology with the facts of planning

module _ (b : View) (xs : List Component) (valid : IsValid (holding b xs)) (unkeyed : (c : ℕ) → mode_key (mode_of (holding b xs) c) ≡ None)
    (zs : List Component) (all : ℕ) (state : State b xs valid unkeyed all zs) (covers : (c : ℕ) → c < length xs → is_in c all ≡ true) where
  abbrev f : View
  f = holding b xs

  abbrev t : View
  t = holding b zs

  later : Later b xs zs
  later = state.later

  now_valid : IsValid t
  now_valid = valid_still b xs zs valid later

  abbrev labels : List Label
  labels = labels_of t

  are : AreLabels t labels
  are = has_labels t now_valid

  counts : length xs ≡ length zs
  counts = same_length xs zs later.freed

  one : (c : ℕ) → component_with_mode mode.Free (component_at f c) ≡ component_with_mode mode.Free (component_at t c)
  one = same_freed b xs zs later.freed

  note_still : (c : ℕ) → has_order_note f c ≡ has_order_note t c
  note_still c = let same = one c in λ i. list_any (λ note. not (is_confluent note)) (flat_map (filter_map (λ note. note)) (same i).notes)

  replicas_still : (c : ℕ) → is_replicated f c ≡ is_replicated t c
  replicas_still c = let same = one c in λ i. nat_lt 1 (same i).replicas

  alike : Alike b zs zs all
  alike = record {
    first = now_valid;
    second = now_valid;
    freed = refl;
    modes = λ c here. refl;
    before = λ e has. state.closed e (edge_before b xs zs valid later e has);
    after = λ e has. state.closed e (edge_before b xs zs valid later e has);
  }

  inside : (s : ℕ) → s < length b.streams → Inside b zs zs all alike s
  inside s lt output is = covers output.0 (valid.numbered.origins s output lt is).0

  -- a component without an O note
  bare_note : (c : ℕ) (note : Note) → has_order_note f c ≡ false → Has note (notes_in t c) → is_confluent note ≡ true
  bare_note c note bare has = not_false (is_confluent note) (any-none (λ (n : Note). not (is_confluent n)) (notes_in t c) (sym (note_still c) ∙ bare) note has)

  -- what feeds it is Run or better
  abbrev Fed : ℕ → Type 0
  Fed s = (u : ℕ) → u < length b.streams → Inside b zs zs all alike u → rank t u < rank t s → severity (label_at labels u) ≤ 3

  outside_ok : (s : ℕ) (output : End) → s < length b.streams → origin_of b s ≡ Some output → is_order t output.0 ≡ false → is_in_cycle t output.0 ≡ false → Fed s
      → (has_order_note f output.0 ≡ false) ⊎ (is_replicated f output.0 ≡ false) → severity (outside_label t labels s output) ≤ 3
  outside_ok s output lt is free acyclic fed why =
      carried_ok t s (reconcile (output_paths t labels output.0 output.1) (mode_of t output.0) (is_replicated t output.0) (usable_fds t output.0))
      (reconcile_ok (output_paths t labels output.0 output.1) (mode_of t output.0) (is_replicated t output.0) (usable_fds t output.0) (λ path has.
      let port = Has-from_flat_map (λ p. port_paths t labels output.0 p (note_at t output.0 p output.1)) path (port_numbers t output.0) has in
      through port.0 path (note_at t output.0 port.0 output.1) refl port.2))
    where
      through : (p : ℕ) (path : PathLabel) (n : Option Note) → note_at t output.0 p output.1 ≡ n → Has path (port_paths t labels output.0 p n)
          → severity (settled (is_protected (output_paths t labels output.0 output.1) (mode_of t output.0) (usable_fds t output.0)) (is_replicated t output.0) path) ≤ 3
      through p path None e has = absurd has
      through p path (Some note) e has =
          let from = Has-from_map (path_label t labels output.0 p note) path (streams_to t output.0 p) has in
          let u = from.0 in
          let f = feeding b zs zs all alike output.0 u (inside s lt output is) free (to_into b zs zs all alike output.0 p u from.1) in
          let fine : severity (label_at labels u) ≤ 3 = fed u f.stands f.inside (let own : rank t s ≡ suc (region_of t output.0) = ap (rank_from t) is in let lower = f.lower acyclic in omega arith) in
          subst (λ (x : PathLabel). severity (settled (is_protected (output_paths t labels output.0 output.1) (mode_of t output.0) (usable_fds t output.0)) (is_replicated t output.0) x) ≤ 3) from.2
          (elim why [
            | inl bare ↦ confluent_ok (mode_of t output.0) (usable_fds t output.0) (port_attrs t output.0 p) (is_protected (output_paths t labels output.0 output.1) (mode_of t output.0) (usable_fds t output.0)) (is_replicated t output.0) note (label_at labels u) (bare_note output.0 note bare (note_has (component_at t output.0).notes p output.1 note e)) fine
            | inr single ↦ single_ok (mode_of t output.0) (usable_fds t output.0) (port_attrs t output.0 p) (is_protected (output_paths t labels output.0 output.1) (mode_of t output.0) (usable_fds t output.0)) (is_replicated t output.0) note (label_at labels u) (sym (replicas_still output.0) ∙ single) fine
          ])

  abbrev q : End → ℕ
  q output = region_set t output.0

  -- a member of the region now
  member : (output : End) → output.0 < length xs → is_order t output.0 ≡ false → (d : ℕ) → Has d (members (q output)) → (is_in d (region_set f output.0) ≡ true) × (is_order t d ≡ false)
  member output lc free d has =
      let here : is_in d (q output) ≡ true = (Has-from_filter (λ m. meets (bit_of m) (q output)) d (below 64) has).1 in
      let before : is_in d (region_set f output.0) ≡ true = region_before b xs zs valid later output.0 d lc here in
      let ld : d < length xs = (region_of_member b xs zs valid later output.0 d lc before).0 in
      (before, none_ordered t now_valid output.0 d (omega (arith, lc, counts)) (omega (arith, ld, counts)) free here)

  region_ok : (s : ℕ) (output : End) → s < length b.streams → origin_of b s ≡ Some output → is_order t output.0 ≡ false → Fed s
      → AreBare b xs valid unkeyed zs (region_set f output.0) ⊎ AreSingle b xs valid unkeyed zs (region_set f output.0) → severity (region_label t labels (q output)) ≤ 3
  region_ok s output lt is free fed why =
      reconcile_ok (region_paths t labels (q output)) mode.Free (is_replicated_set t (q output)) [] (λ path has.
      let from = Has-from_map (λ (input : ℕ × End). pass_path (label_at labels input.0) (region_note t (q output)) no_attrs mode.Free []) path (region_inputs t (q output)) has in
      let fine : severity (label_at labels from.0.0) ≤ 3 = comes from.0 from.1 in
      subst (λ (x : PathLabel). severity (settled false (is_replicated_set t (q output)) x) ≤ 3) from.2 (elim why [
        | inl bare ↦ confluent_ok mode.Free [] no_attrs false (is_replicated_set t (q output)) (region_note t (q output)) (label_at labels from.0.0)
            (region_confluent (flat_map (notes_in t) (members (q output))) (λ note there.
            let m = Has-from_flat_map (notes_in t) note (members (q output)) there in
            let facts = member output lc free m.0 m.1 in
            bare_note m.0 note (bare m.0 facts.0 facts.1) m.2)) fine
        | inr single ↦ single_ok mode.Free [] no_attrs false (is_replicated_set t (q output)) (region_note t (q output)) (label_at labels from.0.0)
            (none-any (is_replicated t) (members (q output)) (λ d there. let facts = member output lc free d there in sym (replicas_still d) ∙ single d facts.0 facts.1)) fine
      ]))
    where
      lc : output.0 < length xs
      lc = (valid.numbered.origins s output lt is).0

      comes : (input : ℕ × End) → Has input (region_inputs t (q output)) → severity (label_at labels input.0) ≤ 3
      comes input has =
          let from = Has-from_flat_map (λ s. map (λ end. (s, end)) (ends_in t (q output) s)) input (filter (is_from_outside t (q output)) (stream_numbers b)) has in
          let outside = Has-from_filter (is_from_outside t (q output)) from.0 (stream_numbers b) from.1 in
          let made = Has-from_map (λ (end : End). (from.0, end)) input (ends_in t (q output) from.0) from.2 in
          let kept = Has-from_filter (λ (end : End). is_in end.0 (q output)) made.0 (ends_of b from.0) made.1 in
          let ltu : from.0 < length b.streams = from_below (length b.streams) from.0 outside.0 in
          let first : from.0 ≡ input.0 = ap (λ (i : ℕ × End). i.0) made.2 in
          subst (λ (u : ℕ). severity (label_at labels u) ≤ 3) first
          (fed from.0 ltu (inside from.0 ltu) (let own : rank t s ≡ suc (region_of t output.0) = ap (rank_from t) is in low from.0 made.0 ltu outside.1 kept.0 kept.1 (origin_of b from.0) refl own))
        where
          low : (u : ℕ) (end : End) → u < length b.streams → is_from_outside t (q output) u ≡ true → Has end (ends_of b u) → is_in end.0 (q output) ≡ true → (o : Option End) → origin_of b u ≡ o → rank t s ≡ suc (region_of t output.0) → rank_from t o < rank t s
          low u end ltu out goes within None e own = omega arith
          low u end ltu out goes within (Some from) e own =
              let lz : output.0 < length zs = omega (arith, lc, counts) in
              let ld = (now_valid.numbered.ends u end ltu goes).0 in
              let edge = feeds_edge t now_valid u from end ltu e goes (none_ordered t now_valid output.0 end.0 lz ld free within) in
              let away : not (is_in from.0 (q output)) ≡ true = subst (λ (o : Option End). option_map_or (λ (d : End). not (is_in d.0 (q output))) o true ≡ true) e out in
              let lower = lower_into t now_valid output.0 lz (from.0, end.0) edge within (not_so (is_in from.0 (q output)) away) in
              omega arith

  source_ok : (key : Option Attrs) → severity (option_map_or Seal key Async) ≤ 3
  source_ok None = omega arith
  source_ok (Some key) = omega arith

  step : (s : ℕ) → s < length b.streams → Inside b zs zs all alike s → Fed s → severity (label_at labels s) ≤ 3
  step s lt within fed = by (origin_of b s) refl (computed t labels s (origin_of b s) (label_at labels s) (are.are s lt))
    where
      by : (o : Option End) → origin_of b s ≡ o → label_at labels s ≡ label_by t labels s o → severity (label_at labels s) ≤ 3
      by None is e = subst (λ (l : Label). severity l ≤ 3) (sym e) (source_ok (stream_at b s).key)
      by (Some output) is e = go (is_order t output.0) refl
        where
          lc : output.0 < length xs
          lc = (valid.numbered.origins s output lt is).0

          order_ok : (x : Bool) (rest : Label) → x ≡ true → severity (if x then Run else rest) ≤ 3
          order_ok true rest e = omega arith
          order_ok false rest e = absurd (true≢false (sym e))

          other : (x y : Bool) (m n : Label) → x ≡ false → (y ≡ true → severity m ≤ 3) → (y ≡ false → severity n ≤ 3) → severity (if x then Run else (if y then m else n)) ≤ 3
          other true y m n e p q = absurd (true≢false e)
          other false true m n e p q = p refl
          other false false m n e p q = q refl

          go : (x : Bool) → is_order t output.0 ≡ x → severity (label_at labels s) ≤ 3
          go true o = subst (λ (l : Label). severity l ≤ 3) (sym e) (order_ok (is_order t output.0) _ o)
          go false free =
              let known = state.settled output.0 lc (covers output.0 lc) in
              let own : is_in output.0 (region_set f output.0) ≡ true = own_member b xs zs valid later output.0 lc in
              elim known.region [
                | inl good ↦ let two : severity (label_at (labels_of t) s) ≤ 2 = good output.0 own free s output lt is refl in three two
                | inr why ↦ subst (λ (l : Label). severity l ≤ 3) (sym e)
                    (other (is_order t output.0) (is_in_cycle t output.0) (region_label t labels (q output)) (outside_label t labels s output) free
                    (λ cyclic. region_ok s output lt is free fed why)
                    (λ acyclic. outside_ok s output lt is free acyclic fed (elim why [ inl bare ↦ inl (bare output.0 own free) | inr single ↦ inr (single output.0 own free) ])))
              ]
            where
              three : severity (label_at labels s) ≤ 2 → severity (label_at labels s) ≤ 3
              three h = omega (arith, h)

  pub all_run : (s : ℕ) → s < length b.streams → severity (label_at labels s) ≤ 3
  all_run s lt = by_rank b zs zs all alike (λ u. severity (label_at labels u) ≤ 3) step (suc (rank t s)) s (omega arith) lt (inside s lt)

  pub coordinated : (s : ℕ) → s < length b.streams → IsCoordinated t labels s
  coordinated s lt = record {
    all = all_run s lt;
    sealed = λ from. keyed from.0 from.1 (mode_key (mode_of t from.0.0)) refl from.2;
  }
    where
      keyed : (output : End) → origin_of b s ≡ Some output → (k : Option Attrs) → mode_key (mode_of t output.0) ≡ k → mode_key (mode_of t output.0) ≢ None → severity (label_at labels s) ≤ 2
      keyed output is None e some = absurd (some e)
      keyed output is (Some key) e some =
          let lc = (valid.numbered.origins s output lt is).0 in
          let known = state.settled output.0 lc (covers output.0 lc) in
          known.keyed key e s output lt is refl

-- ---- where planning begins

pub freed_map : (cs : List Component) → map (component_with_mode mode.Free) cs ≡ map (component_with_mode mode.Free) (map freed_component cs)
freed_map [] = refl
freed_map (c ∷ cs) = ap (λ (rest : List Component). component_with_mode mode.Free c ∷ rest) (freed_map cs)

module _ (v : View) where
  abbrev pub start : List Component
  start = map freed_component v.components

  mode_at : (c : ℕ) → mode_of (holding v start) c ≡ (if is_order v c then mode.Order else mode.Free)
  mode_at c = ap (λ (C : Component). C.mode) (get_or-map freed_component v.components c no_component)

  pub start_keyless : (c : ℕ) → mode_key (mode_of (holding v start) c) ≡ None
  start_keyless c = ap mode_key (mode_at c) ∙ go (is_order v c)
    where
      go : (x : Bool) → mode_key (if x then mode.Order else mode.Free) ≡ None
      go true = refl
      go false = refl

  pub start_later : Later v v.components start
  start_later = record {
    freed = freed_map v.components;
    orders = λ c ordered. ap is_order_mode (mode_at c) ∙ go (is_order v c) ordered;
    keyless = λ c cyclic. start_keyless c;
  }
    where
      go : (x : Bool) → x ≡ true → is_order_mode (if x then mode.Order else mode.Free) ≡ true
      go true e = refl
      go false e = absurd (true≢false (sym e))

module _ (v : View) (valid : IsValid v) where
  pub start_valid : IsValid (holding v (start v))
  start_valid = valid_still v v.components (start v) valid (start_later v)

  end : Final v (start v) start_valid (start_keyless v) 0 (regions (holding v (start v))) (holding v (start v))
  end = final v (start v) start_valid (start_keyless v)

  planned_is : planned v ≡ holding v end.zs
  unfolding planned_by
  planned_is = end.is

  end_valid : IsValid (holding v end.zs)
  end_valid = let state = end.state in valid_still v (start v) end.zs start_valid state.later

  end_coordinated : AreCoordinated (holding v end.zs)
  end_coordinated labels are s lt =
      let same : labels_of (holding v end.zs) ≡ labels = has_one_labelling (holding v end.zs) (labels_of (holding v end.zs)) labels end_valid (has_labels (holding v end.zs) end_valid) are in
      subst (λ (ls : List Label). IsCoordinated (holding v end.zs) ls s) same
      (coordinated v (start v) start_valid (start_keyless v) end.zs end.all end.state (λ c lc. covered v (start v) start_valid (start_keyless v) c lc end) s lt)

pub after_planning : AfterPlanning
after_planning v valid = subst AreCoordinated (sym (planned_is v valid)) (end_coordinated v valid)
