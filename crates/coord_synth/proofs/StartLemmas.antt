-- Freeing component by component gives the topology where a plan begins, as it is written too.
use Rattle.std.proofs.Common.{◌≡◌, ◌≢◌, ◌<◌, ◌≤◌, ◌+◌, ◌⊎◌, inl, inr, ℕ, zero, suc, Bool, true, false, if◌then◌else◌, None, List, [], ◌∷◌, length, map, get_or, fold, refl, arith, ap, sym, subst, ◌∙◌}
use Rattle.std.specs.List.{list_all, range_with_len}
use Rattle.std.proofs.lemmas.Bool.{cases_lt, true≢false}
use Rattle.std.proofs.lemmas.List.{ext_get_or, length-map, length-set, get_or-map, get_or-set_same, get_or-set_other}
use Rattle.std.proofs.lemmas.List.Sums.{fold-append}
use Rattle.blz_value.specs.Name.{is_name}
use Rattle.blz_value.proofs.Membership.{Has-get_or, all_member}
use Rattle.blz_value.proofs.Booleans.{both_true}
use Rattle.blz_value.proofs.Ranges.{below_more}
use Rattle.bloom_forms.specs.Form.{Accepted}
use Rattle.bloom_forms.specs.Query.{Name}
use Rattle.bloom_forms.specs.declared.mode.Mode.{Mode}
use Rattle.bloom_forms.specs.declared.mode.Mode.TheVariants.{Free, Pass, Seal, Order}
use Rattle.topo_forms.specs.declared.topology.ComponentEntry.{ComponentEntry}
use Rattle.topo_forms.specs.declared.topology.ModeName.{ModeName}
use Rattle.topo_forms.specs.declared.topology.ModeName.TheVariants as written
use Rattle.topo_forms.specs.declared.topology.Topology.{Topology}
use Rattle.topo_forms.specs.Allowed.{is_empty, allows_source, allows_body, allows_component, allows_note, allows_key}
use Rattle.topo_forms.specs.Laws.{validated_with_mode}
use Rattle.topo_forms.specs.Modes.{entry_with_mode}
use Rattle.topo_forms.specs.Sites.{no_entry}
use Rattle.topo_forms.specs.Valid.{IsWhole, Validated}
use Rattle.topo_forms.specs.View.{View, Component, no_component, component_at, component_with_mode, is_order, is_order_mode, mode_key, mode_of}
use Rattle.topo_forms.specs.ViewOf.{mode_from, view_of, modules_in}
use Rattle.topo_forms.proofs.Faults.NoFault.{length_sites}
use Rattle.topo_forms.proofs.Views.ViewNumbers.{site_entry, length_components}
use Rattle.topo_forms.proofs.Views.ViewParts.{sites, attributes, seen, at_component}
use Rattle.coord_modes.specs.Plan.{freed, freed_component, topology_with_modes}
use Rattle.coord_synth.specs.Code.Start.{free_component}
use Rattle.coord_synth.specs.Code.Written.{IsWritten}
use Rattle.coord_synth.proofs.TrialLemmas.{set_own}
use Rattle.coord_synth.proofs.WrittenLemmas.{entry_at, count_entries}

-- ---- the components so far

abbrev pub freed_so_far : Validated → (count : ℕ) → Validated
freed_so_far now count = fold free_component now (range_with_len 0 count)

pub one_more : (now : Validated) (n : ℕ) → freed_so_far now (n + 1) ≡ free_component (freed_so_far now n) n
one_more now n = ap (fold free_component now) (below_more n) ∙ fold-append free_component now (range_with_len 0 n) (n ∷ [])

module _ (now : Validated) where
  abbrev v : View
  v = now.view

  -- a component of either list, as it was or Free
  abbrev free_entry : ℕ → ComponentEntry
  free_entry d = if is_order v d then get_or now.topology.components d no_entry else entry_with_mode v.attributes Free (get_or now.topology.components d no_entry)

  -- what holds with the first components freed
  pub record SoFar (count : ℕ) (next : Validated) : Type 0 where
    pub rest : next.view ≡ record v { components = next.view.components }
    pub entries_rest : next.topology ≡ record now.topology { components = next.topology.components }
    pub components : length next.view.components ≡ length v.components
    pub entries : length next.topology.components ≡ length now.topology.components
    pub freed_below : (d : ℕ) → d < count → component_at next.view d ≡ freed_component (component_at v d)
    pub kept_above : (d : ℕ) → count ≤ d → component_at next.view d ≡ component_at v d
    pub entry_below : (d : ℕ) → d < count → get_or next.topology.components d no_entry ≡ free_entry d
    pub entry_above : (d : ℕ) → count ≤ d → get_or next.topology.components d no_entry ≡ get_or now.topology.components d no_entry

  -- ---- one component more

  order_mode : (m : Mode) → is_order_mode m ≡ true → m ≡ Order
  order_mode Free e = absurd (true≢false (sym e))
  order_mode (Pass key) e = absurd (true≢false (sym e))
  order_mode (Seal key) e = absurd (true≢false (sym e))
  order_mode Order e = refl

  order_same : (c : Component) → is_order_mode c.mode ≡ true → c ≡ freed_component c
  order_same c e = let own = order_mode c.mode e in (λ i. component_with_mode (own i) c) ∙ ap (λ (b : Bool). component_with_mode (if b then Order else Free) c) (sym e)

  free_same : (c : Component) → is_order_mode c.mode ≡ false → component_with_mode Free c ≡ freed_component c
  free_same c e = ap (λ (b : Bool). component_with_mode (if b then Order else Free) c) (sym e)

  -- below one more is below, or the number itself
  below_one : (d n : ℕ) → d < n + 1 → (d < n) ⊎ (d ≡ n)
  below_one d n lt = elim (cases_lt d n) [ inl before ↦ inl before | inr past ↦ inr (omega (arith, lt, past)) ]

  module _ (n : ℕ) (next : Validated) (so : SoFar n next) (lv : n < length v.components) (lt : n < length now.topology.components) where
    same_order : is_order next.view n ≡ is_order v n
    same_order = ap (λ (c : Component). is_order_mode c.mode) (so.kept_above n (omega arith))

    stays : is_order v n ≡ true → SoFar (n + 1) next
    stays ordered = record {
      rest = so.rest;
      entries_rest = so.entries_rest;
      components = so.components;
      entries = so.entries;
      freed_below = λ d low. elim (below_one d n low) [
        | inl before ↦ so.freed_below d before
        | inr here ↦ subst (λ (k : ℕ). component_at next.view k ≡ freed_component (component_at v k)) (sym here) (so.kept_above n (omega arith) ∙ order_same (component_at v n) ordered)
      ];
      kept_above = λ d past. so.kept_above d (omega (arith, past));
      entry_below = λ d low. elim (below_one d n low) [
        | inl before ↦ so.entry_below d before
        | inr here ↦ subst (λ (k : ℕ). get_or next.topology.components k no_entry ≡ free_entry k) (sym here)
            (so.entry_above n (omega arith) ∙ ap (λ (b : Bool). if b then get_or now.topology.components n no_entry else entry_with_mode v.attributes Free (get_or now.topology.components n no_entry)) (sym ordered))
      ];
      entry_above = λ d past. so.entry_above d (omega (arith, past));
    }

    abbrev other : Validated
    other = validated_with_mode next n Free

    inside : n < length next.view.components
    inside = let count = so.components in omega (arith, lv, count)

    written_inside : n < length next.topology.components
    written_inside = let count = so.entries in omega (arith, lt, count)

    here_is : component_at other.view n ≡ component_with_mode Free (component_at next.view n)
    here_is = get_or-set_same next.view.components n (component_with_mode Free (component_at next.view n)) no_component inside

    there_is : (d : ℕ) → d ≢ n → component_at other.view d ≡ component_at next.view d
    there_is d away = get_or-set_other next.view.components n d (component_with_mode Free (component_at next.view n)) no_component away

    abbrev new_entry : ComponentEntry
    new_entry = entry_with_mode next.view.attributes Free (get_or next.topology.components n no_entry)

    entry_here : get_or other.topology.components n no_entry ≡ new_entry
    entry_here = get_or-set_same next.topology.components n new_entry no_entry written_inside

    entry_there : (d : ℕ) → d ≢ n → get_or other.topology.components d no_entry ≡ get_or next.topology.components d no_entry
    entry_there d away = get_or-set_other next.topology.components n d new_entry no_entry away

    new_is : is_order v n ≡ false → new_entry ≡ free_entry n
    new_is free =
        ap (entry_with_mode next.view.attributes Free) (so.entry_above n (omega arith))
        ∙ ap (λ (b : Bool). if b then get_or now.topology.components n no_entry else entry_with_mode v.attributes Free (get_or now.topology.components n no_entry)) (sym free)

    frees : is_order v n ≡ false → SoFar (n + 1) other
    frees free = record {
      rest = ap (λ (x : View). record x { components = other.view.components }) so.rest;
      entries_rest = ap (λ (x : Topology). record x { components = other.topology.components }) so.entries_rest;
      components = length-set next.view.components n (component_with_mode Free (component_at next.view n)) ∙ so.components;
      entries = length-set next.topology.components n new_entry ∙ so.entries;
      freed_below = λ d low. elim (below_one d n low) [
        | inl before ↦ there_is d (omega (arith, before)) ∙ so.freed_below d before
        | inr here ↦ subst (λ (k : ℕ). component_at other.view k ≡ freed_component (component_at v k)) (sym here)
            (here_is ∙ ap (component_with_mode Free) (so.kept_above n (omega arith)) ∙ free_same (component_at v n) free)
      ];
      kept_above = λ d past. there_is d (omega (arith, past)) ∙ so.kept_above d (omega (arith, past));
      entry_below = λ d low. elim (below_one d n low) [
        | inl before ↦ entry_there d (omega (arith, before)) ∙ so.entry_below d before
        | inr here ↦ subst (λ (k : ℕ). get_or other.topology.components k no_entry ≡ free_entry k) (sym here) (entry_here ∙ new_is free)
      ];
      entry_above = λ d past. entry_there d (omega (arith, past)) ∙ so.entry_above d (omega (arith, past));
    }

    next_so : SoFar (n + 1) (free_component next n)
    next_so = by (is_order next.view n) refl
      where
        by : (b : Bool) → is_order next.view n ≡ b → SoFar (n + 1) (if b then next else other)
        by true e = stays (sym same_order ∙ e)
        by false e = frees (sym same_order ∙ e)

  begin : SoFar 0 now
  begin = record {
    rest = refl;
    entries_rest = refl;
    components = refl;
    entries = refl;
    freed_below = λ d low. absurd (omega (arith, low));
    kept_above = λ d past. refl;
    entry_below = λ d low. absurd (omega (arith, low));
    entry_above = λ d past. refl;
  }

  so_far : (n : ℕ) → n ≤ length v.components → n ≤ length now.topology.components → SoFar n (freed_so_far now n)
  so_far zero lv lt = begin
  so_far (suc n) lv lt =
      let one : n + 1 ≡ suc n = omega arith in
      subst (λ (k : ℕ). SoFar k (freed_so_far now k)) one
      (subst (SoFar (n + 1)) (sym (one_more now n)) (next_so n (freed_so_far now n) (so_far n (omega (arith, lv)) (omega (arith, lt))) (omega (arith, lv)) (omega (arith, lt))))

  -- ---- all components

  module _ (whole : IsWhole now) where
    abbrev modules : List Accepted
    modules = modules_in v

    view_is : v ≡ seen now.topology modules
    unfolding view_of
    view_is = whole.is

    pub counts : length v.components ≡ length now.topology.components
    counts = ap (λ (x : View). length x.components) view_is ∙ length_components now.topology modules whole.clean ∙ length_sites now.topology.components modules

    -- an entry without a key is that with its own mode
    own_entry : (ats : List Name) (e : ComponentEntry) → allows_key e.mode e.key ≡ true → mode_key (mode_from ats e.mode e.key) ≡ None → e ≡ entry_with_mode ats (mode_from ats e.mode e.key) e
    own_entry ats e allowed keyless = by e.mode e.key allowed keyless
      where
        no_key : (key : List Name) → is_empty key ≡ true → key ≡ []
        no_key [] empty = refl
        no_key (name ∷ key) empty = absurd (true≢false (sym empty))

        by : (m : ModeName) (key : List Name) → allows_key m key ≡ true → mode_key (mode_from ats m key) ≡ None → record e { mode = m; key = key } ≡ entry_with_mode ats (mode_from ats m key) e
        by written.Free key allowed keyless = ap (λ (k : List Name). record e { mode = written.Free; key = k }) (no_key key allowed)
        by written.Pass key allowed keyless = absurd cc
        by written.Seal key allowed keyless = absurd cc
        by written.Order key allowed keyless = ap (λ (k : List Name). record e { mode = written.Order; key = k }) (no_key key allowed)

    -- a component without a key is written with its mode
    entry_is : (d : ℕ) → d < length now.topology.components → mode_key (mode_of v d) ≡ None → get_or now.topology.components d no_entry ≡ entry_with_mode v.attributes (mode_of v d) (get_or now.topology.components d no_entry)
    entry_is d lt keyless =
        let t = now.topology in
        let entry : ComponentEntry = get_or t.components d no_entry in
        let ls : d < length (sites t modules) = omega (arith, lt, length_sites t.components modules) in
        let mode_is : mode_of v d ≡ mode_from (attributes t modules) entry.mode entry.key =
        ap (λ (x : View). mode_of x d) view_is ∙ ap (λ (x : Component). x.mode) (at_component t modules d ls) ∙ ap (λ (x : ComponentEntry). mode_from (attributes t modules) x.mode x.key) (site_entry t.components modules d lt) in
        let one = both_true _ _ whole.allowed in
        let two = both_true (list_all allows_source t.sources) _ one.1 in
        let three = both_true (list_all allows_component t.components) _ two.1 in
        let own : allows_component entry ≡ true = all_member allows_component t.components entry three.0 (Has-get_or t.components d no_entry lt) in
        let body = both_true (is_name entry.name) _ own in
        let notes = both_true (allows_body entry.body entry.inputs entry.outputs) _ body.1 in
        let allows : allows_key entry.mode entry.key ≡ true = (both_true (list_all allows_note entry.notes) (allows_key entry.mode entry.key) notes.1).1 in
        written_as entry allows mode_is
      where
        written_as : (entry : ComponentEntry) → allows_key entry.mode entry.key ≡ true → mode_of v d ≡ mode_from (attributes now.topology modules) entry.mode entry.key → entry ≡ entry_with_mode v.attributes (mode_of v d) entry
        written_as entry allows is =
            let named : mode_of v d ≡ mode_from v.attributes entry.mode entry.key = is ∙ sym (ap (λ (x : View). mode_from x.attributes entry.mode entry.key) view_is) in
            own_entry v.attributes entry allows (sym (ap mode_key named) ∙ keyless) ∙ ap (λ (m : Mode). entry_with_mode v.attributes m entry) (sym named)

    -- one that is Free stays as it is where it is freed
    pub free_stays : (c : ℕ) → c < length v.components → mode_of v c ≡ Free → now ≡ validated_with_mode now c Free
    free_stays c lc is =
        let le : c < length now.topology.components = (let same = counts in omega (arith, lc, same)) in
        let entry : ComponentEntry = get_or now.topology.components c no_entry in
        let own : Free ≡ mode_of v c = sym is in
        let written = entry_is c le (ap mode_key is) ∙ ap (λ (m : Mode). entry_with_mode v.attributes m entry) is in
        let entries = sym (set_own now.topology.components c no_entry (entry_with_mode v.attributes Free entry) (sym written)) in
        let components = sym (set_own v.components c no_component (component_with_mode Free (component_at v c)) (λ i. component_with_mode (own i) (component_at v c))) in
        λ i. record { topology = record now.topology { components = entries i }; view = record v { components = components i } }

    free_written : (d : ℕ) → d < length now.topology.components → free_entry d ≡ entry_with_mode v.attributes (if is_order v d then Order else Free) (get_or now.topology.components d no_entry)
    free_written d lt = by (is_order v d) refl
      where
        by : (b : Bool) → is_order v d ≡ b → (if b then get_or now.topology.components d no_entry else entry_with_mode v.attributes Free (get_or now.topology.components d no_entry)) ≡ entry_with_mode v.attributes (if b then Order else Free) (get_or now.topology.components d no_entry)
        by false e = refl
        by true e =
            let is : mode_of v d ≡ Order = order_mode (mode_of v d) e in
            entry_is d lt (ap mode_key is) ∙ ap (λ (m : Mode). entry_with_mode v.attributes m (get_or now.topology.components d no_entry)) is

    abbrev start : Validated
    start = freed_so_far now (length v.components)

    done : SoFar (length v.components) start
    done = so_far (length v.components) (omega arith) (let same = counts in omega (arith, same))

    components_are : start.view.components ≡ map freed_component v.components
    components_are =
        let many = done.components in
        ext_get_or no_component start.view.components (map freed_component v.components) (many ∙ sym (length-map v.components freed_component))
        (λ d lt. done.freed_below d (omega (arith, lt, many)) ∙ sym (get_or-map freed_component v.components d no_component no_component (omega (arith, lt, many))))

    pub start_view : start.view ≡ freed v
    start_view = done.rest ∙ ap (λ (cs : List Component). record v { components = cs }) components_are

    entries_are : start.topology.components ≡ (topology_with_modes now.topology (freed v)).components
    entries_are =
        let many = done.entries in
        let same = counts in
        ext_get_or no_entry start.topology.components (topology_with_modes now.topology (freed v)).components (many ∙ sym (count_entries now.topology (freed v)))
        (λ d lt.
        let lv : d < length v.components = omega (arith, lt, many, same) in
        let le : d < length now.topology.components = omega (arith, lt, many) in
        done.entry_below d lv ∙ free_written d le
        ∙ ap (λ (m : Mode). entry_with_mode v.attributes m (get_or now.topology.components d no_entry)) (sym (ap (λ (c : Component). c.mode) (get_or-map freed_component v.components d no_component no_component lv)))
        ∙ sym (entry_at now.topology (freed v) d le))

    pub start_written : IsWritten now.topology start
    start_written =
        done.entries_rest ∙ ap (λ (cs : List ComponentEntry). record now.topology { components = cs }) entries_are
        ∙ ap (topology_with_modes now.topology) (sym start_view)

    pub start_count : (n : ℕ) → n ≤ length v.components → length (freed_so_far now n).view.components ≡ length v.components
    start_count n le = (so_far n le (let same = counts in omega (arith, same, le))).components
