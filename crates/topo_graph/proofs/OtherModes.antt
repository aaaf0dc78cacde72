-- A valid topology stays valid under other modes, where no Order is taken away and no member of a cycle gets a key.
use Rattle.std.proofs.Common.{◌≡◌, ◌≢◌, ◌≤◌, ◌<◌, ◌&&◌, ◌⊎◌, inl, inr, not, ℕ, nat_lt, nat_eq, Bool, true, false, cond, if◌then◌else◌, Option, None, Some, List, [], ◌∷◌, length, map, filter, get_or, refl, arith, ap, sym, subst, ◌∙◌}
use Rattle.std.specs.List.{list_any, AllPairs}
use Rattle.std.specs.Option.{option_map_or}
use Rattle.std.proofs.lemmas.Bool.{true≢false, false_from_ne_true}
use Rattle.std.proofs.lemmas.Bool.Decides.{nat_tests}
use Rattle.blz_value.specs.Members.{Has}
use Rattle.blz_value.proofs.Membership.{any_from_Has, Has-from_any, Has-from_filter, Has-from_map, Has-from_flat_map}
use Rattle.blz_value.specs.declared.attrs.Fd.{Fd}
use Rattle.blz_value.specs.Bits.{bit_of, meets, members}
use Rattle.blz_value.specs.Closure.{within, IsLeastClosed}
use Rattle.blz_value.proofs.Members.{in-within, member_small}
use Rattle.blz_value.proofs.Least.{closure-least}
use Rattle.blz_value.proofs.Reached.{closed-map}
use Rattle.bloom_forms.specs.declared.program.Program.{Program}
use Rattle.bloom_forms.proofs.Collections.Chosen.{in_chosen, from_chosen}
use Rattle.bloom_forms.specs.declared.note.Note.{Note}
use Rattle.topo_forms.specs.Feeds.{can_be_paired}
use Rattle.blz_value.specs.Graph.{Edge, arrow, arrows, is_in, up, together, region, is_cyclic_set}
use Rattle.topo_forms.specs.OtherModes.{AreRemoded, OtherModesLaw}
use Rattle.topo_forms.specs.Regions.{edges, edges_of, counting_ends, region_set, is_in_cycle}
use Rattle.blz_value.specs.NumberSets.{below}
use Rattle.blz_value.proofs.Booleans.{and_true, both_true}
use Rattle.blz_value.proofs.Ranges.{Has-below as from_below}
use Rattle.topo_forms.specs.ViewOf.{derived_note}
use Rattle.topo_forms.specs.Valid.{AreNumbered, IsCovered, HasColumns, IsPaired, Runs, IsComponent, IsValid}
use Rattle.topo_forms.specs.View.{View, Component, End, no_component, no_port, no_output, component_at, origin_of, ends_of, replicas_of, stream_replicas, senders_of, is_order, stream_numbers}
use Rattle.topo_forms.proofs.Regions.Lower.{feeds_edge}
use Rattle.topo_forms.proofs.Regions.RegionOrder.{if_first, if_true, above_one}
use Rattle.topo_forms.proofs.Regions.Spreading.{in_below}
use Rattle.topo_forms.proofs.Views.ViewColumns.{get_or_other}

-- a list that keeps fewer is no longer
filter_fewer : {X : Type 0} (p q : X → Bool) (xs : List X) → ((x : X) → p x ≡ true → q x ≡ true) → length (filter p xs) ≤ length (filter q xs)
filter_fewer p q [] more = omega arith
filter_fewer p q (x ∷ xs) more = by (p x) (q x) (more x) (filter_fewer p q xs more)
  where
    by : (a b : Bool) → (a ≡ true → b ≡ true) → length (filter p xs) ≤ length (filter q xs) → length (cond a (x ∷ filter p xs) (filter p xs)) ≤ length (cond b (x ∷ filter q xs) (filter q xs))
    by true true f le = omega (arith, le)
    by true false f le = absurd (true≢false (sym (f refl)))
    by false true f le = omega (arith, le)
    by false false f le = le

more_than_one : (n m : ℕ) → nat_lt 1 n ≡ true → n ≤ m → nat_lt 1 m ≡ true
more_than_one n m t le = above_one m (let lt : 1 < n = grind (arith, nat_tests) in omega (arith, lt, le))

if_cases : (b c : Bool) → (if b then true else c) ≡ true → (b ≡ true) ⊎ (c ≡ true)
if_cases true c e = inl refl
if_cases false c e = inr e

-- a larger set is cyclic where a smaller one is
pub cyclic_more : (es : List Edge) (a b : ℕ) → ((n : ℕ) → meets (bit_of n) a ≡ true → meets (bit_of n) b ≡ true) → is_cyclic_set es a ≡ true → is_cyclic_set es b ≡ true
cyclic_more es a b larger h = elim (if_cases (nat_lt 1 (length (members a))) (list_any (λ (e : Edge). nat_eq e.0 e.1 && is_in e.0 a) es) h) [
  | inl many ↦ if_first (nat_lt 1 (length (members b))) (list_any (λ (e : Edge). nat_eq e.0 e.1 && is_in e.0 b) es)
      (more_than_one (length (members a)) (length (members b)) many (filter_fewer (λ n. meets (bit_of n) a) (λ n. meets (bit_of n) b) (below 64) larger))
  | inr loop ↦
      let found = Has-from_any (λ (e : Edge). nat_eq e.0 e.1 && is_in e.0 a) es loop in
      let both = both_true (nat_eq found.0.0 found.0.1) (is_in found.0.0 a) found.2 in
      if_true (nat_lt 1 (length (members b))) (list_any (λ (e : Edge). nat_eq e.0 e.1 && is_in e.0 b) es)
      (any_from_Has (λ (e : Edge). nat_eq e.0 e.1 && is_in e.0 b) found.0 es found.1 (and_true _ _ both.0 (larger found.0.0 both.1)))
]

module _ (v : View) (valid : IsValid v) (components : List Component) (other : AreRemoded v components) where
  abbrev w : View
  w = record v { components = components }

  few : length v.components ≤ 64
  few = omega (arith, valid.numbered.few_components)

  small : {c : ℕ} → c < length v.components → c < 64
  small {c} lt = omega (arith, lt, few)

  unordered : (d : ℕ) → is_order w d ≡ false → is_order v d ≡ false
  unordered d e = false_from_ne_true (is_order v d) (λ t. true≢false (sym (other.ordered d t) ∙ e))

  -- ---- fewer edges

  not_true : (b : Bool) → not b ≡ true → b ≡ false
  not_true true e = absurd (true≢false (sym e))
  not_true false e = refl

  edge_kept : (e : Edge) → Has e (edges w) → Has e (edges v)
  edge_kept e has =
      let from = Has-from_flat_map (edges_of w) e (stream_numbers v) has in
      go from.0 (from_below (length v.streams) from.0 from.1) (origin_of v from.0) refl from.2
    where
      go : (u : ℕ) → u < length v.streams → (o : Option End) → origin_of v u ≡ o → Has e (option_map_or (λ (d : End). map (λ (x : End). (d.0, x.0)) (counting_ends w u)) o []) → Has e (edges v)
      go u lt None is h = absurd h
      go u lt (Some output) is h =
          let made = Has-from_map (λ (d : End). (output.0, d.0)) e (counting_ends w u) h in
          let kept = Has-from_filter (λ (d : End). not (is_order w d.0)) made.0 (ends_of v u) made.1 in
          subst (λ (z : Edge). Has z (edges v)) made.2 (feeds_edge v valid u output made.0 lt is kept.0 (unordered made.0.0 (not_true (is_order w made.0.0) kept.1)))

  up_within : (c : ℕ) → within (up (arrows (edges w)) c) (up (arrows (edges v)) c) ≡ true
  up_within c =
      let own : IsLeastClosed (bit_of c) (arrows (edges w)) (up (arrows (edges w)) c) = closure-least (bit_of c) (arrows (edges w)) in
      let all : IsLeastClosed (bit_of c) (arrows (edges v)) (up (arrows (edges v)) c) = closure-least (bit_of c) (arrows (edges v)) in
      own.least (up (arrows (edges v)) c) all.contains (λ fd stands fires.
      let from = Has-from_map arrow fd (edges w) stands in
      subst (λ (z : Fd). within z.from.bits (up (arrows (edges v)) c) ≡ true → within z.to.bits (up (arrows (edges v)) c) ≡ true) from.2
      (λ into. closed-map arrow (edges v) (up (arrows (edges v)) c) all.closed from.0 (edge_kept from.0 from.1) into) fires)

  together_kept : (c d : ℕ) → c < 64 → d < 64 → together (arrows (edges w)) c d ≡ true → together (arrows (edges v)) c d ≡ true
  together_kept c d lc ld h =
      let both = both_true (is_in d (up (arrows (edges w)) c)) (is_in c (up (arrows (edges w)) d)) h in
      and_true _ _ (in-within d _ _ ld both.0 (up_within c)) (in-within c _ _ lc both.1 (up_within d))

  member_kept : (c n : ℕ) → c < length v.components → n < 64 → is_in n (region (arrows (edges w)) (length components) c) ≡ true → is_in n (region (arrows (edges v)) (length v.components) c) ≡ true
  member_kept c n lc ln h =
      let chosen = from_chosen (together (arrows (edges w)) c) (λ k. k) (below (length components)) n ln h in
      let below_w : chosen.element < length components = from_below (length components) chosen.element chosen.stands in
      let lt : n < length v.components = omega (arith, below_w, other.count, chosen.is) in
      let pass : together (arrows (edges w)) c n ≡ true = subst (λ (m : ℕ). together (arrows (edges w)) c m ≡ true) chosen.is chosen.passes in
      in_chosen (together (arrows (edges v)) c) (λ k. k) (below (length v.components)) n (in_below (length v.components) n lt) (together_kept c n (small lc) ln pass) ln

  member_in : (c n : ℕ) → c < length v.components → meets (bit_of n) (region (arrows (edges w)) (length components) c) ≡ true → meets (bit_of n) (region (arrows (edges v)) (length v.components) c) ≡ true
  member_in c n lc h = member_kept c n lc (member_small n _ h) h

  cycle_kept : (c : ℕ) → c < length v.components → is_in_cycle w c ≡ true → is_in_cycle v c ≡ true
  unfolding is_in_cycle region_set
  cycle_kept c lc h =
      let a = region (arrows (edges w)) (length components) c in
      let b = region (arrows (edges v)) (length v.components) c in
      elim (if_cases (nat_lt 1 (length (members a))) (list_any (λ (e : Edge). nat_eq e.0 e.1 && is_in e.0 a) (edges w)) h) [
        | inl many ↦ if_first (nat_lt 1 (length (members b))) (list_any (λ (e : Edge). nat_eq e.0 e.1 && is_in e.0 b) (edges v))
            (more_than_one (length (members a)) (length (members b)) many (filter_fewer (λ n. meets (bit_of n) a) (λ n. meets (bit_of n) b) (below 64) (λ n t. member_in c n lc t)))
        | inr loop ↦
            let found = Has-from_any (λ (e : Edge). nat_eq e.0 e.1 && is_in e.0 a) (edges w) loop in
            let both = both_true (nat_eq found.0.0 found.0.1) (is_in found.0.0 a) found.2 in
            if_true (nat_lt 1 (length (members b))) (list_any (λ (e : Edge). nat_eq e.0 e.1 && is_in e.0 b) (edges v))
            (any_from_Has (λ (e : Edge). nat_eq e.0 e.1 && is_in e.0 b) found.0 (edges v) (edge_kept found.0 found.1) (and_true _ _ both.0 (member_in c found.0.0 lc both.1)))
      ]

  -- ---- the parts

  same_name : (d : ℕ) → (component_at w d).name ≡ (component_at v d).name
  same_name d = ap (λ (x : Component). x.name) (other.each d)

  names : AllPairs (λ (a b : Component). a.name ≢ b.name) components
  names i j d lt le same =
      let lj : j < length v.components = omega (arith, le, other.count) in
      valid.numbered.component_names i j no_component lt lj
      (sym (same_name i)
      ∙ ap (λ (x : Component). x.name) (get_or_other components i no_component d (omega (arith, lt, le)))
      ∙ same
      ∙ ap (λ (x : Component). x.name) (sym (get_or_other components j no_component d le))
      ∙ same_name j)

  numbered : AreNumbered w
  numbered = record {
    few_streams = valid.numbered.few_streams;
    few_components = omega (arith, valid.numbered.few_components, other.count);
    few_attributes = valid.numbered.few_attributes;
    attribute_names = valid.numbered.attribute_names;
    stream_names = valid.numbered.stream_names;
    component_names = names;
    sources = valid.numbered.sources;
    sides = valid.numbered.sides;
    origins = λ s output lt e.
        let old = valid.numbered.origins s output lt e in
        (omega (arith, old.0, other.count), subst (λ (n : ℕ). output.1 < n) (sym (ap (λ (x : Component). length x.outputs) (other.each output.0))) old.1);
    one_stream = valid.numbered.one_stream;
    ends = λ s end lt has.
        let old = valid.numbered.ends s end lt has in
        (omega (arith, old.0, other.count), subst (λ (n : ℕ). end.1 < n) (sym (ap (λ (x : Component). length x.ports) (other.each end.0))) old.1);
  }

  columns : (s : ℕ) → s < length v.streams → HasColumns w s
  columns s lt =
      let old = valid.columns s lt in
      record {
        of_output = λ output e. old.of_output output e ∙ ap (λ (x : Component). (get_or x.outputs output.1 no_output).columns) (sym (other.each output.0));
        of_port = λ end has. old.of_port end has ∙ ap (λ (x : Component). map Some (get_or x.ports end.1 no_port).columns) (sym (other.each end.0));
        of_key = old.of_key;
        of_source = old.of_source;
      }

  same_replicas : (d : ℕ) → replicas_of w d ≡ replicas_of v d
  same_replicas d = ap (λ (x : Component). x.replicas) (other.each d)

  same_senders : (o : Option End) → senders_of w o ≡ senders_of v o
  same_senders None = refl
  same_senders (Some output) = same_replicas output.0

  paired : (s : ℕ) → s < length v.streams → IsPaired w s
  paired s lt end has free =
      subst (λ (n : ℕ). can_be_paired n (replicas_of w end.0) ≡ true) (sym (same_senders (origin_of v s)))
      (subst (λ (n : ℕ). can_be_paired (stream_replicas v s) n ≡ true) (sym (same_replicas end.0)) (valid.paired s lt end has (unordered end.0 free)))

  runs_still : (d : ℕ) (p : Program) → Runs v d p → Runs w d p
  runs_still d p old = record {
    proper = old.proper;
    distinct = old.distinct;
    ports = ap (λ (x : Component). map (λ port. map Some port.columns) x.ports) (other.each d) ∙ old.ports;
    outputs = ap (λ (x : Component). map (λ output. output.columns) x.outputs) (other.each d) ∙ old.outputs;
    roots = λ o lo. ap (λ (x : Component). (get_or x.outputs o no_output).roots) (other.each d) ∙ old.roots o (subst (λ (n : ℕ). o < n) (ap (λ (x : Component). length x.outputs) (other.each d)) lo);
    gates = λ o lo. ap (λ (x : Component). (get_or x.outputs o no_output).gate.bits) (other.each d) ∙ old.gates o (subst (λ (n : ℕ). o < n) (ap (λ (x : Component). length x.outputs) (other.each d)) lo);
    notes = λ q o lq lo. subst (λ (n : Option Note). IsCovered n (derived_note v.attributes (Some p) q o)) (sym (ap (λ (x : Component). get_or (get_or x.notes q []) o None) (other.each d)))
        (old.notes q o (subst (λ (n : ℕ). q < n) (ap (λ (x : Component). length x.ports) (other.each d)) lq) (subst (λ (n : ℕ). o < n) (ap (λ (x : Component). length x.outputs) (other.each d)) lo));
  }

  component : (d : ℕ) → d < length v.components → IsComponent w d
  component d lt =
      let old = valid.components d lt in
      record {
        some_replica = subst (λ (n : ℕ). 1 ≤ n) (sym (same_replicas d)) old.some_replica;
        few_replicas = subst (λ (n : ℕ). n ≤ 8) (sym (same_replicas d)) old.few_replicas;
        note_rows = ap (λ (x : Component). length x.notes) (other.each d) ∙ old.note_rows ∙ sym (ap (λ (x : Component). length x.ports) (other.each d));
        note_row = λ q lq.
            ap (λ (x : Component). length (get_or x.notes q [])) (other.each d)
            ∙ old.note_row q (subst (λ (n : ℕ). q < n) (ap (λ (x : Component). length x.ports) (other.each d)) lq)
            ∙ sym (ap (λ (x : Component). length x.outputs) (other.each d));
        no_seal = λ cyclic. other.keys d lt (cycle_kept d lt cyclic);
        runs = λ p e. runs_still d p (old.runs p (sym (ap (λ (x : Component). x.program) (other.each d)) ∙ e));
      }

  pub still_valid : IsValid w
  still_valid = record {
    numbered = numbered;
    columns = columns;
    paired = paired;
    components = λ d lt. component d (omega (arith, lt, other.count));
  }

pub other_modes_law : OtherModesLaw
other_modes_law v components valid other = still_valid v valid components other
