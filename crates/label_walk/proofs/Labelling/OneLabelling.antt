-- A valid topology has one labelling: the one that is made region by region.
use Rattle.std.proofs.Common.{◌≡◌, ◌<◌, ℕ, zero, suc, nat_eq, not, Bool, true, false, if◌then◌else◌, Option, None, Some, List, [], ◌∷◌, ◌++◌, length, map, filter, refl, arith, rules, ap, sym, subst, ◌∙◌}
use Rattle.std.specs.Option.{option_map_or}
use Rattle.std.proofs.lemmas.Bool.{true≢false}
use Rattle.std.proofs.lemmas.List.{ext_get_or}
use Rattle.blz_value.specs.Members.{Has}
use Rattle.blz_value.proofs.Membership.{Has-from_any, Has-from_filter, Has-from_map, Has-from_flat_map}
use Rattle.bloom_forms.specs.declared.note.Note.{Note}
use Rattle.bloom_forms.specs.declared.mode.Mode.TheVariants.{Free}
use Rattle.topo_forms.specs.Dependencies.{usable_fds}
use Rattle.blz_value.specs.Graph.{Edge, is_in}
use Rattle.blz_value.proofs.Maps.{same_map, flat_map_same}
use Rattle.blz_value.proofs.Booleans.{both_true}
use Rattle.blz_value.proofs.Ranges.{Has-below as from_below}
use Rattle.topo_forms.specs.Regions.{edges, region_of, region_set, is_in_cycle}
use Rattle.topo_forms.specs.Valid.{IsValid}
use Rattle.topo_forms.specs.View.{View, End, same_end, goes_to, no_attrs, port_attrs, origin_of, ends_of, mode_of, is_order, is_replicated, note_at, port_numbers, stream_numbers, streams_to}
use Rattle.topo_forms.proofs.Regions.Lower.{feeds_edge, none_ordered, lower_outside, lower_into}
use Rattle.label_rules.specs.declared.label.Label.{Label}
use Rattle.label_rules.specs.declared.label.Label.TheVariants.{Async, Run}
use Rattle.label_rules.specs.declared.label.PathLabel.{PathLabel}
use Rattle.label_rules.specs.PathTable.{pass_path}
use Rattle.label_rules.specs.Reconciliation.{reconcile}
use Rattle.label_walk.specs.Paths.{label_at, path_label, port_paths, output_paths, is_from_outside, ends_in, region_inputs, region_paths, region_note, is_replicated_set}
use Rattle.label_walk.specs.Labels.{AreLabels, as_carried, label_by, region_label, outside_label}
use Rattle.label_walk.specs.LabelLaws.{HasOneLabelling}
use Rattle.label_walk.proofs.Labelling.Computed.{computed}

-- ---- lists made alike

-- ---- labels depend on what feeds

module _ (v : View) (valid : IsValid v) where
  -- who feeds a component outside cycles, and who feeds its region from outside, is of this kind
  pub record Feeds (Kind : ℕ → Type 0) (c : ℕ) : Type 0 where
    pub outside : is_in_cycle v c ≡ false → (d : ℕ) → Has {X = Edge} (d, c) (edges v) → Kind d
    pub into : (e : Edge) → Has e (edges v) → is_in e.1 (region_set v c) ≡ true → is_in e.0 (region_set v c) ≡ false → Kind e.0

  -- a stream comes from a component of this kind, or from none
  abbrev pub IsFrom : (ℕ → Type 0) → ℕ → Type 0
  IsFrom Kind u = (output : End) → origin_of v u ≡ Some output → Kind output.0

  -- two lists have the same labels of such streams
  abbrev pub Agree : List Label → List Label → (ℕ → Type 0) → Type 0
  Agree a b Kind = (u : ℕ) → u < length v.streams → IsFrom Kind u → label_at a u ≡ label_at b u

  module _ (a b : List Label) (Kind : ℕ → Type 0) (agree : Agree a b Kind) where
    -- outside cycles
    same_port : (c p : ℕ) → is_order v c ≡ false → is_in_cycle v c ≡ false → Feeds Kind c → (note : Option Note) → port_paths v a c p note ≡ port_paths v b c p note
    same_port c p free outside feeds None = refl
    same_port c p free outside feeds (Some note) = same_map (path_label v a c p note) (path_label v b c p note) (streams_to v c p) (λ u has.
        let kept = Has-from_filter (goes_to v c p) u (stream_numbers v) has in
        let lt : u < length v.streams = from_below (length v.streams) u kept.0 in
        let goes = Has-from_any (λ (end : End). same_end (c, p) end) (ends_of v u) kept.1 in
        let there : c ≡ goes.0.0 = same_number c goes.0.0 (both_true (nat_eq c goes.0.0) (nat_eq p goes.0.1) goes.2).0 in
        ap (λ (label : Label). pass_path label note (port_attrs v c p) (mode_of v c) (usable_fds v c)) (agree u lt (λ output is.
        feeds.outside outside output.0 (subst (λ (d : ℕ). Has {X = Edge} (output.0, d) (edges v)) (sym there)
        (feeds_edge v valid u output goes.0 lt is goes.1 (subst (λ (d : ℕ). is_order v d ≡ false) there free))))))
      where
        same_number : (m n : ℕ) → nat_eq m n ≡ true → m ≡ n
        same_number m n e = search rules

    same_outputs : (c o : ℕ) → is_order v c ≡ false → is_in_cycle v c ≡ false → Feeds Kind c → output_paths v a c o ≡ output_paths v b c o
    same_outputs c o free outside feeds = flat_map_same (λ p. port_paths v a c p (note_at v c p o)) (λ p. port_paths v b c p (note_at v c p o)) (port_numbers v c) (λ p has. same_port c p free outside feeds (note_at v c p o))

    -- in a cycle
    same_region : (c : ℕ) → c < length v.components → is_order v c ≡ false → Feeds Kind c → region_paths v a (region_set v c) ≡ region_paths v b (region_set v c)
    same_region c lc free feeds = same_map _ _ (region_inputs v (region_set v c)) (λ input has.
        let from = Has-from_flat_map (λ s. map (λ end. (s, end)) (ends_in v (region_set v c) s)) input (filter (is_from_outside v (region_set v c)) (stream_numbers v)) has in
        let outside = Has-from_filter (is_from_outside v (region_set v c)) from.0 (stream_numbers v) from.1 in
        let made = Has-from_map (λ (end : End). (from.0, end)) input (ends_in v (region_set v c) from.0) from.2 in
        let kept = Has-from_filter (λ (end : End). is_in end.0 (region_set v c)) made.0 (ends_of v from.0) made.1 in
        let lt : from.0 < length v.streams = from_below (length v.streams) from.0 outside.0 in
        let one : label_at a from.0 ≡ label_at b from.0 = agree from.0 lt (comes from.0 made.0 lt outside.1 kept.0 kept.1) in
        let first : from.0 ≡ input.0 = ap (λ (i : ℕ × End). i.0) made.2 in
        ap (λ (label : Label). pass_path label (region_note v (region_set v c)) no_attrs Free []) (subst (λ (u : ℕ). label_at a u ≡ label_at b u) first one))
      where
        comes : (u : ℕ) (end : End) → u < length v.streams → is_from_outside v (region_set v c) u ≡ true → Has end (ends_of v u) → is_in end.0 (region_set v c) ≡ true → IsFrom Kind u
        comes u end lt out goes inside output is =
            let ld = (valid.numbered.ends u end lt goes).0 in
            let edge = feeds_edge v valid u output end lt is goes (none_ordered v valid c end.0 lc ld free inside) in
            let away : not (is_in output.0 (region_set v c)) ≡ true = subst (λ (o : Option End). option_map_or (λ (d : End). not (is_in d.0 (region_set v c))) o true ≡ true) is out in
            feeds.into (output.0, end.0) edge inside (not_so (is_in output.0 (region_set v c)) away)
          where
            not_so : (x : Bool) → not x ≡ true → x ≡ false
            not_so true e = absurd (true≢false (sym e))
            not_so false e = refl

    -- the label of a stream is the same over both
    pub same_by : (s : ℕ) (output : End) → output.0 < length v.components → Feeds Kind output.0 → label_by v a s (Some output) ≡ label_by v b s (Some output)
    same_by s output lc feeds = by (is_order v output.0) (is_in_cycle v output.0) refl refl
      where
        by : (x y : Bool) → is_order v output.0 ≡ x → is_in_cycle v output.0 ≡ y
            → (if x then Run else (if y then region_label v a (region_set v output.0) else outside_label v a s output)) ≡ (if x then Run else (if y then region_label v b (region_set v output.0) else outside_label v b s output))
        by true y p q = refl
        by false true p q = ap (λ (paths : List PathLabel). reconcile paths Free (is_replicated_set v (region_set v output.0)) []) (same_region output.0 lc p feeds)
        by false false p q = ap (λ (paths : List PathLabel). as_carried v s (reconcile paths (mode_of v output.0) (is_replicated v output.0) (usable_fds v output.0))) (same_outputs output.0 output.1 p q feeds)

  -- ---- one labelling

  abbrev IsLower : ℕ → ℕ → Type 0
  IsLower r d = region_of v d < r

  lower_feeds : (c : ℕ) → c < length v.components → Feeds (IsLower (region_of v c)) c
  lower_feeds c lc = record {
    outside = λ free d edge. lower_outside v valid (d, c) edge free;
    into = λ e edge inside away. lower_into v valid c lc e edge inside away;
  }

  module _ (a b : List Label) (of_a : AreLabels v a) (of_b : AreLabels v b) where
    at_a : (u : ℕ) → u < length v.streams → (o : Option End) → origin_of v u ≡ o → label_at a u ≡ label_by v a u o
    at_a u lt o is = subst (λ (p : Option End). label_at a u ≡ label_by v a u p) is (computed v a u (origin_of v u) (label_at a u) (of_a.are u lt))

    at_b : (u : ℕ) → u < length v.streams → (o : Option End) → origin_of v u ≡ o → label_at b u ≡ label_by v b u o
    at_b u lt o is = subst (λ (p : Option End). label_at b u ≡ label_by v b u p) is (computed v b u (origin_of v u) (label_at b u) (of_b.are u lt))

    same_source : (u : ℕ) → u < length v.streams → origin_of v u ≡ None → label_at a u ≡ label_at b u
    same_source u lt is = at_a u lt None is ∙ sym (at_b u lt None is)

    same_output : (u : ℕ) (output : End) → u < length v.streams → origin_of v u ≡ Some output → Agree a b (IsLower (region_of v output.0)) → label_at a u ≡ label_at b u
    same_output u output lt is agree =
        let lc = (valid.numbered.origins u output lt is).0 in
        at_a u lt (Some output) is ∙ same_by a b (IsLower (region_of v output.0)) agree u output lc (lower_feeds output.0 lc) ∙ sym (at_b u lt (Some output) is)

    agree_below : (k : ℕ) → Agree a b (IsLower k)
    agree_below zero u lt from = by (origin_of v u) refl
      where
        by : (o : Option End) → origin_of v u ≡ o → label_at a u ≡ label_at b u
        by None is = same_source u lt is
        by (Some output) is = absurd (let no : region_of v output.0 < 0 = from output is in omega arith)
    agree_below (suc k) u lt from = by (origin_of v u) refl (agree_below k)
      where
        by : (o : Option End) → origin_of v u ≡ o → Agree a b (IsLower k) → label_at a u ≡ label_at b u
        by None is more = same_source u lt is
        by (Some output) is more = same_output u output lt is (λ w ltw lower. more w ltw (λ other isw.
            let l : region_of v other.0 < region_of v output.0 = lower other isw in
            let m : region_of v output.0 < suc k = from output is in omega arith))

    same_at : (u : ℕ) → u < length v.streams → label_at a u ≡ label_at b u
    same_at u lt = by (origin_of v u) refl
      where
        by : (o : Option End) → origin_of v u ≡ o → label_at a u ≡ label_at b u
        by None is = same_source u lt is
        by (Some output) is = same_output u output lt is (agree_below (region_of v output.0))

    pub same_labels : a ≡ b
    same_labels = ext_get_or Async a b (of_a.each ∙ sym of_b.each) (λ u lt. same_at u (subst (λ (n : ℕ). u < n) of_a.each lt))

pub has_one_labelling : HasOneLabelling
has_one_labelling v a b valid of_a of_b = same_labels v valid a b of_a of_b
