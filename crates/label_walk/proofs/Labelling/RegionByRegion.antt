-- The labels that are made region by region are the labels.
use Rattle.std.proofs.Common.{◌≡◌, ◌≤◌, ◌<◌, ◌+◌, ◌⊎◌, ◌||◌, inl, inr, ℕ, Bool, true, false, if◌then◌else◌, Option, None, Some, List, [], ◌∷◌, length, fold, bit_or, refl, arith, ap, sym, subst, ◌∙◌}
use Rattle.std.specs.Option.{option_map_or}
use Rattle.std.proofs.lemmas.Bool.{or_cases, true≢false}
use Rattle.std.proofs.lemmas.List.FromFn.{length-map-range_with_len, get_or-map-range_with_len}
use Rattle.blz_value.specs.declared.attrs.Fd.{Fd}
use Rattle.blz_value.specs.Bits.{bit_of}
use Rattle.blz_value.specs.Closure.{within, IsClosed, IsLeastClosed}
use Rattle.blz_value.proofs.Members.{in-or, in-empty, in-within, meets-within, within-meets}
use Rattle.blz_value.proofs.Least.{closure-least}
use Rattle.blz_value.specs.Members.{Has}
use Rattle.blz_value.proofs.Membership.{Has-from_map}
use Rattle.blz_value.specs.Graph.{Edge, arrow, arrows, is_in, up, together, SomeHas, AreRegions, InOrder, numbered_regions}
use Rattle.topo_forms.specs.Regions.{edges, region_of, region_set, regions}
use Rattle.topo_forms.specs.Valid.{IsValid}
use Rattle.topo_forms.specs.View.{View, End, origin_of}
use Rattle.topo_forms.proofs.Regions.Classes.{together-up, region-is}
use Rattle.topo_forms.proofs.Regions.Lower.{given, one_place, lower_outside}
use Rattle.topo_forms.proofs.Regions.RegionOrder.{edge_within}
use Rattle.label_rules.specs.declared.label.Label.{Label}
use Rattle.label_rules.specs.declared.label.Label.TheVariants.{Async}
use Rattle.label_walk.specs.Paths.{label_at}
use Rattle.label_walk.specs.Labels.{AreLabels, source_label, label_by, first_label, first_labels, label_after, with_region, labels_of}
use Rattle.label_walk.specs.LabelLaws.{HasLabels}
use Rattle.label_walk.proofs.Labelling.Computed.{from_computed}
use Rattle.label_walk.proofs.Labelling.OneLabelling.{Feeds, Agree, same_by}

module _ (v : View) (valid : IsValid v) where
  few : length v.components ≤ 64
  few = omega (arith, valid.numbered.few_components)

  small : {c : ℕ} → c < length v.components → c < 64
  small {c} lt = omega (arith, lt, few)

  -- who is in the set of a region's members
  in_region : (c d : ℕ) → d < length v.components → is_in d (region_set v c) ≡ together (arrows (edges v)) c d
  unfolding region_set
  in_region c d ld = region-is (arrows (edges v)) (length v.components) c d few ld

  -- what is fixed after the regions whose members are `done`
  record Fixed (done : ℕ) (labels : List Label) : Type 0 where
    each : length labels ≡ length v.streams
    sources : (u : ℕ) → u < length v.streams → origin_of v u ≡ None → label_at labels u ≡ source_label v u
    fixed : (u : ℕ) (output : End) → u < length v.streams → origin_of v u ≡ Some output → is_in output.0 done ≡ true → label_at labels u ≡ label_by v labels u (Some output)
    closed : (e : Edge) → Has e (edges v) → is_in e.1 done ≡ true → is_in e.0 done ≡ true

  abbrev IsDone : ℕ → ℕ → Type 0
  IsDone done d = is_in d done ≡ true

  -- whoever reaches a component that is done is done
  reaching_done : (done c d : ℕ) → ((e : Edge) → Has e (edges v) → is_in e.1 done ≡ true → is_in e.0 done ≡ true) → d < 64 → is_in c done ≡ true → is_in d (up (arrows (edges v)) c) ≡ true → is_in d done ≡ true
  reaching_done done c d closed ld here reaches =
      let own : IsLeastClosed (bit_of c) (arrows (edges v)) (up (arrows (edges v)) c) = closure-least (bit_of c) (arrows (edges v)) in
      in-within d (up (arrows (edges v)) c) done ld reaches (own.least done (meets-within c done here) all)
    where
      all : IsClosed (arrows (edges v)) done
      all fd stands fires =
          let from = Has-from_map arrow fd (edges v) stands in
          subst (λ (z : Fd). within z.from.bits done ≡ true → within z.to.bits done ≡ true) from.2
          (λ into. meets-within from.0.0 done (closed from.0 from.1 (within-meets from.0.1 done (small (edge_within v valid from.0 from.1).1) into))) fires

  feeds_done : (done c : ℕ) → c < length v.components → ((e : Edge) → Has e (edges v) → is_in e.1 done ≡ true → is_in e.0 done ≡ true) → is_in c done ≡ true → Feeds v valid (IsDone done) c
  feeds_done done c lc closed here = record {
    outside = λ free d edge. closed (d, c) edge here;
    into = λ e edge inside away.
        let within = edge_within v valid e edge in
        let joined : together (arrows (edges v)) c e.1 ≡ true = sym (in_region c e.1 within.1) ∙ inside in
        closed e edge (reaching_done done c e.1 closed (small within.1) here (together-up (arrows (edges v)) c e.1 joined));
  }

  -- the next region
  module _ (done set : ℕ) (class : (c d : ℕ) → c < length v.components → d < length v.components → is_in c set ≡ true → is_in d set ≡ together (arrows (edges v)) c d)
      (order : (e : Edge) → Has e (edges v) → is_in e.1 set ≡ true → (is_in e.0 done ≡ true) ⊎ (is_in e.0 set ≡ true)) where
    feeds_next : (c : ℕ) → c < length v.components → is_in c set ≡ true → Feeds v valid (IsDone done) c
    feeds_next c lc here = record {
      outside = λ free d edge. elim (order (d, c) edge here) [
        | inl before ↦ before
        | inr inside ↦ absurd (
            let ld = (edge_within v valid (d, c) edge).0 in
            let joined : together (arrows (edges v)) c d ≡ true = sym (class c d lc ld here) ∙ inside in
            let same : region_of v c ≡ region_of v d = one_place v valid c d lc ld joined in
            let lower : region_of v d < region_of v c = lower_outside v valid (d, c) edge free in omega (arith, same, lower))
      ];
      into = λ e edge inside away.
          let within = edge_within v valid e edge in
          let there : is_in e.1 set ≡ true = class c e.1 lc within.1 here ∙ sym (in_region c e.1 within.1) ∙ inside in
          elim (order e edge there) [
            | inl before ↦ before
            | inr own ↦ absurd (true≢false (sym own ∙ class c e.0 lc within.0 here ∙ sym (in_region c e.0 within.0) ∙ away))
          ];
    }

    module _ (labels : List Label) (fixed : Fixed done labels) where
      abbrev next : List Label
      next = with_region v labels set

      at_next : (u : ℕ) → u < length v.streams → (o : Option End) → origin_of v u ≡ o → label_at next u ≡ (if option_map_or (λ output. is_in output.0 set) o false then label_by v labels u o else label_at labels u)
      at_next u lt o is =
          let z : 0 + u ≡ u = omega arith in
          get_or-map-range_with_len (label_after v labels set) 0 (length v.streams) u u Async lt z
          ∙ ap (λ (p : Option End). if option_map_or (λ output. is_in output.0 set) p false then label_by v labels u p else label_at labels u) is

      kept_done : (u : ℕ) (output : End) → u < length v.streams → origin_of v u ≡ Some output → is_in output.0 done ≡ true → label_at next u ≡ label_at labels u
      kept_done u output lt is here = at_next u lt (Some output) is ∙ by (is_in output.0 set)
        where
          by : (b : Bool) → (if b then label_by v labels u (Some output) else label_at labels u) ≡ label_at labels u
          by true = sym (fixed.fixed u output lt is here)
          by false = refl

      agree : Agree v valid labels next (IsDone done)
      agree u lt from = by (origin_of v u) refl
        where
          by : (o : Option End) → origin_of v u ≡ o → label_at labels u ≡ label_at next u
          by None is = sym (at_next u lt None is)
          by (Some output) is = sym (kept_done u output lt is (from output is))

      fixed_by : (u : ℕ) (output : End) → u < length v.streams → origin_of v u ≡ Some output → Feeds v valid (IsDone done) output.0 → label_at next u ≡ label_by v labels u (Some output) → label_at next u ≡ label_by v next u (Some output)
      fixed_by u output lt is feeds e = e ∙ same_by v valid labels next (IsDone done) agree u output (valid.numbered.origins u output lt is).0 feeds

      fixed_next : Fixed (bit_or done set) next
      fixed_next = record {
        each = length-map-range_with_len (label_after v labels set) 0 (length v.streams);
        sources = λ u lt is. at_next u lt None is ∙ fixed.sources u lt is;
        fixed = λ u output lt is here. now u output lt is (or_cases (is_in output.0 done) (is_in output.0 set) (sym (in-or output.0 done set (small (valid.numbered.origins u output lt is).0)) ∙ here));
        closed = λ e has here. back e has (or_cases (is_in e.1 done) (is_in e.1 set) (sym (in-or e.1 done set (small (edge_within v valid e has).1)) ∙ here));
      }
        where
          now : (u : ℕ) (output : End) → u < length v.streams → origin_of v u ≡ Some output → (is_in output.0 done ≡ true) ⊎ (is_in output.0 set ≡ true) → label_at next u ≡ label_by v next u (Some output)
          now u output lt is (inl before) = fixed_by u output lt is (feeds_done done output.0 (valid.numbered.origins u output lt is).0 fixed.closed before) (kept_done u output lt is before ∙ fixed.fixed u output lt is before)
          now u output lt is (inr here) = fixed_by u output lt is (feeds_next output.0 (valid.numbered.origins u output lt is).0 here) (at_next u lt (Some output) is ∙ rw here refl)

          back : (e : Edge) → Has e (edges v) → (is_in e.1 done ≡ true) ⊎ (is_in e.1 set ≡ true) → is_in e.0 (bit_or done set) ≡ true
          back e has (inl before) = let one : is_in e.0 done ≡ true = fixed.closed e has before in in-or e.0 done set (small (edge_within v valid e has).0) ∙ rw one refl
          back e has (inr here) = elim (order e has here) [
            | inl before ↦ in-or e.0 done set (small (edge_within v valid e has).0) ∙ rw before refl
            | inr inside ↦ in-or e.0 done set (small (edge_within v valid e has).0) ∙ either_second (is_in e.0 done) (is_in e.0 set) inside
          ]
            where
              either_second : (a b : Bool) → b ≡ true → (a || b) ≡ true
              either_second true b e = refl
              either_second false b e = e

  -- ---- all regions

  joined : ℕ → List ℕ → ℕ
  joined done [] = done
  joined done (set ∷ sets) = joined (bit_or done set) sets

  walk : (done : ℕ) (sets : List ℕ) (labels : List Label) → InOrder (edges v) done sets → AreRegions (edges v) (length v.components) sets → Fixed done labels → Fixed (joined done sets) (fold (with_region v) labels sets)
  unfolding joined
  walk done [] labels order classes fixed = fixed
  walk done (set ∷ sets) labels order classes fixed = walk (bit_or done set) sets (with_region v labels set) order.1 classes.1 (fixed_next done set classes.0 order.0 labels fixed)

  joined-keeps : (c done : ℕ) (sets : List ℕ) → c < 64 → is_in c done ≡ true → is_in c (joined done sets) ≡ true
  unfolding joined
  joined-keeps c done [] lt here = here
  joined-keeps c done (set ∷ sets) lt here = joined-keeps c (bit_or done set) sets lt (in-or c done set lt ∙ rw here refl)

  joined-has : (c done : ℕ) (sets : List ℕ) → c < 64 → SomeHas c sets → is_in c (joined done sets) ≡ true
  unfolding joined
  joined-has c done [] lt some = absurd some
  joined-has c done (set ∷ sets) lt (inl here) = joined-keeps c (bit_or done set) sets lt (in-or c done set lt ∙ second (is_in c done) (is_in c set) here)
    where
      second : (a b : Bool) → b ≡ true → (a || b) ≡ true
      second true b e = refl
      second false b e = e
  joined-has c done (set ∷ sets) lt (inr more) = joined-has c (bit_or done set) sets lt more

  at_first : (u : ℕ) → u < length v.streams → (o : Option End) → origin_of v u ≡ o → label_at (first_labels v) u ≡ first_label v u o
  at_first u lt o is =
      let z : 0 + u ≡ u = omega arith in
      get_or-map-range_with_len (λ s. first_label v s (origin_of v s)) 0 (length v.streams) u u Async lt z ∙ ap (first_label v u) is

  begun : Fixed 0 (first_labels v)
  begun = record {
    each = length-map-range_with_len (λ s. first_label v s (origin_of v s)) 0 (length v.streams);
    sources = λ u lt is. at_first u lt None is;
    fixed = λ u output lt is here. absurd (true≢false (sym here ∙ in-empty output.0));
    closed = λ e has here. absurd (true≢false (sym here ∙ in-empty e.1));
  }

  ended : Fixed (joined 0 (numbered_regions (edges v) (length v.components))) (fold (with_region v) (first_labels v) (numbered_regions (edges v) (length v.components)))
  ended = let all = given v valid in walk 0 (numbered_regions (edges v) (length v.components)) (first_labels v) all.order all.classes begun

  abbrev last : List Label
  last = fold (with_region v) (first_labels v) (numbered_regions (edges v) (length v.components))

  at_end : (u : ℕ) → u < length v.streams → (o : Option End) → origin_of v u ≡ o → label_at last u ≡ label_by v last u o
  at_end u lt None is = ended.sources u lt is
  at_end u lt (Some output) is =
      let lc = (valid.numbered.origins u output lt is).0 in
      let all = given v valid in
      ended.fixed u output lt is (joined-has output.0 0 (numbered_regions (edges v) (length v.components)) (small lc) (all.cover output.0 lc))

  pub are_labels : AreLabels v (labels_of v)
  unfolding labels_of regions
  are_labels = record {
    each = ended.each;
    are = λ u lt. from_computed v last u (origin_of v u) (label_at last u) (at_end u lt (origin_of v u) refl);
  }

pub has_labels : HasLabels
has_labels v valid = are_labels v valid
