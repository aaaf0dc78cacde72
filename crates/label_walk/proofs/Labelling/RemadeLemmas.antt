-- The labels that the walk makes anew are those of the region by its definition.
use Rattle.std.proofs.Common.{◌≡◌, ◌<◌, ℕ, Bool, true, false, if◌then◌else◌, Option, None, Some, List, length, take, take_all, fold, refl, arith, ap, sym, subst, ◌∙◌}
use Rattle.std.specs.Option.{option_map_or}
use Rattle.std.proofs.lemmas.Bool.{true≢false}
use Rattle.blz_value.proofs.Membership.{Has-get_or}
use Rattle.blz_value.specs.declared.attrs.Fd.{Fd}
use Rattle.bloom_forms.specs.declared.mode.Mode.{Mode}
use Rattle.topo_forms.specs.Dependencies.{usable_fds}
use Rattle.blz_value.specs.Graph.{is_in, is_cyclic_set}
use Rattle.blz_value.proofs.Maps.{same_map as map_alike}
use Rattle.blz_value.proofs.Ranges.{Has-below as from_below}
use Rattle.topo_forms.specs.Regions.{edges, region_set, regions, is_in_cycle, is_cyclic}
use Rattle.topo_forms.specs.Valid.{IsValid}
use Rattle.topo_forms.specs.View.{View, End, origin_of, mode_of, is_order, is_replicated, stream_numbers}
use Rattle.topo_forms.proofs.Regions.OrderAlone.{order_acyclic}
use Rattle.label_rules.specs.declared.label.Label.{Label}
use Rattle.label_rules.specs.declared.label.Label.TheVariants.{Run}
use Rattle.label_rules.specs.declared.label.PathLabel.{PathLabel}
use Rattle.label_rules.specs.Reconciliation.{reconcile}
use Rattle.label_walk.specs.Paths.{label_at, output_paths, region_at}
use Rattle.label_walk.specs.Labels.{AreLabels, as_carried, first_labels, labels_of, region_label, outside_label, label_by, label_after, with_region}
use Rattle.label_walk.specs.Code.Remade.{cycle_label, alone_label, member_label, remade_label, remade_labels}
use Rattle.label_walk.proofs.Labelling.RegionByRegion.{are_labels}
use Rattle.topo_forms.proofs.Regions.RegionSets.{region_of_member}

module _ (v : View) (valid : IsValid v) (labels : List Label) (r : ℕ) (lt : r < length (regions v)) where
  abbrev set : ℕ
  set = region_at v r

  -- a member of the region is in a cycle where the region is cyclic
  cycle_is : (c : ℕ) → is_in c set ≡ true → is_in_cycle v c ≡ is_cyclic v r
  unfolding is_in_cycle
  cycle_is c here = ap (is_cyclic_set (edges v)) (region_of_member v valid set c (Has-get_or (regions v) r 0 lt) here)

  -- the label of a stream from a member
  member_is : (s : ℕ) (output : End) → output.0 < length v.components → is_in output.0 set ≡ true → member_label v labels (cycle_label v labels r) s output ≡ label_by v labels s (Some output)
  member_is s output lc here = by (is_cyclic v r) (is_in_cycle v output.0) (is_order v output.0) refl (cycle_is output.0 here) (λ ordered. order_acyclic v output.0 valid lc ordered)
    where
      by : (cyclic inside ordered : Bool) → is_order v output.0 ≡ ordered → inside ≡ cyclic → (ordered ≡ true → inside ≡ false)
          → member_label v labels (if cyclic then Some (region_label v labels set) else None) s output
          ≡ (if ordered then Run else (if inside then region_label v labels (region_set v output.0) else outside_label v labels s output))
      by true true false is same apart = ap (region_label v labels) (sym (region_of_member v valid set output.0 (Has-get_or (regions v) r 0 lt) here))
      by true true true is same apart = absurd (true≢false (apart refl))
      by true false ordered is same apart = absurd (true≢false (sym same))
      by false true ordered is same apart = absurd (true≢false same)
      by false false ordered is same apart = ap (λ (b : Bool). if b then Run else outside_label v labels s output) is

  remade_is : (s : ℕ) → s < length v.streams → remade_label v labels set (cycle_label v labels r) s (origin_of v s) ≡ label_after v labels set s
  remade_is s ls = by (origin_of v s) refl
    where
      by : (o : Option End) → origin_of v s ≡ o → remade_label v labels set (cycle_label v labels r) s o ≡ (if option_map_or (λ output. is_in output.0 set) o false then label_by v labels s o else label_at labels s)
      by None is = refl
      by (Some output) is = inside (is_in output.0 set) refl
        where
          inside : (b : Bool) → is_in output.0 set ≡ b → (if b then member_label v labels (cycle_label v labels r) s output else label_at labels s) ≡ (if b then label_by v labels s (Some output) else label_at labels s)
          inside true here = member_is s output (valid.numbered.origins s output ls is).0 here
          inside false here = refl

  pub remade_all : remade_labels v labels set (cycle_label v labels r) ≡ with_region v labels set
  remade_all = map_alike (λ s. remade_label v labels set (cycle_label v labels r) s (origin_of v s)) (label_after v labels set) (stream_numbers v) (λ s has. remade_is s (from_below (length v.streams) s has))

-- what the walk gathers of an output outside cycles gives its label
pub alone_is : (v : View) (labels : List Label) (s : ℕ) (output : End) (paths : List PathLabel) (mode : Mode) (replicated : Bool) (fds : List Fd)
    → is_order v output.0 ≡ false → paths ≡ output_paths v labels output.0 output.1 → mode ≡ mode_of v output.0 → replicated ≡ is_replicated v output.0 → fds ≡ usable_fds v output.0
    → as_carried v s (reconcile paths mode replicated fds) ≡ alone_label v labels s output
alone_is v labels s output paths mode replicated fds free p m r f =
    (λ i. as_carried v s (reconcile (p i) (m i) (r i) (f i))) ∙ sym (ap (λ (b : Bool). if b then Run else outside_label v labels s output) free)

-- the label of a region is that where it is cyclic
pub cycle_is_some : (v : View) (labels : List Label) (r : ℕ) (label : Label) → is_cyclic v r ≡ true → label ≡ region_label v labels (region_at v r) → Some label ≡ cycle_label v labels r
cycle_is_some v labels r label cyclic is = ap (λ (l : Label). Some l) is ∙ sym (ap (λ (b : Bool). if b then Some (region_label v labels (region_at v r)) else None) cyclic)

-- what is made of all regions are the labels
pub walked : (v : View) → IsValid v → (labels : List Label) (n : ℕ) → n ≡ length (regions v) → labels ≡ fold (with_region v) (first_labels v) (take n (regions v)) → AreLabels v labels
unfolding labels_of
walked v valid labels n all is =
    let whole : take n (regions v) ≡ regions v = take_all n (regions v) (omega (arith, all)) in
    subst (AreLabels v) (sym (is ∙ ap (fold (with_region v) (first_labels v)) whole)) (are_labels v valid)
