-- A stream that is Seal of a key carries that key.
use Rattle.std.proofs.Common.{◌≡◌, ◌<◌, inl, inr, ℕ, Bool, true, false, nat_eq, if◌then◌else◌, Option, None, Some, List, [], length, refl, arith, ap, sym, subst, ◌∙◌}
use Rattle.std.specs.Bool.{MatchBool}
use Rattle.std.specs.Option.{option_map_or}
use Rattle.std.proofs.lemmas.Bool.{true≢false, eqb-true, eq-eqb}
use Rattle.blz_value.proofs.Membership.{Has-from_map}
use Rattle.blz_value.specs.declared.attrs.Attrs.{Attrs}
use Rattle.bloom_forms.specs.declared.mode.Mode.TheVariants as mode
use Rattle.topo_forms.specs.Carried.{carries_key, carries}
use Rattle.blz_value.specs.Arrows.{is_key}
use Rattle.topo_forms.specs.Laws.{carries_next}
use Rattle.topo_forms.specs.Regions.{region_set, is_in_cycle}
use Rattle.topo_forms.specs.Valid.{IsValid}
use Rattle.topo_forms.specs.View.{View, End, stream_at, origin_of, is_order, no_attrs}
use Rattle.topo_forms.proofs.Found.OneLevel.{carries_law}
use Rattle.label_rules.specs.declared.label.Label.{Label}
use Rattle.label_rules.specs.declared.label.Label.TheVariants.{Seal, Async, Run, Inst, Diverge}
use Rattle.label_rules.specs.PathTable.{pass_path}
use Rattle.label_rules.specs.Reconciliation.{settled}
use Rattle.label_walk.specs.Labels.{AreLabels, IsLabel, IsRegionLabel, IsOutsideLabel, source_label, as_carried}
use Rattle.label_walk.specs.Paths.{label_at, region_note, region_inputs, region_paths, is_replicated_set}
use Rattle.inbox.proofs.Streams.CarriedKeys.{stream_key_law, carries-from}
use Rattle.confluence.proofs.Labels.Cells.{free_never_seal}
use Rattle.confluence.proofs.Labels.Settling.{comes_of_path}
use Rattle.confluence.specs.Laws.{SealMeansCarries}

same_key : (a b : Attrs) → nat_eq a.bits b.bits ≡ true → a ≡ b
same_key a b e = ap (λ (n : ℕ). record { bits = n }) (eqb-true a.bits b.bits e)

-- ---- keys

-- some key that is this one
key_is : (key : Attrs) (other : Option Attrs) → is_key key.bits other ≡ true → other ≡ Some key
key_is key None e = absurd (true≢false (sym e))
key_is key (Some own) e = ap (λ (k : Attrs). Some k) (same_key own key e)

own_key : (key : Attrs) (other : Option Attrs) → other ≡ Some key → is_key key.bits other ≡ true
own_key key None e = absurd cc
own_key key (Some own) e = let z : own ≡ key = cc in eq-eqb own.bits key.bits (ap (λ (k : Attrs). k.bits) z)

module _ (v : View) (valid : IsValid v) where
  few : length v.streams < 65
  few = omega (arith, valid.numbered.few_streams)

  -- a source
  source_carries : (s : ℕ) (key : Attrs) → s < length v.streams → origin_of v s ≡ None → source_label v s ≡ Seal key → carries v s ≡ Some key
  unfolding carries
  source_carries s key lt q e =
      let declared : (stream_at v s).key ≡ Some key = of_source (stream_at v s).key e in
      let carried : carries_key v key.bits s ≡ true = carries_law v few key.bits s lt ∙ subst (λ (o : Option End). carries_next v key.bits (carries_key v key.bits) s o ≡ true) (sym q) (own_key key (stream_at v s).key declared) in
      rw (q, declared, carried) refl
    where
      of_source : (k : Option Attrs) → option_map_or Seal k Async ≡ Seal key → k ≡ Some key
      of_source None e = absurd cc
      of_source (Some k) e = let z : k ≡ key = cc in ap (λ (x : Attrs). Some x) z

  -- an output outside cycles
  outside_carries : (s : ℕ) (key : Attrs) (given : Label) → as_carried v s given ≡ Seal key → carries v s ≡ Some key
  outside_carries s key (Seal k) e = by (is_key k.bits (carries v s)) refl e
    where
      by : (b : Bool) → is_key k.bits (carries v s) ≡ b → (if b then Seal k else Async) ≡ Seal key → carries v s ≡ Some key
      by true q e = let z : k ≡ key = cc in key_is k (carries v s) q ∙ ap (λ (x : Attrs). Some x) z
      by false q e = absurd cc
  outside_carries s key Async e = absurd cc
  outside_carries s key Run e = absurd cc
  outside_carries s key Inst e = absurd cc
  outside_carries s key Diverge e = absurd cc

  -- no cyclic region is Seal
  cycle_unsealed : (labels : List Label) (set : ℕ) (key : Attrs) → IsRegionLabel v labels set (Seal key) → ⊥
  cycle_unsealed labels set key is = elim (comes_of_path (region_paths v labels set) mode.Free (is_replicated_set v set) [] (Seal key) is) [
    | inl e ↦ absurd cc
    | inr one ↦ (
        let input = Has-from_map (λ (input : ℕ × End). pass_path (label_at labels input.0) (region_note v set) no_attrs mode.Free []) one.0 (region_inputs v set) one.1 in
        free_never_seal no_attrs [] (is_replicated_set v set) (region_note v set) (label_at labels input.0.0) key
        (ap (settled false (is_replicated_set v set)) input.2 ∙ one.2))
  ]

  pub seal_carries : (labels : List Label) (s : ℕ) (key : Attrs) → AreLabels v labels → s < length v.streams → label_at labels s ≡ Seal key → carries v s ≡ Some key
  seal_carries labels s key are lt e = by (origin_of v s) refl (are.are s lt)
    where
      by : (o : Option End) → origin_of v s ≡ o → IsLabel v labels s o (label_at labels s) → carries v s ≡ Some key
      by None q is = source_carries s key lt q (sym is ∙ e)
      by (Some output) q is = go (is_order v output.0) (is_in_cycle v output.0) is
        where
          go : (x y : Bool) → MatchBool x (label_at labels s ≡ Run) (MatchBool y (IsRegionLabel v labels (region_set v output.0) (label_at labels s)) (IsOutsideLabel v labels s output (label_at labels s))) → carries v s ≡ Some key
          go true y is = absurd (let bad : Seal key ≡ Run = sym e ∙ is in cc)
          go false true is = absurd (cycle_unsealed labels (region_set v output.0) key (subst (λ (l : Label). IsRegionLabel v labels (region_set v output.0) l) e is))
          go false false is = outside_carries s key is.given (sym is.carried ∙ e)

pub seal_law : SealMeansCarries
seal_law v labels s key valid are lt e =
    let carried = seal_carries v valid labels s key are lt e in
    (carried, stream_key_law v key.bits s valid lt (carries-from v s key carried).1)
