-- A cyclic region that is Seal or Async, or Run at several replicas, has good streams from outside.
use Rattle.std.proofs.Common.{◌≡◌, ◌≤◌, ◌<◌, ◌⊎◌, inl, inr, ℕ, Bool, true, false, Option, Some, List, [], ◌∷◌, map, fold, refl, arith, sym, subst, ◌∙◌}
use Rattle.std.specs.Bool.{MatchBool}
use Rattle.std.specs.List.{flat_map}
use Rattle.std.proofs.lemmas.Bool.{true≢false}
use Rattle.blz_value.specs.Members.{Has}
use Rattle.blz_value.proofs.Membership.{Has-map, Has-flat_map}
use Rattle.bloom_forms.specs.declared.note.Note.{Note}
use Rattle.bloom_forms.specs.declared.note.Note.TheVariants.{CR, CW, OR, OW}
use Rattle.bloom_forms.specs.Note.{combine}
use Rattle.bloom_forms.specs.declared.mode.Mode.TheVariants as mode
use Rattle.topo_forms.specs.Carried.{is_confluent}
use Rattle.topo_forms.specs.Regions.{region_set, is_in_cycle}
use Rattle.topo_forms.specs.Valid.{IsValid}
use Rattle.topo_forms.specs.View.{View, End, no_attrs, is_order}
use Rattle.label_rules.specs.declared.label.Label.{Label}
use Rattle.label_rules.specs.declared.label.Label.TheVariants.{Async, Run}
use Rattle.label_rules.specs.declared.label.PathLabel.{PathLabel}
use Rattle.label_rules.specs.Label.{severity}
use Rattle.label_rules.specs.PathTable.{pass_path}
use Rattle.label_rules.specs.Reconciliation.{settled}
use Rattle.label_walk.specs.Labels.{AreLabels, IsLabel, IsRegionLabel, IsOutsideLabel}
use Rattle.label_walk.specs.Paths.{label_at, notes_in, without_gate, region_note, region_inputs, region_paths, is_replicated_set}
use Rattle.confluence.specs.LabelMeaning.{IsInCycle, HasGoodInputs}
use Rattle.confluence.specs.Laws.{GoodInputsOfAsync, GoodInputsOfRun}
use Rattle.confluence.proofs.Labels.Cells.{Tells, unprotected, two_less, three_less, path_tells}
use Rattle.topo_forms.proofs.Regions.OrderAlone.{order_acyclic}
use Rattle.confluence.proofs.Labels.Settling.{settled_below, comes_of_path}
use Rattle.blz_value.specs.Bits.{members}

-- ---- the one note of a region

both_confluent : (a b : Note) → is_confluent (combine a b) ≡ true → (is_confluent a ≡ true) × (is_confluent b ≡ true)
both_confluent CR CR h = (refl, refl)
both_confluent CR CW h = (refl, refl)
both_confluent CW CR h = (refl, refl)
both_confluent CW CW h = (refl, refl)
both_confluent CR (OR k) h = absurd (true≢false (sym h))
both_confluent CR (OW k) h = absurd (true≢false (sym h))
both_confluent CW (OR k) h = absurd (true≢false (sym h))
both_confluent CW (OW k) h = absurd (true≢false (sym h))
both_confluent (OR g) CR h = absurd (true≢false (sym h))
both_confluent (OR g) CW h = absurd (true≢false (sym h))
both_confluent (OR g) (OR k) h = absurd (true≢false (sym h))
both_confluent (OR g) (OW k) h = absurd (true≢false (sym h))
both_confluent (OW g) CR h = absurd (true≢false (sym h))
both_confluent (OW g) CW h = absurd (true≢false (sym h))
both_confluent (OW g) (OR k) h = absurd (true≢false (sym h))
both_confluent (OW g) (OW k) h = absurd (true≢false (sym h))

fold_confluent : (first : Note) (notes : List Note) → is_confluent (fold combine first notes) ≡ true → (is_confluent first ≡ true) × ((note : Note) → Has note notes → is_confluent note ≡ true)
fold_confluent first [] h = (h, λ note has. absurd has)
fold_confluent first (one ∷ notes) h =
    let more = fold_confluent (combine first one) notes h in
    let both = both_confluent first one more.0 in
    (both.0, λ note has. elim has [ inl e ↦ subst (λ (n : Note). is_confluent n ≡ true) e both.1 | inr later ↦ more.1 note later ])

gateless_confluent : (note : Note) → is_confluent (without_gate note) ≡ true → is_confluent note ≡ true
gateless_confluent CR h = refl
gateless_confluent CW h = refl
gateless_confluent (OR gate) h = absurd (true≢false (sym h))
gateless_confluent (OW gate) h = absurd (true≢false (sym h))

module _ (v : View) (labels : List Label) (set : ℕ) where
  members_confluent : is_confluent (region_note v set) ≡ true → (c : ℕ) (note : Note) → Has c (members set) → Has note (notes_in v c) → is_confluent note ≡ true
  members_confluent h c note there has =
      (fold_confluent CR (flat_map (notes_in v) (members set)) (gateless_confluent (fold combine CR (flat_map (notes_in v) (members set))) h)).1 note (Has-flat_map (notes_in v) c note (members set) there has)

  -- what the path of one stream from outside tells
  input_tells : (label worst : Label) → IsRegionLabel v labels set label → severity label ≤ severity worst → 2 ≤ severity worst → severity worst < severity (unprotected (is_replicated_set v set))
      → (input : ℕ × End) → Has input (region_inputs v set) → Tells (label_at labels input.0) (region_note v set) false (severity worst)
  input_tells label worst is le some lt input has =
      path_tells mode.Free [] no_attrs false (is_replicated_set v set) (severity worst) some lt (region_note v set) (label_at labels input.0)
      (let one : PathLabel = pass_path (label_at labels input.0) (region_note v set) no_attrs mode.Free [] in
      let below : severity (settled false (is_replicated_set v set) one) ≤ severity label = settled_below (region_paths v labels set) mode.Free (is_replicated_set v set) [] label is one (Has-map (λ (input : ℕ × End). pass_path (label_at labels input.0) (region_note v set) no_attrs mode.Free []) input (region_inputs v set) has) in
      omega (arith, below, le))

  good_inputs : (worst : Label) → ((input : ℕ × End) → Has input (region_inputs v set) → Tells (label_at labels input.0) (region_note v set) false (severity worst)) → (first : ℕ × End) → Has first (region_inputs v set) → HasGoodInputs v labels set worst
  good_inputs worst tells first has = record {
    labelled = λ input there. (tells input there).labelled;
    confluent = members_confluent (elim (tells first has).kept [ inl bad ↦ absurd (true≢false (sym bad)) | inr confluent ↦ confluent ]);
  }

  by_inputs : {P : Type 0} (inputs : List (ℕ × End)) → region_inputs v set ≡ inputs → (region_inputs v set ≡ [] → P) → ((first : ℕ × End) → Has first (region_inputs v set) → P) → P
  by_inputs [] e none some = none e
  by_inputs (first ∷ more) e none some = some first (subst (λ (xs : List (ℕ × End)). Has first xs) (sym e) (inl refl))

  async_inputs : (label : Label) → IsRegionLabel v labels set label → severity label ≤ 2 → (region_inputs v set ≡ []) ⊎ HasGoodInputs v labels set Async
  async_inputs label is le = by_inputs (region_inputs v set) refl (λ none. inl none)
      (λ first has. inr (good_inputs Async (input_tells label Async is le (omega arith) (two_less (is_replicated_set v set))) first has))

  run_inputs : IsRegionLabel v labels set Run → is_replicated_set v set ≡ true → HasGoodInputs v labels set Run
  run_inputs is several =
      let lt = three_less (is_replicated_set v set) several in
      by_inputs (region_inputs v set) refl
      (λ none. absurd (elim (comes_of_path (region_paths v labels set) mode.Free (is_replicated_set v set) [] Run is) [
        | inl e ↦ cc
        | inr one ↦ subst (λ (inputs : List (ℕ × End)). Has one.0 (map (λ (input : ℕ × End). pass_path (label_at labels input.0) (region_note v set) no_attrs mode.Free []) inputs)) none one.1
      ]))
      (λ first has. good_inputs Run (input_tells Run Run is (omega arith) (omega arith) lt) first has)

-- the label of a stream in a cycle is its region's
cycle_is : (v : View) (labels : List Label) (s : ℕ) (output : End) → IsValid v → AreLabels v labels → IsInCycle v s output → IsRegionLabel v labels (region_set v output.0) (label_at labels s)
cycle_is v labels s output valid are is =
    let at : IsLabel v labels s (Some output) (label_at labels s) = subst (λ (o : Option End). IsLabel v labels s o (label_at labels s)) is.origin (are.are s is.stands) in
    go (is_order v output.0) refl (is_in_cycle v output.0) is.cyclic at
  where
    go : (x : Bool) → is_order v output.0 ≡ x → (y : Bool) → y ≡ true → MatchBool x (label_at labels s ≡ Run) (MatchBool y (IsRegionLabel v labels (region_set v output.0) (label_at labels s)) (IsOutsideLabel v labels s output (label_at labels s))) → IsRegionLabel v labels (region_set v output.0) (label_at labels s)
    go true q y e at = absurd (true≢false (sym is.cyclic ∙ order_acyclic v output.0 valid (valid.numbered.origins s output is.stands is.origin).0 q))
    go false q true e at = at
    go false q false e at = absurd (true≢false (sym e))

pub inputs_of_async : GoodInputsOfAsync
inputs_of_async v labels s output valid are is h = async_inputs v labels (region_set v output.0) (label_at labels s) (cycle_is v labels s output valid are is) h

pub inputs_of_run : GoodInputsOfRun
inputs_of_run v labels s output valid are is several h =
    run_inputs v labels (region_set v output.0) (subst (λ (l : Label). IsRegionLabel v labels (region_set v output.0) l) h (cycle_is v labels s output valid are is)) several
