-- The mode that was chosen for a component may be written, and the topology with it is that of the plan.
use Rattle.std.proofs.Common.{◌≡◌, ◌<◌, ◌&&◌, ℕ, not, Bool, true, false, if◌then◌else◌, Option, None, Some, Result, Ok, Err, IfOk, IfSome, length, refl, ap, sym, subst, ◌∙◌}
use Rattle.bloom_forms.specs.declared.mode.Mode.{Mode}
use Rattle.bloom_forms.specs.declared.mode.Mode.TheVariants.{Free, Pass, Seal, Order}
use Rattle.topo_forms.specs.Laws.{CanHaveMode}
use Rattle.topo_forms.specs.Regions.{is_in_cycle}
use Rattle.topo_forms.specs.Valid.{IsValid, IsWhole, Validated}
use Rattle.topo_forms.specs.View.{View, is_order, is_order_mode, mode_of}
use Rattle.coord_modes.specs.declared.steps.Steps.{Steps}
use Rattle.coord_modes.specs.Plan.{has_order_note, order_member, plan_component}
use Rattle.coord_modes.specs.Choice.{chosen_mode}
use Rattle.coord_synth.specs.Code.Chosen.{component_mode, member_mode, with_chosen}
use Rattle.coord_synth.specs.Code.Start.{free_component, freed_mode}
use Rattle.coord_synth.specs.Code.Written.{StaysWritten}
use Rattle.coord_synth.proofs.KeptLemmas.{chosen_fits, chosen_is, none_chosen, plan_order, plan_free}
use Rattle.coord_synth.proofs.StartLemmas.{free_stays}
use Rattle.coord_synth.proofs.TrialLemmas.{can_free, can_order, member_free, member_ordered, member_stays, stays_same}
use Rattle.coord_synth.proofs.WrittenLemmas.{written_on}

-- what was written with the modes of the view is so still
pub stays_chosen : (seen : Validated) (c : ℕ) (chosen : Option Mode) → c < length seen.view.components → StaysWritten seen (with_chosen seen c chosen)
stays_chosen seen c None lt = stays_same seen
stays_chosen seen c (Some mode) lt = written_on seen c mode lt

-- what a topology that is made so has for a view, and that it is still as it is written
pub record Becomes (seen : Validated) (v : View) {E : Type 0} (r : Result Validated E) : Type 0 where
  pub view : IfOk r (λ next. next.view ≡ v)
  pub written : IfOk r (λ next. StaysWritten seen next)

pub becomes : {E : Type 0} (seen : Validated) (v : View) (c : ℕ) (chosen : Option Mode) (r : Result Validated E) → c < length seen.view.components → (with_chosen seen c chosen).view ≡ v → IfOk r (λ next. next ≡ with_chosen seen c chosen) → Becomes seen v r
becomes seen v c chosen (Err e) lt same is = record { view = tt; written = tt }
becomes seen v c chosen (Ok next) lt same is = record {
  view = ap (λ (x : Validated). x.view) is ∙ same;
  written = subst (StaysWritten seen) (sym is) (stays_chosen seen c chosen lt);
}

-- ---- a component outside cycles

module _ (now : Validated) (whole : IsWhole now) (valid : IsValid now.view) (steps : Steps) (c : ℕ) (lt : c < length now.view.components) (outside : is_in_cycle now.view c ≡ false) where
  fits : (o : Option Mode) → (b : Bool) → is_order now.view c ≡ b → o ≡ (if b then None else chosen_mode steps now.view c) → IfSome o (CanHaveMode now.view c)
  fits None b is e = tt
  fits (Some mode) true is e = let bad : Some mode ≡ None = e in cc
  fits (Some mode) false is e = chosen_fits now whole valid steps c lt is outside mode (sym e)

  pub component_fits : (o : Option Mode) → o ≡ component_mode steps now.view c → IfSome o (CanHaveMode now.view c)
  component_fits o e = fits o (is_order now.view c) refl e

  planned : (o : Option Mode) → (b : Bool) → is_order now.view c ≡ b → o ≡ (if b then None else chosen_mode steps now.view c) → (with_chosen now c o).view ≡ plan_component steps now.view c
  planned None true is e = plan_order steps now.view c is
  planned (Some mode) true is e = let bad : Some mode ≡ None = e in cc
  planned None false is e = none_chosen steps now.view c (sym e) ∙ plan_free steps now.view c is
  planned (Some mode) false is e = chosen_is steps now.view c mode (sym e) ∙ plan_free steps now.view c is

  pub component_planned : (o : Option Mode) → o ≡ component_mode steps now.view c → {E : Type 0} (r : Result Validated E) → IfOk r (λ next. next ≡ with_chosen now c o) → Becomes now (plan_component steps now.view c) r
  component_planned o e r is = becomes now (plan_component steps now.view c) c o r lt (planned o (is_order now.view c) refl e) is

-- ---- a member of a cyclic region

module _ (now : Validated) (c : ℕ) (lt : c < length now.view.components) where
  member_by : (b : Bool) → (has_order_note now.view c && not (is_order now.view c)) ≡ b → IfSome (if b then Some Order else None) (CanHaveMode now.view c)
  member_by true e = can_order now.view c lt (member_free now.view c e)
  member_by false e = tt

  pub member_fits : (o : Option Mode) → o ≡ member_mode now.view c → IfSome o (CanHaveMode now.view c)
  member_fits o e = subst (λ (x : Option Mode). IfSome x (CanHaveMode now.view c)) (sym e) (member_by (has_order_note now.view c && not (is_order now.view c)) refl)

  member_view : (b : Bool) → (has_order_note now.view c && not (is_order now.view c)) ≡ b → (with_chosen now c (if b then Some Order else None)).view ≡ order_member now.view c
  member_view true e = member_ordered now.view c e
  member_view false e = member_stays now.view c e

  pub member_planned : (o : Option Mode) → o ≡ member_mode now.view c → {E : Type 0} (r : Result Validated E) → IfOk r (λ next. next ≡ with_chosen now c o) → Becomes now (order_member now.view c) r
  member_planned o e r is =
      becomes now (order_member now.view c) c o r lt
      (ap (λ (x : Option Mode). (with_chosen now c x).view) e ∙ member_view (has_order_note now.view c && not (is_order now.view c)) refl) is

-- ---- where a plan begins

module _ (now : Validated) (whole : IsWhole now) (c : ℕ) (lt : c < length now.view.components) where
  freed_by : (m : Mode) → mode_of now.view c ≡ m → IfSome (freed_mode m) (CanHaveMode now.view c)
  freed_by Free is = tt
  freed_by (Pass key) is = can_free now.view c lt (ap is_order_mode is)
  freed_by (Seal key) is = can_free now.view c lt (ap is_order_mode is)
  freed_by Order is = tt

  pub freed_fits : (o : Option Mode) → o ≡ freed_mode (mode_of now.view c) → IfSome o (CanHaveMode now.view c)
  freed_fits o e = subst (λ (x : Option Mode). IfSome x (CanHaveMode now.view c)) (sym e) (freed_by (mode_of now.view c) refl)

  free_by : (m : Mode) → mode_of now.view c ≡ m → with_chosen now c (freed_mode m) ≡ free_component now c
  free_by Free is = free_stays now whole c lt is ∙ ap (λ (m : Mode). if is_order_mode m then now else with_chosen now c (Some Free)) (sym is)
  free_by (Pass key) is = ap (λ (m : Mode). if is_order_mode m then now else with_chosen now c (Some Free)) (sym is)
  free_by (Seal key) is = ap (λ (m : Mode). if is_order_mode m then now else with_chosen now c (Some Free)) (sym is)
  free_by Order is = ap (λ (m : Mode). if is_order_mode m then now else with_chosen now c (Some Free)) (sym is)

  pub freed_is : (o : Option Mode) → o ≡ freed_mode (mode_of now.view c) → with_chosen now c o ≡ free_component now c
  freed_is o e = ap (with_chosen now c) e ∙ free_by (mode_of now.view c) refl
