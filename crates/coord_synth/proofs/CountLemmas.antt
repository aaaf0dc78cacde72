-- A plan has the components that the topology has.
use Rattle.std.proofs.Common.{◌≡◌, ◌&&◌, ℕ, Bool, true, false, if◌then◌else◌, Option, None, Some, List, [], ◌∷◌, length, fold, refl, ◌∙◌}
use Rattle.std.proofs.lemmas.List.{length-set}
use Rattle.blz_value.specs.declared.attrs.Attrs.{Attrs}
use Rattle.blz_value.specs.Bits.{members}
use Rattle.bloom_forms.specs.declared.mode.Mode.{Mode}
use Rattle.bloom_forms.specs.declared.mode.Mode.TheVariants.{Order}
use Rattle.topo_forms.specs.Regions.{is_in_cycle, region_set}
use Rattle.topo_forms.specs.View.{View, component_at, component_with_mode, is_order, with_mode}
use Rattle.coord_modes.specs.declared.steps.Steps.{Steps}
use Rattle.coord_synth.specs.Code.Shapes.{plan_at}
use Rattle.coord_modes.specs.Plan.{has_order_note, tried_mode, wants_order, with_key, kept_key, plan_component, order_member, cycle_wants_order, plan_cycle}

abbrev HasCount : View → View → Type 0
HasCount v w = length w.components ≡ length v.components

pub with_mode_count : (v : View) (c : ℕ) (m : Mode) → HasCount v (with_mode v c m)
with_mode_count v c m = length-set v.components c (component_with_mode m (component_at v c))

either : (v : View) (b : Bool) (x y : View) → HasCount v x → HasCount v y → HasCount v (if b then x else y)
either v true x y p q = p
either v false x y p q = q

pub order_member_count : (v : View) (c : ℕ) → HasCount v (order_member v c)
order_member_count v c = either v (has_order_note v c) (with_mode v c Order) v (with_mode_count v c Order) refl

members_count : (v : View) (cs : List ℕ) → HasCount v (fold order_member v cs)
members_count v [] = refl
members_count v (c ∷ cs) = members_count (order_member v c) cs ∙ order_member_count v c

module _ (steps : Steps) where
  component_count : (v : View) (c : ℕ) → HasCount v (plan_component steps v c)
  component_count v c = either v (is_order v c) v (with_key steps v c (kept_key steps v c)) refl (keyed (kept_key steps v c))
    where
      keyed : (o : Option Attrs) → HasCount v (with_key steps v c o)
      keyed None = either v (steps.orders && wants_order v c) (with_mode v c Order) v (with_mode_count v c Order) refl
      keyed (Some key) = with_mode_count v c (tried_mode v c key)

  cycle_count : (v : View) (set : ℕ) → HasCount v (plan_cycle steps v set)
  cycle_count v set = either v (steps.orders && cycle_wants_order v set) (fold order_member v (members set)) v (members_count v (members set)) refl

  pub at_count : (v : View) (c : ℕ) → HasCount v (plan_at steps v c)
  at_count v c = either v (is_in_cycle v c) (plan_cycle steps v (region_set v c)) (plan_component steps v c) (cycle_count v (region_set v c)) (component_count v c)
