-- The modes that are chosen for a component, and a topology with one of them.
use Rattle.std.specs.Prelude.{ℕ, ◌&&◌, not, if◌then◌else◌, Option, None, Some}
use Rattle.bloom_forms.specs.declared.mode.Mode.{Mode}
use Rattle.bloom_forms.specs.declared.mode.Mode.TheVariants.{Order}
use Rattle.topo_forms.specs.Laws.{validated_with_mode}
use Rattle.topo_forms.specs.Valid.{Validated}
use Rattle.topo_forms.specs.View.{View, is_order}
use Rattle.coord_modes.specs.declared.steps.Steps.{Steps}
use Rattle.coord_modes.specs.Plan.{has_order_note}
use Rattle.coord_modes.specs.Choice.{chosen_mode}

-- the topology with the mode that was chosen, if any was
abbrev pub with_chosen : Validated → (component : ℕ) → Option Mode → Validated
with_chosen seen c None = seen
with_chosen seen c (Some mode) = validated_with_mode seen c mode

-- of a component outside cycles: what is Order stays so
abbrev pub component_mode : Steps → View → (component : ℕ) → Option Mode
component_mode steps v c = if is_order v c then None else chosen_mode steps v c

-- of a member of a cyclic region: Order, where it has an O note and isn't Order yet
abbrev pub member_mode : View → (component : ℕ) → Option Mode
member_mode v c = if has_order_note v c && not (is_order v c) then Some Order else None
