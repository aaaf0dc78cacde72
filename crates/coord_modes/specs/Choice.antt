-- The mode that the plan gives a component outside cycles.
use Rattle.std.specs.Prelude.{ℕ, ◌&&◌, if◌then◌else◌, Option, None, Some}
use Rattle.blz_value.specs.declared.attrs.Attrs.{Attrs}
use Rattle.bloom_forms.specs.declared.mode.Mode.{Mode}
use Rattle.bloom_forms.specs.declared.mode.Mode.TheVariants.{Order}
use Rattle.topo_forms.specs.View.{View}
use Rattle.coord_modes.specs.declared.steps.Steps.{Steps}
use Rattle.coord_modes.specs.Plan.{kept_key, tried_mode, wants_order}

-- where this key is kept, the mode that was tried with it; where none is, Order if it is wanted
abbrev pub mode_with_key : Steps → View → (component : ℕ) → Option Attrs → Option Mode
mode_with_key steps v c None = if steps.orders && wants_order v c then Some Order else None
mode_with_key steps v c (Some key) = Some (tried_mode v c key)

-- the mode that a component gets which isn't Order, if any
abbrev pub chosen_mode : Steps → View → (component : ℕ) → Option Mode
chosen_mode steps v c = mode_with_key steps v c (kept_key steps v c)
