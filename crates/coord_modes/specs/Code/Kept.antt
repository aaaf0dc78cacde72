-- The key of a port, where it is kept.
use Rattle.std.specs.Prelude.{ℕ, None, Some, Option, if◌then◌else◌}
use Rattle.std.specs.Option.{option_and_then}
use Rattle.blz_value.specs.declared.attrs.Attrs.{Attrs}
use Rattle.topo_forms.specs.Carried.{port_key}
use Rattle.topo_forms.specs.View.{View}
use Rattle.coord_modes.specs.Plan.{is_good, trial}

-- the key of a port, where it is kept
abbrev pub kept_at : View → (component port : ℕ) → Option Attrs
kept_at v c p = option_and_then (λ key. if is_good (trial v c key) c then Some key else None) (port_key v c p)
