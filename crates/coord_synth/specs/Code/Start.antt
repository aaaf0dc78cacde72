-- Where a plan begins, component by component.
use Rattle.std.specs.Prelude.{ℕ, Option, None, Some, if◌then◌else◌}
use Rattle.bloom_forms.specs.declared.mode.Mode.{Mode}
use Rattle.bloom_forms.specs.declared.mode.Mode.TheVariants.{Free, Pass, Seal, Order}
use Rattle.topo_forms.specs.Laws.{validated_with_mode}
use Rattle.topo_forms.specs.Valid.{Validated}
use Rattle.topo_forms.specs.View.{is_order}

-- Free, where a component has a mode that the plan has to choose anew
abbrev pub freed_mode : Mode → Option Mode
freed_mode Free = None
freed_mode (Pass key) = Some Free
freed_mode (Seal key) = Some Free
freed_mode Order = None

-- the component is Free where it isn't Order
abbrev pub free_component : Validated → (component : ℕ) → Validated
free_component seen c = if is_order seen.view c then seen else validated_with_mode seen c Free
