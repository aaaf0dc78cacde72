-- The steps of a plan at the region of a component, as they are found in the topology so far.
use Rattle.std.specs.Prelude.{ℕ, ◌≡◌, ◌<◌, true, if◌then◌else◌, List, length, slice_index_or}
use Rattle.blz_value.specs.Graph.{is_in}
use Rattle.topo_forms.specs.Regions.{is_in_cycle, region_set, regions}
use Rattle.topo_forms.specs.View.{View}
use Rattle.label_walk.specs.Paths.{region_at}
use Rattle.coord_modes.specs.declared.steps.Steps.{Steps}
use Rattle.coord_modes.specs.Plan.{plan_component, plan_cycle}

-- a member of each region
pub record AreFirsts (v : View) (firsts : List ℕ) : Type 0 where
  pub each : length firsts ≡ length (regions v)
  pub members : (r : ℕ) → r < length firsts → is_in (slice_index_or firsts r 0) (region_at v r) ≡ true

-- the steps at the region of a component
abbrev pub plan_at : Steps → View → (component : ℕ) → View
plan_at steps v c = if is_in_cycle v c then plan_cycle steps v (region_set v c) else plan_component steps v c
