-- Topologies with other modes of some components.
use Rattle.std.specs.Prelude.{ℕ, ◌≡◌, ◌<◌, IsTrue, None, List, length}
use Rattle.bloom_forms.specs.declared.mode.Mode.TheVariants.{Free}
use Rattle.topo_forms.specs.Regions.{is_in_cycle}
use Rattle.topo_forms.specs.Valid.{IsValid}
use Rattle.topo_forms.specs.View.{View, Component, component_at, component_with_mode, is_order, mode_of, mode_key}

-- a topology with other components
abbrev pub with_components : View → List Component → View
with_components v components = record v { components = components }

-- the same components but for their modes: no Order is taken away, and no member of a cycle has a key
pub record AreRemoded (v : View) (components : List Component) : Type 0 where
  pub count : length components ≡ length v.components
  pub each : (d : ℕ) → component_with_mode Free (component_at (with_components v components) d) ≡ component_with_mode Free (component_at v d)
  pub ordered : (d : ℕ) → IsTrue (is_order v d) → IsTrue (is_order (with_components v components) d)
  pub keys : (d : ℕ) → d < length v.components → IsTrue (is_in_cycle v d) → mode_key (mode_of (with_components v components) d) ≡ None

-- a valid topology stays valid with such components
abbrev pub OtherModesLaw : Type 0
OtherModesLaw = (v : View) (components : List Component) → IsValid v → AreRemoded v components → IsValid (with_components v components)
