-- Keys that a mode may have.
use Rattle.std.specs.Prelude.{◌≢◌, ◌<◌, ◌^◌, length}
use Rattle.blz_value.specs.declared.attrs.Attrs.{Attrs}
use Rattle.topo_forms.specs.View.{View}

-- a key that isn't empty and holds attributes of the topology only
pub record IsKeyIn (v : View) (key : Attrs) : Type 0 where
  pub filled : key.bits ≢ 0
  pub within : key.bits < 2 ^ length v.attributes
