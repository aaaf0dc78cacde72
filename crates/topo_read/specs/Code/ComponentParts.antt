-- A component by its parts: the frame, and what comes after it.
use Rattle.std.specs.Prelude.{List, ℕ, Result, Ok, Err, codes}
use Rattle.toml.specs.Data.{Members, as_integer}
use Rattle.topo_forms.specs.declared.topology.ComponentEntry.{ComponentEntry}
use Rattle.topo_read.specs.declared.component.Frame.{Frame}
use Rattle.topo_read.specs.declared.component.Rest.{Rest}
use Rattle.topo_read.specs.declared.component.Running.{Running}
use Rattle.topo_read.specs.Values.{name_in, mode_in}
use Rattle.topo_read.specs.Tables.{declared_in}
use Rattle.topo_read.specs.Component.{body_of, sides_of, key_of, or_one, or_free, component_keys}
use Rattle.topo_read.specs.Fields.{◌>>=◌, Path, required, optional, optional_list, only_keys}

-- the body with the ports and outputs
unfoldable pub frame_of : Members → Result Frame Path
frame_of table = do
  body ← body_of table
  inputs ← sides_of body (codes "inputs") table
  outputs ← sides_of body (codes "outputs") table
  Ok (record { body = body; inputs = inputs; outputs = outputs })

-- the last fields of a component, and the keys that it doesn't have
unfoldable pub running_of : Members → Result Running Path
running_of table = do
  replicas ← optional as_integer (codes "replicas") table
  m ← optional mode_in (codes "mode") table
  key ← key_of (or_free m) table
  only ← only_keys component_keys table
  Ok (record { replicas = or_one replicas; mode = or_free m; key = key })

-- what comes after the frame
unfoldable pub rest_of : Members → Result Rest Path
rest_of table = do
  notes ← optional_list declared_in (codes "notes") table
  running ← running_of table
  Ok (record { notes = notes; running = running })

-- the component of these parts
abbrev pub whole_of : List ℕ → Frame → Rest → ComponentEntry
whole_of name frame rest = record { name = name; body = frame.body; inputs = frame.inputs; outputs = frame.outputs; notes = rest.notes; replicas = rest.running.replicas; mode = rest.running.mode; key = rest.running.key }

-- a component, a part after the other; it is the same component
unfoldable pub by_parts : Members → Result ComponentEntry Path
by_parts table = do
  name ← required name_in (codes "name") table
  frame ← frame_of table
  rest ← rest_of table
  Ok (whole_of name frame rest)
