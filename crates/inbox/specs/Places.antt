-- Instances stand side by side, component by component, and emitted lists, stream by stream.
use Rattle.std.specs.Prelude.{◌≡◌, ◌<◌, ℕ, ◌+◌, Some, length, slice_get}
use Rattle.std.specs.List.{sum_by}
use Rattle.blz_value.specs.NumberSets.{below}
use Rattle.topo_forms.specs.View.{View, replicas_of, stream_replicas}
use Rattle.inbox.specs.declared.places.Places.{Places}

-- how many places stand before those of a number, where each number has so many
abbrev pub places_before : (size : ℕ → ℕ) → (number : ℕ) → ℕ
places_before size number = sum_by size (below number)

-- the place of a replica of a component
abbrev pub instance_place : View → (component replica : ℕ) → ℕ
instance_place v component replica = places_before (replicas_of v) component + replica

abbrev pub instance_count : View → ℕ
instance_count v = places_before (replicas_of v) (length v.components)

-- the place of the emitted list of a sending replica of a stream
abbrev pub list_place : View → (stream replica : ℕ) → ℕ
list_place v stream replica = places_before (stream_replicas v) stream + replica

abbrev pub list_count : View → ℕ
list_count v = places_before (stream_replicas v) (length v.streams)

-- the first places of the instances of each component, and of the emitted lists of each stream
pub record ArePlaces (v : View) (p : Places) : Type 0 where
  pub instances : (c : ℕ) → c < length v.components → slice_get p.instances c ≡ Some (instance_place v c 0)
  pub lists : (s : ℕ) → s < length v.streams → slice_get p.lists s ≡ Some (list_place v s 0)
