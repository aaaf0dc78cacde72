-- The view of what a Valid keeps.
use Rattle.std.specs.Prelude.{map}
use Rattle.topo_forms.specs.declared.kept.KeptStream.{KeptStream}
use Rattle.topo_forms.specs.declared.kept.KeptPort.{KeptPort}
use Rattle.topo_forms.specs.declared.kept.KeptOutput.{KeptOutput}
use Rattle.topo_forms.specs.declared.kept.KeptComponent.{KeptComponent}
use Rattle.topo_forms.specs.declared.kept.Kept.{Kept}
use Rattle.topo_forms.specs.View.{View, Stream, Port, Output, Component}

abbrev pub stream_kept : KeptStream → Stream
stream_kept s = record { name = s.name; origin = s.origin; columns = s.columns; key = s.key; to = s.to }

abbrev pub port_kept : KeptPort → Port
port_kept p = record { name = p.name; columns = p.columns }

abbrev pub output_kept : KeptOutput → Output
output_kept o = record { name = o.name; columns = o.columns; roots = o.roots; gate = o.gate }

abbrev pub component_kept : KeptComponent → Component
component_kept c = record {
  name = c.name;
  program = c.program;
  mode = c.mode;
  replicas = c.replicas;
  ports = map port_kept c.ports;
  outputs = map output_kept c.outputs;
  notes = c.notes;
}

abbrev pub view_kept : Kept → View
view_kept kept = record {
  attributes = kept.attributes;
  streams = map stream_kept kept.streams;
  components = map component_kept kept.components;
  fds = kept.fds;
}
