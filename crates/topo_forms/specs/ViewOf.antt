-- The view of a topology as it is written, with the modules of its components.
use Rattle.std.specs.Prelude.{ℕ, ℤ, pos, negsuc, ◌&&◌, Option, None, Some, List, [], ◌∷◌, ◌++◌, map}
use Rattle.std.specs.List.{find, filter_map, enumerate_from}
use Rattle.std.specs.Option.{option_map, option_and_then}
use Rattle.std.specs.Str.{bytes_eq}
use Rattle.blz_value.specs.declared.attrs.Attrs.{Attrs}
use Rattle.blz_value.specs.declared.attrs.Fd.{Fd}
use Rattle.bloom_forms.specs.declared.program.Program.{Program}
use Rattle.bloom_forms.specs.declared.program.Program.TheVariants as program
use Rattle.bloom_forms.specs.Form.{Accepted}
use Rattle.bloom_forms.specs.Query.{Name}
use Rattle.bloom_forms.specs.declared.note.Note.{Note}
use Rattle.bloom_forms.specs.declared.note.Note.TheVariants as note
use Rattle.bloom_forms.specs.Annotation.{roots_of_output, gate_of_output, note_of}
use Rattle.bloom_forms.specs.HeadRoots.{attribute_roots}
use Rattle.bloom_forms.specs.Roots.{Roots, no_roots}
use Rattle.bloom_forms.specs.declared.mode.Mode.{Mode}
use Rattle.bloom_forms.specs.declared.mode.Mode.TheVariants as mode
use Rattle.topo_forms.specs.declared.topology.SourceEntry.{SourceEntry}
use Rattle.topo_forms.specs.declared.topology.StreamEntry.{StreamEntry}
use Rattle.topo_forms.specs.declared.topology.FdEntry.{FdEntry}
use Rattle.topo_forms.specs.declared.topology.Declared.{Declared}
use Rattle.topo_forms.specs.declared.topology.NoteName.{NoteName}
use Rattle.topo_forms.specs.declared.topology.NoteName.TheVariants as named
use Rattle.topo_forms.specs.declared.topology.ModeName.{ModeName}
use Rattle.topo_forms.specs.declared.topology.ModeName.TheVariants as written
use Rattle.topo_forms.specs.declared.topology.Side.{Side}
use Rattle.topo_forms.specs.declared.topology.Topology.{Topology}
use Rattle.topo_forms.specs.Sites.{Site, sites_of, site_at, side_at, port_end, output_end, attributes_in, attribute_number}
use Rattle.blz_value.specs.NumberSets.{set_of_numbers}
use Rattle.topo_forms.specs.View.{View, Stream, Component, Port, Output, no_attrs}

-- the set of the attributes of these names
abbrev pub attribute_set : List Name → List Name → Attrs
attribute_set attributes columns = record { bits = set_of_numbers (map (attribute_number attributes) columns) }

-- the key of some seals, and none of no name
abbrev pub key_of : List Name → List Name → Option Attrs
key_of attributes [] = None
key_of attributes (name ∷ names) = Some (attribute_set attributes (name ∷ names))

abbrev pub mode_from : List Name → ModeName → List Name → Mode
mode_from attributes written.Free key = mode.Free
mode_from attributes written.Pass key = mode.Pass (attribute_set attributes key)
mode_from attributes written.Seal key = mode.Seal (attribute_set attributes key)
mode_from attributes written.Order key = mode.Order

abbrev pub note_from : List Name → NoteName → List Name → Note
note_from attributes named.CR gate = note.CR
note_from attributes named.CW gate = note.CW
note_from attributes named.OR gate = note.OR (attribute_set attributes gate)
note_from attributes named.OW gate = note.OW (attribute_set attributes gate)

-- a number that isn't negative, and 0 in place of one that is
abbrev pub count_from : ℤ → ℕ
count_from (pos n) = n
count_from (negsuc n) = 0

-- ---- streams

abbrev pub source_view : List Name → List Site → SourceEntry → Stream
source_view attributes sites s = record {
  name = s.name;
  origin = None;
  columns = attribute_roots attributes s.columns;
  key = key_of attributes s.seal;
  to = map (port_end sites) s.to;
}

-- the columns of the output with a number
abbrev pub output_columns_at : List Site → ℕ × ℕ → List Name
output_columns_at sites output = (side_at (site_at sites output.0).outputs output.1).columns

abbrev pub stream_view : List Name → List Site → StreamEntry → Stream
stream_view attributes sites s = record {
  name = s.name;
  origin = Some (output_end sites s.from);
  columns = attribute_roots attributes (output_columns_at sites (output_end sites s.from));
  key = None;
  to = map (port_end sites) s.to;
}

-- ---- components

-- the roots of the columns of an output
abbrev pub roots_with : List Name → Option Program → ℕ × Side → Roots
roots_with attributes None output = no_roots output.1.columns
roots_with attributes (Some p) output = roots_of_output attributes p output.0

-- the gate of an output
abbrev pub gate_with : List Name → Option Program → ℕ × Side → Attrs
gate_with attributes None output = no_attrs
gate_with attributes (Some p) output = record { bits = gate_of_output attributes p output.0 }

abbrev pub port_view : List Name → Side → Port
port_view attributes p = record { name = p.name; columns = map (attribute_number attributes) p.columns }

abbrev pub output_view : List Name → Option Program → ℕ × Side → Output
output_view attributes p output = record {
  name = output.1.name;
  columns = attribute_roots attributes output.1.columns;
  roots = roots_with attributes p output;
  gate = gate_with attributes p output;
}

-- the note that a body gives a path
abbrev pub derived_note : List Name → Option Program → (port output : ℕ) → Option Note
derived_note attributes None port output = None
derived_note attributes (Some p) port output = note_of attributes p port output

-- the note that is declared of a path from a port to an output
abbrev pub declared_note : List Name → List Declared → (port output : Name) → Option Note
declared_note attributes notes port output =
    option_map (λ d. note_from attributes d.note d.gate) (find (λ d. bytes_eq d.from port && bytes_eq d.to output) notes)

-- a declared note in place of a derived one
abbrev pub note_used : Option Note → Option Note → Option Note
note_used None derived = derived
note_used (Some declared) derived = Some declared

abbrev pub note_view : List Name → Site → ℕ × Side → ℕ × Side → Option Note
note_view attributes site port output =
    note_used (declared_note attributes site.entry.notes port.1.name output.1.name) (derived_note attributes site.program port.0 output.0)

abbrev pub notes_view : List Name → Site → List (List (Option Note))
notes_view attributes site = map (λ port. map (note_view attributes site port) (enumerate_from 0 site.outputs)) (enumerate_from 0 site.ports)

abbrev pub component_view : List Name → Site → Component
component_view attributes site = record {
  name = site.entry.name;
  program = site.program;
  mode = mode_from attributes site.entry.mode site.entry.key;
  replicas = count_from site.entry.replicas;
  ports = map (port_view attributes) site.ports;
  outputs = map (output_view attributes site.program) (enumerate_from 0 site.outputs);
  notes = notes_view attributes site;
}

-- ---- the whole

abbrev pub fd_view : List Name → FdEntry → Fd
fd_view attributes fd = record { from = attribute_set attributes fd.from; to = attribute_set attributes fd.to }

abbrev pub view_with : List Name → List Site → Topology → View
view_with attributes sites t = record {
  attributes = attributes;
  streams = map (source_view attributes sites) t.sources ++ map (stream_view attributes sites) t.streams;
  components = map (component_view attributes) sites;
  fds = map (fd_view attributes) t.fds;
}

-- the view of a topology, where the modules of the components with one are these, in their order
unfoldable pub view_of : Topology → List Accepted → View
view_of t modules = view_with (attributes_in t.sources (sites_of t.components modules)) (sites_of t.components modules) t

-- the module that a component runs
abbrev pub module_of : Program → Option Accepted
module_of (program.Module m) = Some m
module_of (program.Split columns split) = None
module_of (program.Latest columns keys) = None
module_of (program.Number columns) = None

-- the modules of a view's components, in their order
abbrev pub modules_in : View → List Accepted
modules_in v = filter_map (λ c. option_and_then module_of c.program) v.components
