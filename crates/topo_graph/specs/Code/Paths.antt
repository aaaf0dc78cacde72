-- Streams as carried seals look at them.
use Rattle.std.specs.Prelude.{ℕ, ◌==◌, nat_lt, not, Bool, false, Option, None, Some, List, map, filter, length}
use Rattle.std.specs.List.{list_all, zip}
use Rattle.blz_value.specs.declared.attrs.Attrs.{Attrs}
use Rattle.blz_value.specs.declared.attrs.Fd.{Fd}
use Rattle.blz_value.specs.Closure.{closure}
use Rattle.blz_value.specs.Arrows.{with_all}
use Rattle.blz_value.specs.declared.carried.Path.{Path}
use Rattle.topo_graph.specs.Code.Ports.{at_port}
use Rattle.topo_forms.specs.Carried.{allows_notes}
use Rattle.blz_value.specs.Graph.{is_in}
use Rattle.topo_forms.specs.View.{View, End, stream_at, origin_of, mode_of, mode_key, has_body, output_at, own_attrs, ports_towards, stream_numbers}

-- told the components at which each dependency is usable: those usable at one
abbrev pub fds_by : List Fd → (usable : List ℕ) → (component : ℕ) → List Fd
fds_by fds usable c = map (λ pair. pair.0) (filter (λ pair. is_in c pair.1) (zip fds usable))

-- a set holds a number
abbrev pub is_some_set : (set : ℕ) → Bool
is_some_set set = not (set == 0)

-- told the streams into each port too
abbrev pub path_from : View → (rows : List (List ℕ)) → (usable : List ℕ) → (declared : Option Attrs) → Option End → Path
path_from v rows usable declared None = record {
  declared = declared;
  key = declared;
  body = false;
  some = false;
  fed = false;
  reach = 0;
  own = 0;
  notes = false;
  behind = 0;
}
path_from v rows usable declared (Some output) = record {
  declared = declared;
  key = mode_key (mode_of v output.0);
  body = has_body v output.0;
  some = nat_lt 0 (length (ports_towards v output.0 output.1));
  fed = list_all is_some_set (map (at_port rows output.0) (ports_towards v output.0 output.1));
  reach = closure (output_at v output.0 output.1).gate.bits (fds_by v.fds usable output.0);
  own = own_attrs (output_at v output.0 output.1);
  notes = allows_notes v (mode_of v output.0) output.0 output.1;
  behind = with_all 0 (map (at_port rows output.0) (ports_towards v output.0 output.1));
}

abbrev pub path_by : View → (rows : List (List ℕ)) → (usable : List ℕ) → (stream : ℕ) → Path
path_by v rows usable s = path_from v rows usable (stream_at v s).key (origin_of v s)

abbrev pub paths_by : View → (rows : List (List ℕ)) → (usable : List ℕ) → List Path
paths_by v rows usable = map (path_by v rows usable) (stream_numbers v)
