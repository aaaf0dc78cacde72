-- The topology in which the copies of a component stand in its place.
use Rattle.std.specs.Prelude.{ℕ, ◌||◌, nat_lt, false, if◌then◌else◌, Bool, List, [], ◌∷◌, ◌++◌, map, length, codes}
use Rattle.std.specs.Fmt.{decimal}
use Rattle.std.specs.List.{flat_map, list_any, range_with_len}
use Rattle.std.specs.Str.{bytes_eq}
use Rattle.bloom_forms.specs.Form.{Accepted}
use Rattle.bloom_forms.specs.Query.{Name}
use Rattle.topo_forms.specs.declared.topology.SourceEntry.{SourceEntry}
use Rattle.topo_forms.specs.declared.topology.ComponentEntry.{ComponentEntry}
use Rattle.topo_forms.specs.declared.topology.StreamEntry.{StreamEntry}
use Rattle.topo_forms.specs.declared.topology.Spot.{Spot}
use Rattle.topo_forms.specs.declared.topology.Topology.{Topology}
use Rattle.topo_forms.specs.declared.topology.Body.{Body}
use Rattle.topo_forms.specs.declared.topology.Body.TheVariants as body
use Rattle.topo_forms.specs.Sites.{modules_after}

-- ---- names

-- the numbers of so many copies, counted from 1
abbrev pub numbers_to : ℕ → List ℕ
numbers_to count = range_with_len 1 count

-- a name with a number behind it, as `count_2`
abbrev pub numbered : Name → ℕ → Name
numbered name i = name ++ (codes "_" ++ decimal i)

-- the file of a copy's module
abbrev pub file_of : Name → ℕ → List ℕ
file_of name i = numbered name i ++ codes ".bloom"

-- ---- parts, where the component of this name has copies with these numbers

-- the port or output of a copy
abbrev pub copied_spot : Spot → ℕ → Spot
copied_spot spot i = record { component = numbered spot.component i; port = spot.port }

-- a port of the component becomes that of each copy
abbrev pub sharded_spot : Name → List ℕ → Spot → List Spot
sharded_spot name numbers spot = if bytes_eq spot.component name then map (copied_spot spot) numbers else spot ∷ []

abbrev pub sharded_ends : Name → List ℕ → List Spot → List Spot
sharded_ends name numbers ends = flat_map (sharded_spot name numbers) ends

abbrev pub sharded_source : Name → List ℕ → SourceEntry → SourceEntry
sharded_source name numbers s = record s { to = sharded_ends name numbers s.to }

-- a copy runs a module of its own, and has the replicas, the mode, the key and the notes of the component
abbrev pub copied_component : ComponentEntry → ℕ → ComponentEntry
copied_component c i = record c { name = numbered c.name i; body = body.Module (file_of c.name i); inputs = []; outputs = [] }

abbrev pub sharded_component : Name → List ℕ → ComponentEntry → List ComponentEntry
sharded_component name numbers c = if bytes_eq c.name name then map (copied_component c) numbers else c ∷ []

-- the stream of a copy, with these ends
abbrev pub copied_stream : List Spot → StreamEntry → ℕ → StreamEntry
copied_stream ends s i = record { name = numbered s.name i; from = copied_spot s.from i; to = ends }

-- a stream from the component becomes one from each copy
abbrev pub sharded_stream : Name → List ℕ → StreamEntry → List StreamEntry
sharded_stream name numbers s =
    if bytes_eq s.from.component name then map (copied_stream (sharded_ends name numbers s.to) s) numbers
    else record s { to = sharded_ends name numbers s.to } ∷ []

-- ---- the whole

-- the topology with so many copies in place of the component, as one of format 2
abbrev pub sharded_topology : Topology → Name → List ℕ → Topology
sharded_topology t name numbers = record {
  format = 2;
  sources = map (sharded_source name numbers) t.sources;
  components = flat_map (sharded_component name numbers) t.components;
  streams = flat_map (sharded_stream name numbers) t.streams;
  fds = t.fds;
}

-- the module of a body, where the modules from its own on are these
abbrev pub own_module : Body → List Accepted → List Accepted
own_module (body.Module file) [] = []
own_module (body.Module file) (m ∷ modules) = m ∷ []
own_module (body.Stock s) modules = []
own_module body.None modules = []

-- the modules of the components with one, in their order, with the copies in place of the component's
abbrev pub sharded_modules : Name → (copies : List Accepted) → List ComponentEntry → List Accepted → List Accepted
sharded_modules name copies [] modules = []
sharded_modules name copies (c ∷ components) modules =
    (if bytes_eq c.name name then copies else own_module c.body modules) ++ sharded_modules name copies components (modules_after c.body modules)

-- ---- names that can't be given

-- the most bytes of a name
abbrev pub name_limit : ℕ
name_limit = 64

-- longer than a name may be
abbrev pub is_long_name : Name → Bool
is_long_name name = nat_lt name_limit (length name)

-- the component has its module in this file
abbrev pub has_file_in : List ℕ → Body → Bool
has_file_in file (body.Module own) = bytes_eq file own
has_file_in file (body.Stock s) = false
has_file_in file body.None = false

-- a component has
abbrev pub has_file : List ComponentEntry → List ℕ → Bool
has_file components file = list_any (λ c. has_file_in file c.body) components

-- a copy's name or that of a stream is too long, or a copy's file is one that a component has, where these are the components that there are and the streams that there will be
abbrev pub are_bad_names : List ComponentEntry → List StreamEntry → Name → List ℕ → Bool
are_bad_names components streams name numbers =
    (list_any (λ i. is_long_name (numbered name i)) numbers || list_any (λ s. is_long_name s.name) streams)
    || list_any (λ i. has_file components (file_of name i)) numbers

-- the names of the copies, of their streams and of their files can't be given
abbrev pub has_bad_names : Topology → Name → List ℕ → Bool
has_bad_names t name numbers = are_bad_names t.components (flat_map (sharded_stream name numbers) t.streams) name numbers
