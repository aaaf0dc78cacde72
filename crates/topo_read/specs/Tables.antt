-- The keys of a table, and the tables that stand in a list of an entry.
use Rattle.std.specs.Prelude.{ℕ, Bool, true, false, not, nat_le, List, [], ◌∷◌, length, filter, Option, Some, None, is_none, option_map, if◌then◌else◌, codes}
use Rattle.std.specs.List.{list_any, reduce}
use Rattle.std.specs.Cmp.Lexicographic.{slice_cmp}
use Rattle.std.specs.Ordering.{nat_cmp, is_lt}
use Rattle.std.specs.Str.{bytes_eq}
use Rattle.toml.specs.Data.{Data, Members, no_members, member, get_member, as_table}
use Rattle.topo_forms.specs.declared.topology.Side.{Side}
use Rattle.topo_forms.specs.declared.topology.Declared.{Declared}
use Rattle.topo_forms.specs.declared.topology.NoteName.{NoteName}
use Rattle.topo_forms.specs.declared.topology.NoteName.TheVariants.{CR, CW, OR, OW}
use Rattle.topo_read.specs.declared.values.Format.{Format}
use Rattle.topo_read.specs.declared.values.Format.TheVariants.{One, Two}
use Rattle.topo_read.specs.Values.{◌>>=◌, only_if, name_in, names_in, some_names_in, note_in, list_in}

-- what the value of a key gives; the key has to stand there
abbrev pub at_key : {X : Type 0} → (Data → Option X) → List ℕ → Members → Option X
at_key read key table = get_member key table >>= read

-- what a value gives, where there is one
abbrev pub none_or_some : {X : Type 0} → (Data → Option X) → Option Data → Option (Option X)
none_or_some read None = Some None
none_or_some read (Some value) = option_map Some (read value)

-- what the value of a key gives; the key may be missing
abbrev pub maybe_at_key : {X : Type 0} → (Data → Option X) → List ℕ → Members → Option (Option X)
maybe_at_key read key table = none_or_some read (get_member key table)

-- the list that a value is, empty where there is no value
abbrev pub none_or_list : {X : Type 0} → (Data → Option X) → Option Data → Option (List X)
none_or_list read None = Some []
none_or_list read (Some value) = list_in read value

-- the list at a key, empty where the key is missing
abbrev pub list_at_key : {X : Type 0} → (Data → Option X) → List ℕ → Members → Option (List X)
list_at_key read key table = none_or_list read (get_member key table)

-- the key is missing
abbrev pub lacks : List ℕ → Members → Bool
lacks key table = is_none (get_member key table)

-- the keys of a table
abbrev pub keys_in : Members → List (List ℕ)
keys_in no_members = []
keys_in (member key value rest) = key ∷ keys_in rest

-- the keys that are none of these
abbrev pub unknown_keys : List (List ℕ) → Members → List (List ℕ)
unknown_keys known table = filter (λ key. not (list_any (bytes_eq key) known)) (keys_in table)

-- the one of two texts that is first in byte order
abbrev pub earlier : List ℕ → List ℕ → List ℕ
earlier a b = if is_lt (slice_cmp nat_cmp a b) then a else b

-- the unknown key that is first in byte order
abbrev pub unknown_key : List (List ℕ) → Members → Option (List ℕ)
unknown_key known table = reduce earlier (unknown_keys known table)

-- there is no key but these
abbrev pub has_only : List (List ℕ) → Members → Bool
has_only known table = is_none (unknown_key known table)

-- a port or an output of a component without a body
unfoldable pub side_of : Members → Option Side
side_of table = do
  name ← at_key name_in (codes "name") table
  columns ← at_key names_in (codes "columns") table
  only_if (has_only (codes "name" ∷ codes "columns" ∷ []) table) (record { name = name; columns = columns })

-- the port or output that a value declares
abbrev pub side_in : Data → Option Side
side_in value = as_table value >>= side_of

-- OR and OW
abbrev pub is_ordered : NoteName → Bool
is_ordered CR = false
is_ordered CW = false
is_ordered OR = true
is_ordered OW = true

-- the gate of an O note; beside a C note the key may not stand
abbrev pub gate_of : NoteName → Members → Option (List (List ℕ))
gate_of note table =
    if is_ordered note then list_at_key name_in (codes "gate") table
    else only_if (lacks (codes "gate") table) []

-- a declared note
unfoldable pub declared_of : Members → Option Declared
declared_of table = do
  from ← at_key name_in (codes "from") table
  to ← at_key name_in (codes "to") table
  note ← at_key note_in (codes "note") table
  gate ← gate_of note table
  only_if (has_only (codes "from" ∷ codes "to" ∷ codes "note" ∷ codes "gate" ∷ []) table) (record { from = from; to = to; note = note; gate = gate })

-- the note that a value declares
abbrev pub declared_in : Data → Option Declared
declared_in value = as_table value >>= declared_of

-- a list of at most eight
abbrev pub up_to_eight : {X : Type 0} → List X → Option (List X)
up_to_eight xs = only_if (nat_le (length xs) 8) xs

-- a side of a dependency: in format 1 a name, in format 2 a list of 1 to 8 names
abbrev pub fd_names_at : Format → List ℕ → Members → Option (List (List ℕ))
fd_names_at One key table = at_key name_in key table >>= (λ name. Some (name ∷ []))
fd_names_at Two key table = at_key some_names_in key table >>= up_to_eight
