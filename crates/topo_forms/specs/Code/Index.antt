-- The numbers of named parts, by their names.
use Rattle.std.specs.Prelude.{ℕ, ◌≡◌, ◌<◌, Option, List, map, length, slice_index_or}
use Rattle.std.specs.BTreeMap.{BTreeMap, get}
use Rattle.std.specs.Cmp.Lexicographic.{slice_cmp}
use Rattle.std.specs.List.{position_from}
use Rattle.std.specs.Ordering.{nat_cmp}
use Rattle.std.specs.Str.{bytes_eq}
use Rattle.std.specs.declared.cmp.Ordering.{Ordering}
use Rattle.bloom_forms.specs.Query.{Name}
use Rattle.topo_forms.specs.declared.index.Index.{Index}
use Rattle.topo_forms.specs.declared.kept.KeptComponent.{KeptComponent}
use Rattle.topo_forms.specs.View.{View, find_stream, find_component, find_port}

-- the order of names
abbrev pub name_cmp : Name → Name → Ordering
name_cmp = slice_cmp nat_cmp

-- the first place of a name
abbrev pub place_in : List Name → Name → Option ℕ
place_in names name = position_from (λ held. bytes_eq held name) 0 names

-- a map answers each name with its first place in a list
abbrev pub Places : List Name → BTreeMap Name ℕ → Type 0
Places names places = (name : Name) → get name_cmp places name ≡ place_in names name

-- of each component its ports
abbrev pub AllPlaces : List KeptComponent → List (BTreeMap Name ℕ) → Type 0
AllPlaces components all = (c : ℕ) (d : KeptComponent) (e : BTreeMap Name ℕ) → c < length all → Places (map (λ p. p.name) (slice_index_or components c d).ports) (slice_index_or all c e)

-- each name is answered with the number of the part of a view that has it
pub record IsIndex (v : View) (index : Index) : Type 0 where
  pub streams : (name : Name) → get name_cmp index.streams name ≡ find_stream v name
  pub components : (name : Name) → get name_cmp index.components name ≡ find_component v name
  pub each : length index.ports ≡ length v.components
  pub ports : (c : ℕ) (d : BTreeMap Name ℕ) (name : Name) → c < length v.components → get name_cmp (slice_index_or index.ports c d) name ≡ find_port v c name
