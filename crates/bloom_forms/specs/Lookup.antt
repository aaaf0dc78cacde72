-- What a module says of a name.
use Rattle.std.specs.Prelude.{ℕ, Bool, Option, List, [], length, unwrap_or}
use Rattle.std.specs.List.{find, position_from}
use Rattle.std.specs.Option.{option_map, option_map_or}
use Rattle.std.specs.Str.{bytes_eq}
use Rattle.bloom_forms.specs.declared.module.Kind.{Kind}
use Rattle.bloom_forms.specs.declared.module.Collection.{Collection}
use Rattle.bloom_forms.specs.Query.{Name}

abbrev pub is_named : Name → Collection → Bool
is_named name c = bytes_eq c.name name

-- the first collection of the name
abbrev pub collection_named : List Collection → Name → Option Collection
collection_named cs name = find (is_named name) cs

-- the number of the first collection of the name; where there is none, how many collections there are
abbrev pub collection_number : List Collection → Name → ℕ
collection_number cs name = unwrap_or (position_from (is_named name) 0 cs) (length cs)

-- the kind of the first collection of the name
abbrev pub kind_of : List Collection → Name → Option Kind
kind_of cs name = option_map (λ c. c.kind) (collection_named cs name)

-- the columns of the first collection of the name
abbrev pub declared : List Collection → Name → List Name
declared cs name = option_map_or (λ c. c.columns) (collection_named cs name) []
