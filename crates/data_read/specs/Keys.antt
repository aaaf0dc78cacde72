-- The keys of a JSON object.
use Rattle.std.specs.Prelude.{ℕ, Bool, not, List, [], ◌∷◌, filter, Option, is_none, if◌then◌else◌}
use Rattle.std.specs.List.{list_any, reduce}
use Rattle.std.specs.Cmp.Lexicographic.{slice_cmp}
use Rattle.std.specs.Ordering.{nat_cmp, is_lt}
use Rattle.std.specs.Str.{bytes_eq}
use Rattle.serde_json.specs.Data.{Members, no_members, member}

abbrev pub keys_in : Members → List (List ℕ)
keys_in no_members = []
keys_in (member key value rest) = key ∷ keys_in rest

-- the keys that are none of these
abbrev pub unknown_keys : List (List ℕ) → Members → List (List ℕ)
unknown_keys known object = filter (λ key. not (list_any (bytes_eq key) known)) (keys_in object)

-- the one of two texts that is first in byte order
abbrev pub earlier : List ℕ → List ℕ → List ℕ
earlier a b = if is_lt (slice_cmp nat_cmp a b) then a else b

-- the unknown key that is first in byte order
abbrev pub unknown_key : List (List ℕ) → Members → Option (List ℕ)
unknown_key known object = reduce earlier (unknown_keys known object)

-- there is no key but these
abbrev pub has_only : List (List ℕ) → Members → Bool
has_only known object = is_none (unknown_key known object)
