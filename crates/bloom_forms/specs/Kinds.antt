-- Kinds of collections, and the collections of a kind in declared order.
use Rattle.std.specs.Prelude.{ℕ, Bool, true, false, Option, List, filter, length, take, slice_get}
use Rattle.std.specs.Option.{option_map, option_map_or}
use Rattle.bloom_forms.specs.declared.module.Kind.{Kind}
use Rattle.bloom_forms.specs.declared.module.Kind.TheVariants.{Input, Output, Table, Scratch}
use Rattle.bloom_forms.specs.declared.module.Collection.{Collection}
use Rattle.bloom_forms.specs.Lookup.{kind_of}
use Rattle.bloom_forms.specs.Query.{Name}

-- whether two kinds are one
abbrev pub same_kind : Kind → Kind → Bool
same_kind Input Input = true
same_kind Output Output = true
same_kind Table Table = true
same_kind Scratch Scratch = true
same_kind kind other = false

-- the collections of a kind
abbrev pub of_kind : Kind → List Collection → List Collection
of_kind kind cs = filter (λ c. same_kind kind c.kind) cs

-- the kind of the collection with the number
abbrev pub kind_at : List Collection → ℕ → Option Kind
kind_at cs number = option_map (λ c. c.kind) (slice_get cs number)

-- how many collections of a kind stand before the one with the number
abbrev pub place_in_kind : Kind → List Collection → ℕ → ℕ
place_in_kind kind cs number = length (of_kind kind (take number cs))

abbrev pub is_input : Kind → Bool
is_input Input = true
is_input Output = false
is_input Table = false
is_input Scratch = false

abbrev pub is_output : Kind → Bool
is_output Input = false
is_output Output = true
is_output Table = false
is_output Scratch = false

abbrev pub is_scratch : Kind → Bool
is_scratch Input = false
is_scratch Output = false
is_scratch Table = false
is_scratch Scratch = true

-- a rule may have it as its head
abbrev pub is_head : Kind → Bool
is_head Input = false
is_head Output = true
is_head Table = true
is_head Scratch = true

-- a body may name it
abbrev pub is_readable : Kind → Bool
is_readable Input = true
is_readable Output = false
is_readable Table = true
is_readable Scratch = true

-- the name is that of a collection whose kind passes the test
abbrev pub has_kind : (Kind → Bool) → List Collection → Name → Bool
has_kind test cs name = option_map_or test (kind_of cs name) false
