-- The collections of a kind by their numbers.
use Rattle.std.specs.Prelude.{ℕ, List, map, filter, length, slice_index_or}
use Rattle.std.specs.List.{enumerate_from}
use Rattle.bloom_forms.specs.declared.module.Kind.{Kind}
use Rattle.bloom_forms.specs.declared.module.Collection.{Collection}
use Rattle.bloom_forms.specs.Kinds.{same_kind}

-- the numbers of the collections of a kind, in declared order
abbrev pub numbers_of_kind : Kind → List Collection → List ℕ
numbers_of_kind kind cs = map (λ place. place.0) (filter (λ place. same_kind kind place.1.kind) (enumerate_from 0 cs))

-- the number of the collection with a place among those of a kind; past the end the number of no collection, which is how many there are
abbrev pub number_in_kind : Kind → List Collection → ℕ → ℕ
number_in_kind kind cs place = slice_index_or (numbers_of_kind kind cs) place (length cs)
