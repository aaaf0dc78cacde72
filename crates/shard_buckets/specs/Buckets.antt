-- The buckets of a column: some bounds divide its values, and each bucket has a test.
use Rattle.std.specs.Prelude.{ℤ, List, [], ◌∷◌}
use Rattle.bloom_forms.specs.Query.{Name, Formula}
use Rattle.bloom_forms.specs.Shards.{buckets}

-- the test of each bucket in order: below the first bound, from each bound up to the next, from the last on
abbrev pub bucket_tests : Name → List ℤ → List Formula
bucket_tests column [] = []
bucket_tests column (first ∷ bounds) = buckets column first bounds
