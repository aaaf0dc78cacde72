-- the tests so far, with those of the bounds that are left
use Rattle.std.proofs.Common.{◌≡◌, ◌++◌, map, drop}
use Rattle.bloom_forms.specs.Form.{formula_of}
use Rattle.bloom_forms.specs.Shards.{buckets, buckets_from}
use Rattle.shard_buckets.proofs.buckets.push_tests.Given as goal

abbrev pub invariant-loop-next : goal.invariant-loop-next
invariant-loop-next l = map formula_of l.tests.items ++ buckets_from l.column l.bound (drop l.next-index l.bounds) ≡ map formula_of l.initial.tests.items ++ buckets_from l.column l.first l.bounds
