-- There is a number for each copy.
use Rattle.bloom_forms.specs.Form.{formula_of}
use Rattle.std.proofs.Common.{length}
use Rattle.shard_route.proofs.NewTopology.{as_many, small_numbers}
use Rattle.shard_route.proofs.sharding.with_tests.Goals as goal

pub with_copies-requires-clause-numbers : goal.with_copies-requires-clause-numbers
with_copies-requires-clause-numbers c =
    as_many c.args.checked.now formula_of c.args.tests.now c.in_ok-copies.copies c.as_slice.result.now c.in_ok-numbers.numbers.items c.deref.result.now c.in_ok-copies.ensures.0 c.as_slice.ensures c.in_ok-numbers.ensures c.deref.ensures.value

pub with_copies-requires-clause-small : goal.with_copies-requires-clause-small
with_copies-requires-clause-small c =
    small_numbers (length c.args.tests.now) c.in_ok-numbers.numbers.items c.deref.result.now c.requires.few c.in_ok-numbers.ensures c.deref.ensures.value
