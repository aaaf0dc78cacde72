-- The tests of buckets are tests of the column, and there are eight at most.
use Rattle.std.proofs.Common.{◌≡◌, ◌≤◌, ◌∙◌, List, length, map, arith, ap, subst}
use Rattle.std.proofs.lemmas.List.{length-map}
use Rattle.blz_value.specs.Members.{Has}
use Rattle.bloom_forms.specs.Form.{formula_of}
use Rattle.bloom_forms.specs.Query.{Formula}
use Rattle.shard_buckets.specs.Buckets.{bucket_tests}
use Rattle.shard_route.proofs.BucketsLemmas.{are_tests, few_tests}
use Rattle.shard_route.proofs.sharding.with_module.Goals as goal

pub with_tests-requires-clause-tests : goal.with_tests-requires-clause-tests
with_tests-requires-clause-tests c test h =
    are_tests c.args.request.now.column.now c.args.request.now.bounds.now test (subst (λ (tests : List Formula). Has test tests) (ap (map formula_of) c.deref.ensures.value ∙ c.in_ok-tests.ensures) h)

pub with_tests-requires-clause-few : goal.with_tests-requires-clause-few
with_tests-requires-clause-few c =
    let few : length (bucket_tests c.args.request.now.column.now c.args.request.now.bounds.now) ≤ 8 = few_tests c.args.request.now.column.now c.args.request.now.bounds.now c.requires.few in
    let same : length (map formula_of c.deref.result.now) ≡ length (bucket_tests c.args.request.now.column.now c.args.request.now.bounds.now) = ap length (ap (map formula_of) c.deref.ensures.value ∙ c.in_ok-tests.ensures) in
    let count : length (map formula_of c.deref.result.now) ≡ length c.deref.result.now = length-map c.deref.result.now formula_of in
    omega (arith, few, same, count)
