use Rattle.std.proofs.Common.{◌≡◌, map, take, false}
use Rattle.bloom_forms.specs.Form.{formula_of}
use Rattle.shard_route.specs.Copies.{copy_of, has_deep_copy}
use Rattle.shard_route.proofs.copies.copies_for.Given as goal

abbrev pub invariant-loop-test : goal.invariant-loop-test
invariant-loop-test l = record {
  copies : l.copies.items ≡ map (copy_of l.checked) (map formula_of (take l.test-index l.tests));
  shallow : has_deep_copy l.checked.form (map formula_of (take l.test-index l.tests)) ≡ false;
}
