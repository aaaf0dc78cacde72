-- One copy more, or one that is too deep.
use Rattle.std.proofs.Common.{◌≡◌, ◌∙◌, ◌+◌, [], ◌∷◌, ◌++◌, map, take, arith, sym, subst}
use Rattle.std.proofs.lemmas.Grind.{common_steps}
use Rattle.blz_value.specs.Members.{Has}
use Rattle.blz_value.proofs.Membership.{Has-get_or, Has-map}
use Rattle.bloom_forms.specs.declared.expr.Pred.{Pred}
use Rattle.bloom_forms.specs.Form.{formula_of}
use Rattle.shard_route.proofs.Answering.{no_copy, copies_more, shallow_more}
use Rattle.shard_route.proofs.copies.copies_for.Goals as goal

pub copy_for-requires-clause-test : goal.copy_for-requires-clause-test
copy_for-requires-clause-test c =
    let tests = c.args.tests.now in
    let has : Has c.test-item.result c.args.tests.now = subst (λ (p : Pred). Has p c.args.tests.now) (sym c.test-item.is) (Has-get_or c.args.tests.now c.loop-test.test-index c.test-item.result c.loop-test-test.true) in
    c.requires.tests (formula_of c.test-item.result) (Has-map formula_of c.test-item.result c.args.tests.now has)

pub returns-in_err-copy_for : goal.returns-in_err-copy_for
returns-in_err-copy_for c =
    let has : Has c.test-item.result c.args.tests.now = subst (λ (p : Pred). Has p c.args.tests.now) (sym c.test-item.is) (Has-get_or c.args.tests.now c.loop-test.test-index c.test-item.result c.loop-test-test.true) in
    no_copy c.args.checked.now (map formula_of c.args.tests.now) (formula_of c.test-item.result) c.from_residual.result c.in_err-copy_for.field-0.0 c.from_residual.ensures.1
    (Has-map formula_of c.test-item.result c.args.tests.now has) c.in_err-copy_for.ensures

pub loop-test-preserved : goal.loop-test-preserved
loop-test-preserved c =
    let more : map formula_of (take (c.loop-test.test-index + 1) c.args.tests.now) ≡ map formula_of (take c.loop-test.test-index c.args.tests.now) ++ formula_of c.test-item.result ∷ [] = grind (arith, common_steps) in
    record {
      copies = c.in_ok-push.ensures.items ∙ copies_more c.args.checked.now (map formula_of (take c.loop-test.test-index c.args.tests.now)) (map formula_of (take (c.loop-test.test-index + 1) c.args.tests.now)) (formula_of c.test-item.result) c.loop-test.copies.items c.in_ok-copy_for.field-0 more c.loop-test.invariant.copies c.in_ok-copy_for.ensures.0;
      shallow = shallow_more c.args.checked.now (map formula_of (take c.loop-test.test-index c.args.tests.now)) (map formula_of (take (c.loop-test.test-index + 1) c.args.tests.now)) (formula_of c.test-item.result) more c.loop-test.invariant.shallow c.in_ok-copy_for.ensures.1;
    }
