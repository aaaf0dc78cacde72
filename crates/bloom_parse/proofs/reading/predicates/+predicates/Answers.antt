use Rattle.std.proofs.Common.{rules}
use Rattle.std.specs.Option.{option_map}
use Rattle.bloom_forms.specs.Form.{formula_of}
use Rattle.bloom_parse.specs.Code.ReadingPredicates.{formulas, unit_at}
use Rattle.bloom_parse.proofs.Grammar.PredicateCorrect.{next_and, next_or}
use Rattle.bloom_parse.proofs.reading.predicates.+predicates.Goals as goal
use Rattle.bloom_parse.proofs.reading.predicates.+predicates.Goals.{chain-in-And+else-left-eq0+in_ok-part-in-And+in_ok-product-in-And, chain-in-Or+else-left-eq0-2+in_ok-part-in-Or+in_ok-summed-in-Or}

pub chain-loop-preserved : goal.chain-loop-preserved
chain-loop-preserved t c =
    let m = c.match-link_at in
    elim c.match-link_at.branch [
      | chain-in-And+else-left-eq0+in_ok-part-in-And+in_ok-product-in-And w ↦ next_and (unit_at c.args.room) c.loop.counter c.loop.left (formulas (option_map (λ s. s.value) c.loop.sum)) (formula_of c.loop.product.value) c.loop.rest.now _ (formula_of w.in_ok-part-in-And.part.value) m.left (formulas (option_map (λ s. s.value) m.sum)) (formula_of m.product.value) m.rest.now c.loop-test.true (search rules) (search rules) (search rules) (search rules) (search rules) c.loop.invariant
      | chain-in-Or+else-left-eq0-2+in_ok-part-in-Or+in_ok-summed-in-Or w ↦ next_or (unit_at c.args.room) c.loop.counter c.loop.left (formulas (option_map (λ s. s.value) c.loop.sum)) (formula_of c.loop.product.value) c.loop.rest.now _ (formula_of w.in_ok-part-in-Or.part.value) m.left (formulas (option_map (λ s. s.value) m.sum)) (formula_of m.product.value) m.rest.now c.loop-test.true (search rules) (search rules) (search rules) (search rules) (search rules) c.loop.invariant
    ]
