-- Levels go down, and what is left reads as the whole.
use Rattle.std.proofs.Common.{◌≡◌, None, ◌+◌, ◌-◌, ◌*◌}
use Rattle.std.specs.Option.{option_map}
use Rattle.bloom_forms.specs.Form.{formula_of}
use Rattle.bloom_parse.specs.Code.ReadingPredicates.{formulas, chain_at, unit_at}
use Rattle.bloom_parse.proofs.reading.predicates.+predicates.Given as goal

abbrev pub decreases-chain : goal.decreases-chain
decreases-chain l = 4 * l.room + 2

abbrev pub decreases-pred : goal.decreases-pred
decreases-pred l = 4 * l.room + 3

abbrev pub decreases-unit : goal.decreases-unit
decreases-unit l = 4 * l.room + 1

abbrev pub decreases-deeper_unit : goal.decreases-deeper_unit
decreases-deeper_unit l = 4 * l.room + 4

abbrev pub invariant-chain-loop : goal.invariant-chain-loop
invariant-chain-loop l = chain_at (unit_at l.room) (31 - l.counter) l.left (formulas (option_map (λ s. s.value) l.sum)) (formula_of l.product.value) l.rest ≡ chain_at (unit_at l.room) 31 l.fn.left None (formula_of l.fn.first.value) l.fn.terminals
