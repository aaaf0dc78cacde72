use Rattle.std.proofs.Common.{◌==◌, ◌∙◌, arith}
use Rattle.std.proofs.lemmas.Bool.{ne_eqb}
use Rattle.sched_net.specs.Net.{execution_in}
use Rattle.sched_net.proofs.LeftSeen.{complete_test, incomplete_test, tells_complete}
use Rattle.sched_net.proofs.net.Net.is_complete.Goals as goal

pub returns-then-left-eq0-clause-test : goal.returns-then-left-eq0-clause-test
returns-then-left-eq0-clause-test g c given steps stand =
    complete_test c.args.self.now.valid.now.view given (execution_in stand) c.left.result c.holds_none.result (c.left.ensures given steps stand) c.if-left-eq0.true (c.holds_none.ensures given steps stand)

pub returns-then-left-eq0-clause-complete : goal.returns-then-left-eq0-clause-complete
returns-then-left-eq0-clause-complete g c given steps stand =
    tells_complete c.args.self.now.valid.now.view given (execution_in stand) c.holds_none.result
    (complete_test c.args.self.now.valid.now.view given (execution_in stand) c.left.result c.holds_none.result (c.left.ensures given steps stand) c.if-left-eq0.true (c.holds_none.ensures given steps stand))

pub returns-else-left-eq0-clause-test : goal.returns-else-left-eq0-clause-test
returns-else-left-eq0-clause-test g c given steps stand =
    ne_eqb c.left.result 0 (λ none. omega (arith, none, c.if-left-eq0.false))
    ∙ incomplete_test c.args.self.now.valid.now.view given (execution_in stand) c.left.result (c.left.ensures given steps stand) (λ none. omega (arith, none, c.if-left-eq0.false))

pub returns-else-left-eq0-clause-complete : goal.returns-else-left-eq0-clause-complete
returns-else-left-eq0-clause-complete g c given steps stand =
    tells_complete c.args.self.now.valid.now.view given (execution_in stand) (c.left.result == 0)
    (ne_eqb c.left.result 0 (λ none. omega (arith, none, c.if-left-eq0.false))
    ∙ incomplete_test c.args.self.now.valid.now.view given (execution_in stand) c.left.result (c.left.ensures given steps stand) (λ none. omega (arith, none, c.if-left-eq0.false)))
