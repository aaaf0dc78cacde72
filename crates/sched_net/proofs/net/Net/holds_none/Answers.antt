use Rattle.std.proofs.Common.{◌≡◌, ◌∙◌, true, length, sym, arith}
use Rattle.inbox.proofs.Ranges.{all_below, not_all_below}
use Rattle.sched_net.specs.Net.{execution_in}
use Rattle.sched_net.specs.Reading.{holds_none_at}
use Rattle.sched_net.proofs.LeftSeen.{more_numbers}
use Rattle.sched_net.proofs.net.Net.holds_none.Goals as goal

pub returns-then-not-holds_none_at : goal.returns-then-not-holds_none_at
returns-then-not-holds_none_at g c given steps stand =
    sym (not_all_below (holds_none_at c.args.self.now.valid.now.view (execution_in stand)) (length c.args.self.now.valid.now.view.components) c.loop-component.component
    (omega (arith, c.loop-component-test.true, c.component_count-component-end.ensures)) (sym (c.holds_none_at.ensures given steps stand) ∙ c.if-not-holds_none_at.true))

pub loop-component-preserved : goal.loop-component-preserved
loop-component-preserved g c k less given steps stand =
    more_numbers (λ n. true ≡ holds_none_at c.args.self.now.valid.now.view (execution_in stand) n) c.loop-component.component
    (λ n under. c.loop-component.invariant n under given steps stand) (sym c.if-not-holds_none_at.false ∙ c.holds_none_at.ensures given steps stand) k less

pub returns : goal.returns
returns g c given steps stand =
    sym (all_below (holds_none_at c.args.self.now.valid.now.view (execution_in stand)) (length c.args.self.now.valid.now.view.components)
    (λ k less. sym (c.loop-component.invariant k (omega (arith, less, c.loop-component-test.false, c.component_count-component-end.ensures)) given steps stand)))
