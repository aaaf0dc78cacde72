use Rattle.std.proofs.Common.{◌≡◌, ◌∙◌, sym, arith}
use Rattle.inbox.specs.Completeness.{held_count_at}
use Rattle.inbox.specs.Wiring.{wiring_of}
use Rattle.sched_net.specs.Net.{execution_in}
use Rattle.sched_net.proofs.LeftSeen.{more_numbers, some_held, none_held}
use Rattle.sched_net.proofs.net.Net.holds_none_at.Goals as goal

pub returns-then-held-ne0 : goal.returns-then-held-ne0
returns-then-held-ne0 g c given steps stand =
    some_held c.args.self.now.valid.now.view (execution_in stand) c.args.component c.loop-replica.replica c.held.result
    (omega (arith, c.loop-replica-test.true, c.replicas-replica-end.ensures)) (c.held.ensures given steps stand) (λ none. omega (arith, none, c.if-held-ne0.true))

pub loop-replica-preserved : goal.loop-replica-preserved
loop-replica-preserved g c r less given steps stand =
    more_numbers (λ k. 0 ≡ held_count_at (wiring_of c.args.self.now.valid.now.view) (execution_in stand) c.args.component k) c.loop-replica.replica
    (λ k under. c.loop-replica.invariant k under given steps stand) (sym c.if-held-ne0.false ∙ c.held.ensures given steps stand) r less

pub returns : goal.returns
returns g c given steps stand =
    none_held c.args.self.now.valid.now.view (execution_in stand) c.args.component
    (λ k less. c.loop-replica.invariant k (omega (arith, less, c.loop-replica-test.false, c.replicas-replica-end.ensures)) given steps stand)
