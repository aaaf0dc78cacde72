use Rattle.std.proofs.Common.{◌≡◌, ◌+◌, ◌∙◌, ap, arith}
use Rattle.std.specs.List.{sum_by}
use Rattle.blz_value.specs.NumberSets.{below}
use Rattle.topo_forms.specs.View.{replicas_of}
use Rattle.inbox.specs.Completeness.{left_of, left_out}
use Rattle.inbox.specs.Wiring.{wiring_of}
use Rattle.sched_net.specs.Net.{execution_in}
use Rattle.messages.proofs.CountingLemmas.{sum_below_more}
use Rattle.sched_net.proofs.net.Net.left_at.Goals as goal

pub loop-replica-preserved : goal.loop-replica-preserved
loop-replica-preserved g c = record {
  left = λ given steps stand.
      let more = sum_below_more (left_of (wiring_of c.args.self.now.valid.now.view) given (execution_in stand) c.args.component) c.loop-replica.replica in
      omega (arith, more, c.loop-replica.invariant.left given steps stand, c.left_of-left.ensures.left given steps stand);
  few = omega (arith, c.loop-replica.invariant.few, c.left_of-left.ensures.few);
}

pub returns-clause-left : goal.returns-clause-left
returns-clause-left g c given steps stand =
    let all : c.loop-replica.replica ≡ replicas_of c.args.self.now.valid.now.view c.args.component = omega (arith, c.loop-replica-test.false, c.loop-replica.auto.replica-end, c.replicas-replica-end.ensures) in
    c.loop-replica.invariant.left given steps stand
    ∙ ap (λ n. left_out (wiring_of c.args.self.now.valid.now.view) given (execution_in stand) c.args.component + sum_by (left_of (wiring_of c.args.self.now.valid.now.view) given (execution_in stand) c.args.component) (below n)) all
