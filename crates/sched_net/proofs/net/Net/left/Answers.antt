use Rattle.std.proofs.Common.{◌≡◌, ◌∙◌, length, ap, sym, arith}
use Rattle.std.specs.List.{sum_by}
use Rattle.blz_value.specs.NumberSets.{below}
use Rattle.topo_forms.specs.View.{replicas_of}
use Rattle.inbox.specs.Completeness.{left_at}
use Rattle.inbox.specs.Wiring.{wiring_of}
use Rattle.sched_net.specs.Net.{execution_in}
use Rattle.messages.proofs.CountingLemmas.{sum_below_more}
use Rattle.sched_net.proofs.LeftSeen.{left_by_number}
use Rattle.sched_net.proofs.net.Net.left.Goals as goal

pub loop-component-preserved : goal.loop-component-preserved
loop-component-preserved g c = record {
  left = λ given steps stand.
      let more = sum_below_more (λ k. left_at (wiring_of c.args.self.now.valid.now.view) given (execution_in stand) k (replicas_of c.args.self.now.valid.now.view k)) c.loop-component.component in
      omega (arith, more, c.loop-component.invariant.left given steps stand, c.left_at-left.ensures.left given steps stand);
  few = omega (arith, c.loop-component.invariant.few, c.left_at-left.ensures.few);
}

pub returns : goal.returns
returns g c given steps stand =
    let all : c.loop-component.component ≡ length c.args.self.now.valid.now.view.components = omega (arith, c.loop-component-test.false, c.loop-component.auto.component-end, c.component_count-component-end.ensures) in
    c.loop-component.invariant.left given steps stand
    ∙ ap (λ n. sum_by (λ k. left_at (wiring_of c.args.self.now.valid.now.view) given (execution_in stand) k (replicas_of c.args.self.now.valid.now.view k)) (below n)) all
    ∙ sym (left_by_number c.args.self.now.valid.now.view given (execution_in stand))
