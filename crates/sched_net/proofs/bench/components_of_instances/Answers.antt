use Rattle.sched_net.proofs.TakingLemmas.{components_more}
use Rattle.sched_net.proofs.bench.components_of_instances.Goals as goal

pub loop-component-preserved : goal.loop-component-preserved
loop-component-preserved c = components_more c.args.valid.now.view c.loop-component.component c.replicas.result c.loop-component.list.items c.push_times.new.list.items c.loop-component.invariant c.in_ok-push_times.ensures c.replicas.ensures
