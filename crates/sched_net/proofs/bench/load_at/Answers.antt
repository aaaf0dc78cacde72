use Rattle.std.proofs.Math.Seq.{map-set_same}
use Rattle.sched_net.proofs.bench.load_at.Goals as goal

pub returns-clause-kinds : goal.returns-clause-kinds
returns-clause-kinds g c =
    map-set_same (λ b. (goal.Component-dyn g (b.vtable, b.value)).kind b.value) c.args.shells.now.items c.args.place c.load_one.new.shell c.index_mut.result.now
    (rw (← c.index_mut.ensures.value) c.load_one.ensures.kind)
