use Rattle.std.proofs.Math.Seq.{map-set_same}
use Rattle.sched_net.proofs.ShellsLemmas.{cleared_at}
use Rattle.sched_net.proofs.forgetting.clear_at.Goals as goal

pub returns-clause-kinds : goal.returns-clause-kinds
returns-clause-kinds g c =
    map-set_same (λ b. (goal.Component-dyn g (b.vtable, b.value)).kind b.value) c.args.shells.now.items c.args.place c.clear_one.new.shell c.index_mut.result.now
    (rw (← c.index_mut.ensures.value) c.clear_one.ensures.kind)

pub returns-clause-loaded : goal.returns-clause-loaded
returns-clause-loaded g c =
    map-set_same (λ b. (goal.Component-dyn g (b.vtable, b.value)).program b.value) c.args.shells.now.items c.args.place c.clear_one.new.shell c.index_mut.result.now
    (rw (← c.index_mut.ensures.value) c.clear_one.ensures.loaded)

pub returns-clause-kept : goal.returns-clause-kept
returns-clause-kept g c = cleared_at (λ b. (goal.Component-dyn g (b.vtable, b.value)).program b.value) (λ b. (goal.Component-dyn g (b.vtable, b.value)).kept b.value) c.args.shells.now.items c.args.place c.index_mut.result.now c.clear_one.new.shell c.requires c.index_mut.ensures.value c.clear_one.ensures.kept
