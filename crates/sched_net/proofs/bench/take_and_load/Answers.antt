use Rattle.sched_net.specs.Bench.{fits_component}
use Rattle.sched_net.proofs.TakingLemmas.{taken_kinds_by, same_kinds}
use Rattle.sched_net.proofs.bench.take_and_load.Goals as goal

pub load_all-requires-clause-fit : goal.load_all-requires-clause-fit
load_all-requires-clause-fit g c = taken_kinds_by c.args.valid.now.view (λ b. (goal.Component-dyn g (b.vtable, b.value)).kind b.value) c.args.wanted.now c.args.bench.now.items c.in_ok-shells.shells.items c.in_ok-shells.ensures.taken c.requires.enough

pub returns-in-Err-clause-err : goal.returns-in-Err-clause-err
returns-in-Err-clause-err g c =
    same_kinds (λ b. (goal.Component-dyn g (b.vtable, b.value)).kind b.value) (fits_component c.args.valid.now.view (λ b. (goal.Component-dyn g (b.vtable, b.value)).kind b.value)) c.args.wanted.now c.args.bench.now.items c.take_all.new.bench.items c.in_ok-shells.shells.items c.load_all.new.shells.items c.put_back.new.bench.items
    c.in_ok-shells.ensures.left c.in_ok-shells.ensures.taken c.in-Err.ensures.kinds c.put_back.ensures
