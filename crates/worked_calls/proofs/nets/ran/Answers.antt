use Rattle.std.proofs.Common.{ap, map, []}
use Rattle.sched_net.specs.declared.step.Step.TheVariants as steps
use Rattle.worked_calls.proofs.NetRuns.{still_runs}
use Rattle.worked_calls.proofs.nets.ran.Goals as goal

pub run-requires : goal.run-requires
run-requires g c = record { runs = record { given = c.requires.given; steps = []; stands = c.requires.stands } }

pub returns : goal.returns
returns g c =
    let net = c.args.net.now in
    let after = c.run.new.net in
    still_runs steps.Event net.valid.now.view after.valid.now.view c.args.lines.now (map (λ b. (goal.Component-dyn g (b.vtable, b.value)).program b.value) net.shells.items) (map (λ b. (goal.Component-dyn g (b.vtable, b.value)).kept b.value) net.shells.items) (map (λ b. (goal.Component-dyn g (b.vtable, b.value)).kept b.value) after.shells.items) net.books after.books c.run.result
    (ap (λ valid. valid.now.view) c.run.ensures.valid) c.requires c.run.ensures.applies
