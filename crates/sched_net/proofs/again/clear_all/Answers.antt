use Rattle.std.proofs.Common.{◌∙◌, arith}
use Rattle.sched_net.proofs.AgainLemmas.{one_cleared, all_cleared}
use Rattle.sched_net.proofs.again.clear_all.Goals as goal

pub loop-place-preserved : goal.loop-place-preserved
loop-place-preserved g c =
    let i = c.loop-place.invariant in
    record {
      kinds = c.clear_at.ensures.kinds ∙ i.kinds;
      loaded = c.clear_at.ensures.loaded ∙ i.loaded;
      kept = one_cleared (λ b. (goal.Component-dyn g (b.vtable, b.value)).program b.value) (λ b. (goal.Component-dyn g (b.vtable, b.value)).kept b.value) c.args.shells.now.items c.loop-place.shells.items c.loop-place.place i.loaded
          c.clear_at.new.shells.items (omega (arith, c.loop-place-test.true, c.len-place-end.ensures)) c.clear_at.ensures.kept i.kept;
    }

pub returns-clause-kept : goal.returns-clause-kept
returns-clause-kept g c =
    let i = c.loop-place.invariant in
    all_cleared (λ b. (goal.Component-dyn g (b.vtable, b.value)).program b.value) (λ b. (goal.Component-dyn g (b.vtable, b.value)).kept b.value) c.args.shells.now.items c.loop-place.shells.items c.loop-place.place i.loaded
    (omega (arith, c.loop-place-test.false, c.len-place-end.ensures)) i.kept
