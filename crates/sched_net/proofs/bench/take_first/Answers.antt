use Rattle.std.proofs.Common.{◌∙◌, sym, Some}
use Rattle.sched_net.specs.Bench.{fits_kind}
use Rattle.sched_net.proofs.TakingLemmas.{takes_first, takes_none}
use Rattle.sched_net.proofs.bench.take_first.Goals as goal

pub returns-in-Some-clause-taken : goal.returns-in-Some-clause-taken
returns-in-Some-clause-taken g c =
    (takes_first (λ b. fits_kind (Some c.args.program.now) ((goal.Component-dyn g (b.vtable, b.value)).kind b.value))
    c.args.bench.now.items c.as_slice.result.now c.first_fitting.result c.in-Some.place c.remove.result
    c.as_slice.ensures.value c.first_fitting.ensures c.in-Some.is c.remove.ensures.value).0

pub returns-in-Some-clause-left : goal.returns-in-Some-clause-left
returns-in-Some-clause-left g c =
    c.remove.ensures.items
    ∙ (takes_first (λ b. fits_kind (Some c.args.program.now) ((goal.Component-dyn g (b.vtable, b.value)).kind b.value))
    c.args.bench.now.items c.as_slice.result.now c.first_fitting.result c.in-Some.place c.remove.result
    c.as_slice.ensures.value c.first_fitting.ensures c.in-Some.is c.remove.ensures.value).1

pub returns-in-None-clause-taken : goal.returns-in-None-clause-taken
returns-in-None-clause-taken g c =
    sym (takes_none (λ b. fits_kind (Some c.args.program.now) ((goal.Component-dyn g (b.vtable, b.value)).kind b.value))
    c.args.bench.now.items c.as_slice.result.now c.first_fitting.result c.as_slice.ensures.value c.first_fitting.ensures c.in-None.is).0

pub returns-in-None-clause-left : goal.returns-in-None-clause-left
returns-in-None-clause-left g c =
    sym (takes_none (λ b. fits_kind (Some c.args.program.now) ((goal.Component-dyn g (b.vtable, b.value)).kind b.value))
    c.args.bench.now.items c.as_slice.result.now c.first_fitting.result c.as_slice.ensures.value c.first_fitting.ensures c.in-None.is).1
