use Rattle.std.proofs.Common.{◌∙◌, ◌++◌, ap, map, refl, take}
use Rattle.sched_net.specs.Lent.{step_of}
use Rattle.sched_net.specs.Steps.{steps_in}
use Rattle.sched_net.specs.Net.{execution_in}
use Rattle.sched_net.proofs.StepsLemmas.{all_applied, line_applied, line_stops, none_applied, runs_on}
use Rattle.sched_net.proofs.running.run.Goals as goal

pub take_step-requires : goal.take_step-requires
take_step-requires g c =
    let v = c.args.net.now.valid.now.view in
    let run = c.requires.runs in
    let reaches = c.loop-line.invariant.reaches run.given run.steps run.stands in
    record {
      runs = runs_on v c.loop-line.net.valid.now.view run.given (run.steps ++ steps_in g.S.AsStep.step v (take c.loop-line.line-index c.args.steps.now))
          (map (λ b. (goal.Component-dyn g (b.vtable, b.value)).program b.value) c.args.net.now.shells.items) (map (λ b. (goal.Component-dyn g (b.vtable, b.value)).program b.value) c.loop-line.net.shells.items)
          (map (λ b. (goal.Component-dyn g (b.vtable, b.value)).kept b.value) c.loop-line.net.shells.items) c.loop-line.net.books
          (ap (λ valid. valid.now.view) c.loop-line.invariant.valid) c.loop-line.invariant.loaded reaches.stands;
    }

pub loop-line-init : goal.loop-line-init
loop-line-init g c = record {
  reaches = λ given steps stands. none_applied c.args.net.now.valid.now.view given steps
      (map (λ b. (goal.Component-dyn g (b.vtable, b.value)).program b.value) c.args.net.now.shells.items) (map (λ b. (goal.Component-dyn g (b.vtable, b.value)).kept b.value) c.args.net.now.shells.items)
      c.args.net.now.books stands;
  valid = refl;
  kinds = refl;
  loaded = refl;
}

pub loop-line-preserved : goal.loop-line-preserved
loop-line-preserved g c = record {
  reaches = λ given steps stands. line_applied g.S.AsStep.step c.args.net.now.valid.now.view c.loop-line.net.valid.now.view
      (map (λ b. (goal.Component-dyn g (b.vtable, b.value)).program b.value) c.args.net.now.shells.items) (map (λ b. (goal.Component-dyn g (b.vtable, b.value)).program b.value) c.loop-line.net.shells.items)
      (map (λ b. (goal.Component-dyn g (b.vtable, b.value)).kept b.value) c.loop-line.net.shells.items) (map (λ b. (goal.Component-dyn g (b.vtable, b.value)).kept b.value) c.take_step.new.net.shells.items)
      c.loop-line.net.books c.take_step.new.net.books c.args.steps.now c.loop-line.line-index c.loop-line-item.result c.take_step.result
      (ap (λ valid. valid.now.view) c.loop-line.invariant.valid) c.loop-line.invariant.loaded c.loop-line-test.true c.loop-line-item.is
      (step_of c.as_step.result) c.as_step.ensures c.take_step.ensures.answer c.take_step.ensures.leaves given steps (execution_in stands.books) (c.loop-line.invariant.reaches given steps stands) c.in_default.is;
  valid = c.take_step.ensures.valid ∙ c.loop-line.invariant.valid;
  kinds = c.take_step.ensures.kinds ∙ c.loop-line.invariant.kinds;
  loaded = c.take_step.ensures.loaded ∙ c.loop-line.invariant.loaded;
}

pub returns-in-Err-clause-applies : goal.returns-in-Err-clause-applies
returns-in-Err-clause-applies g c given steps stands =
    line_stops g.S.AsStep.step c.args.net.now.valid.now.view c.loop-line.net.valid.now.view
    (map (λ b. (goal.Component-dyn g (b.vtable, b.value)).program b.value) c.args.net.now.shells.items) (map (λ b. (goal.Component-dyn g (b.vtable, b.value)).program b.value) c.loop-line.net.shells.items)
    (map (λ b. (goal.Component-dyn g (b.vtable, b.value)).kept b.value) c.loop-line.net.shells.items) (map (λ b. (goal.Component-dyn g (b.vtable, b.value)).kept b.value) c.take_step.new.net.shells.items)
    c.loop-line.net.books c.take_step.new.net.books c.args.steps.now c.loop-line.line-index c.loop-line-item.result c.take_step.result
    (ap (λ valid. valid.now.view) c.loop-line.invariant.valid) c.loop-line.invariant.loaded c.loop-line-test.true c.loop-line-item.is
    (step_of c.as_step.result) c.as_step.ensures c.take_step.ensures.answer c.take_step.ensures.leaves given steps (execution_in stands.books) (c.loop-line.invariant.reaches given steps stands) c.in-Err.fault c.in-Err.is

pub returns-clause-applies : goal.returns-clause-applies
returns-clause-applies g c given steps stands =
    all_applied g.S.AsStep.step c.args.net.now.valid.now.view given steps
    (map (λ b. (goal.Component-dyn g (b.vtable, b.value)).program b.value) c.args.net.now.shells.items) (map (λ b. (goal.Component-dyn g (b.vtable, b.value)).kept b.value) c.loop-line.net.shells.items)
    c.loop-line.net.books c.args.steps.now c.loop-line.line-index (execution_in stands.books) c.loop-line-test.false (c.loop-line.invariant.reaches given steps stands)
