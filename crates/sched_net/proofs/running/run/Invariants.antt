-- the lines so far were applied
use Rattle.std.proofs.Common.{◌≡◌, ◌++◌, List, map, take}
use Rattle.topo_forms.specs.Data.{Data}
use Rattle.inbox.specs.Events.{Step}
use Rattle.sched_net.specs.Net.{Stands, execution_in}
use Rattle.sched_net.specs.Steps.{Reaches, after_lines, steps_in}
use Rattle.sched_net.proofs.running.run.Given as goal

abbrev pub invariant-loop-line : goal.invariant-loop-line
invariant-loop-line g l = record {
  reaches : (given : Data) (steps : List Step)
      (stands : Stands l.fn.net.valid.now.view given steps (map (λ b. (goal.Component-dyn g (b.vtable, b.value)).program b.value) l.fn.net.shells.items) (map (λ b. (goal.Component-dyn g (b.vtable, b.value)).kept b.value) l.fn.net.shells.items) l.fn.net.books)
      → Reaches l.fn.net.valid.now.view given (steps ++ steps_in g.S.AsStep.step l.fn.net.valid.now.view (take l.line-index l.steps)) (map (λ b. (goal.Component-dyn g (b.vtable, b.value)).program b.value) l.fn.net.shells.items) (map (λ b. (goal.Component-dyn g (b.vtable, b.value)).kept b.value) l.net.shells.items) l.net.books
      (after_lines g.S.AsStep.step l.fn.net.valid.now.view given (take l.line-index l.steps) (execution_in stands.books));
  valid : l.net.valid ≡ l.fn.net.valid;
  kinds : map (λ b. (goal.Component-dyn g (b.vtable, b.value)).kind b.value) l.net.shells.items ≡ map (λ b. (goal.Component-dyn g (b.vtable, b.value)).kind b.value) l.fn.net.shells.items;
  loaded : map (λ b. (goal.Component-dyn g (b.vtable, b.value)).program b.value) l.net.shells.items ≡ map (λ b. (goal.Component-dyn g (b.vtable, b.value)).program b.value) l.fn.net.shells.items;
}
