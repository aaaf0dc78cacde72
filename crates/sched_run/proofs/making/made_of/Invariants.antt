-- whatever data the net stood for at first, it has turned; and each turn adds an event at least
use Rattle.std.proofs.Common.{◌≡◌, ◌-◌, [], map, length}
use Rattle.topo_forms.specs.Data.{Data}
use Rattle.sched_net.specs.Net.{Stands}
use Rattle.sched_run.specs.Made.{event_limit}
use Rattle.sched_run.specs.Code.Making.{HasTurned, IsReady}
use Rattle.sched_run.proofs.making.made_of.Given as goal

abbrev pub invariant-loop-making : goal.invariant-loop-making
invariant-loop-making g l = record {
  turned : (given : Data)
      → Stands l.fn.net.valid.now.view given [] (map (λ b. (goal.Component-dyn g (b.vtable, b.value)).program b.value) l.fn.net.shells.items) (map (λ b. (goal.Component-dyn g (b.vtable, b.value)).kept b.value) l.fn.net.shells.items) l.fn.net.books
      → HasTurned l.fn.net.valid.now.view given l.seed (map (λ b. (goal.Component-dyn g (b.vtable, b.value)).program b.value) l.fn.net.shells.items) (map (λ b. (goal.Component-dyn g (b.vtable, b.value)).kept b.value) l.net.shells.items) l.net.books l.making;
  ready : IsReady l.fn.net.valid.now.view l.net.books l.making;
  valid : l.net.valid ≡ l.fn.net.valid;
  kinds : map (λ b. (goal.Component-dyn g (b.vtable, b.value)).kind b.value) l.net.shells.items ≡ map (λ b. (goal.Component-dyn g (b.vtable, b.value)).kind b.value) l.fn.net.shells.items;
  loaded : map (λ b. (goal.Component-dyn g (b.vtable, b.value)).program b.value) l.net.shells.items ≡ map (λ b. (goal.Component-dyn g (b.vtable, b.value)).program b.value) l.fn.net.shells.items;
}

abbrev pub decreases-loop-making : goal.decreases-loop-making
decreases-loop-making g l = event_limit - length l.making.made
