-- what further passes are still to do, and the net stands for no step
use Rattle.std.proofs.Common.{◌≡◌, [], length, map}
use Rattle.sched_net.specs.Net.{Stands}
use Rattle.why_trace.specs.Passes.{trim_by}
use Rattle.why_trace.specs.Code.Trials.{sought_of, is_yielded_by}
use Rattle.why_trace.proofs.trial.Trial.trim.Given as goal

abbrev pub invariant-loop : goal.invariant-loop
invariant-loop g l = record {
  rest : trim_by (is_yielded_by (sought_of l.self)) l.lines.items ≡ trim_by (is_yielded_by (sought_of l.self)) l.fn.lines.items;
  same : l.net.valid ≡ l.fn.net.valid;
  stands : Stands l.self.valid.now.view l.self.given.now [] (map (λ b. (goal.Component-dyn g (b.vtable, b.value)).program b.value) l.net.shells.items) (map (λ b. (goal.Component-dyn g (b.vtable, b.value)).kept b.value) l.net.shells.items) l.net.books;
  kinds : map (λ b. (goal.Component-dyn g (b.vtable, b.value)).kind b.value) l.net.shells.items ≡ map (λ b. (goal.Component-dyn g (b.vtable, b.value)).kind b.value) l.fn.net.shells.items;
}

abbrev pub decreases-loop : goal.decreases-loop
decreases-loop g l = length l.lines.items
