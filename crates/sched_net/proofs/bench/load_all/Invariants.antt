use Rattle.std.proofs.Common.{◌≡◌, map, take}
use Rattle.bloom_eval.specs.Step.{nothing_kept}
use Rattle.topo_forms.specs.View.{program_of}
use Rattle.sched_net.proofs.bench.load_all.Given as goal

abbrev pub invariant-loop-i : goal.invariant-loop-i
invariant-loop-i g l = record {
  kinds : map (λ b. (goal.Component-dyn g (b.vtable, b.value)).kind b.value) l.shells.items ≡ map (λ b. (goal.Component-dyn g (b.vtable, b.value)).kind b.value) l.fn.shells.items;
  loaded : take l.i (map (λ b. (goal.Component-dyn g (b.vtable, b.value)).program b.value) l.shells.items) ≡ map (program_of l.valid.view) (take l.i l.wanted);
  kept : take l.i (map (λ b. (goal.Component-dyn g (b.vtable, b.value)).kept b.value) l.shells.items) ≡ map (λ c. nothing_kept (program_of l.valid.view c)) (take l.i l.wanted);
}
