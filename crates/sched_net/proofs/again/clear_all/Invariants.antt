-- the shells before this one keep nothing, and each has its kind and its program
use Rattle.std.proofs.Common.{◌≡◌, ◌<◌, ℕ, [], None, get_or, map}
use Rattle.bloom_eval.specs.Step.{nothing_kept}
use Rattle.sched_net.proofs.again.clear_all.Given as goal

abbrev pub invariant-loop-place : goal.invariant-loop-place
invariant-loop-place g l = record {
  kinds : map (λ b. (goal.Component-dyn g (b.vtable, b.value)).kind b.value) l.shells.items ≡ map (λ b. (goal.Component-dyn g (b.vtable, b.value)).kind b.value) l.fn.shells.items;
  loaded : map (λ b. (goal.Component-dyn g (b.vtable, b.value)).program b.value) l.shells.items ≡ map (λ b. (goal.Component-dyn g (b.vtable, b.value)).program b.value) l.fn.shells.items;
  kept : (k : ℕ) → k < l.place → get_or (map (λ b. (goal.Component-dyn g (b.vtable, b.value)).kept b.value) l.shells.items) k [] ≡ nothing_kept (get_or (map (λ b. (goal.Component-dyn g (b.vtable, b.value)).program b.value) l.fn.shells.items) k None);
}
