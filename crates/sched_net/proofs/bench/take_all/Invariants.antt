use Rattle.std.proofs.Common.{◌≡◌, ◌+◌, ◌++◌, ◌≤◌, None, drop, length, vec_capacity}
use Rattle.sched_net.specs.Bench.{fits_component, taken_by, left_by, first_short}
use Rattle.sched_net.proofs.bench.take_all.Given as goal

abbrev pub invariant-loop-component : goal.invariant-loop-component
invariant-loop-component g l = record {
  space : length l.wanted ≤ vec_capacity l.shells;
  count : length l.shells.items ≡ l.component-index;
  taken : l.shells.items ++ taken_by (fits_component l.valid.view (λ b. (goal.Component-dyn g (b.vtable, b.value)).kind b.value)) (drop l.component-index l.wanted) l.bench.items
      ≡ taken_by (fits_component l.valid.view (λ b. (goal.Component-dyn g (b.vtable, b.value)).kind b.value)) l.wanted l.fn.bench.items;
  left : left_by (fits_component l.valid.view (λ b. (goal.Component-dyn g (b.vtable, b.value)).kind b.value)) (drop l.component-index l.wanted) l.bench.items
      ≡ left_by (fits_component l.valid.view (λ b. (goal.Component-dyn g (b.vtable, b.value)).kind b.value)) l.wanted l.fn.bench.items;
  enough : first_short (fits_component l.valid.view (λ b. (goal.Component-dyn g (b.vtable, b.value)).kind b.value)) (drop l.component-index l.wanted) l.bench.items ≡ None;
  room : vec_capacity l.bench ≡ vec_capacity l.fn.bench;
  all : length l.bench.items + length l.shells.items ≡ length l.fn.bench.items;
}
