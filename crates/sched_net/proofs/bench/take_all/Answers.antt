use Rattle.std.proofs.Common.{[], ◌∷◌, get_or, length, length-append, arith, ap}
use Rattle.blz_value.proofs.Membership.{Has-get_or}
use Rattle.sched_net.proofs.TakingLemmas.{never_none, taken_by_one, left_by_one, none_short_by, one_less_by}
use Rattle.sched_net.proofs.bench.take_all.Goals as goal

pub body_of-requires-clause-there : goal.body_of-requires-clause-there
body_of-requires-clause-there g c = c.requires.there (get_or c.args.wanted.now c.loop-component.component-index 0) (Has-get_or c.args.wanted.now c.loop-component.component-index 0 c.loop-component-test.true)

pub body_of-requires-clause-body : goal.body_of-requires-clause-body
body_of-requires-clause-body g c = c.requires.bodies (get_or c.args.wanted.now c.loop-component.component-index 0) (Has-get_or c.args.wanted.now c.loop-component.component-index 0 c.loop-component-test.true)

pub unreachable-requires : goal.unreachable-requires
unreachable-requires g c =
    never_none c.args.valid.now.view (λ b. (goal.Component-dyn g (b.vtable, b.value)).kind b.value) c.args.wanted.now c.loop-component.component-index c.body_of.result.now c.loop-component-test.true c.body_of.ensures.program
    c.loop-component.bench.items c.take_first.result c.loop-component.invariant.enough c.in_default.is c.in_default.ensures.taken

pub loop-component-preserved : goal.loop-component-preserved
loop-component-preserved g c = record {
  space = omega (arith, c.push_reserved.ensures.capacity, c.loop-component.invariant.space);
  count = omega (arith, ap (λ l. length l) c.push_reserved.ensures.items, length-append c.loop-component.shells.items (c.in-Some.shell ∷ []), c.loop-component.invariant.count);
  taken = taken_by_one c.args.valid.now.view (λ b. (goal.Component-dyn g (b.vtable, b.value)).kind b.value) c.args.wanted.now c.loop-component.component-index c.body_of.result.now c.loop-component-test.true c.body_of.ensures.program
      _ c.loop-component.shells.items c.push_reserved.new.self.items c.loop-component.bench.items c.take_first.new.bench.items c.in-Some.shell
      c.loop-component.invariant.taken c.in-Some.ensures.taken c.in-Some.ensures.left c.push_reserved.ensures.items;
  left = left_by_one c.args.valid.now.view (λ b. (goal.Component-dyn g (b.vtable, b.value)).kind b.value) c.args.wanted.now c.loop-component.component-index c.body_of.result.now c.loop-component-test.true c.body_of.ensures.program
      _ c.loop-component.bench.items c.take_first.new.bench.items c.loop-component.invariant.left c.in-Some.ensures.left;
  enough = none_short_by c.args.valid.now.view (λ b. (goal.Component-dyn g (b.vtable, b.value)).kind b.value) c.args.wanted.now c.loop-component.component-index c.body_of.result.now c.loop-component-test.true c.body_of.ensures.program
      c.loop-component.bench.items c.take_first.new.bench.items c.loop-component.invariant.enough c.in-Some.ensures.left;
  room = omega (arith, c.in-Some.ensures.room, c.loop-component.invariant.room);
  all = omega (
    arith,
    c.loop-component.invariant.all,
    ap (λ l. length l) c.push_reserved.ensures.items,
    length-append c.loop-component.shells.items (c.in-Some.shell ∷ []),
    one_less_by c.args.valid.now.view (λ b. (goal.Component-dyn g (b.vtable, b.value)).kind b.value) c.args.wanted.now c.loop-component.component-index c.body_of.result.now c.loop-component-test.true c.body_of.ensures.program
        c.loop-component.bench.items c.take_first.new.bench.items c.loop-component.invariant.enough c.in-Some.ensures.left,
  );
}
