use Rattle.std.proofs.Common.{◌∙◌, get_or, map, Some, ap}
use Rattle.std.specs.Option.{option_map}
use Rattle.blz_value.proofs.Membership.{Has-get_or}
use Rattle.bloom_eval.specs.Kind.{kind_of}
use Rattle.bloom_eval.specs.Step.{nothing_kept}
use Rattle.topo_forms.specs.View.{program_of}
use Rattle.sched_net.proofs.TakingLemmas.{kind_by_place, as_many, one_more, all_done}
use Rattle.sched_net.proofs.bench.load_all.Goals as goal

pub body_of-program-requires-clause-there : goal.body_of-program-requires-clause-there
body_of-program-requires-clause-there g c = c.requires.there (get_or c.args.wanted.now c.loop-i.i 0) (Has-get_or c.args.wanted.now c.loop-i.i 0 c.loop-i-test.true)

pub body_of-program-requires-clause-body : goal.body_of-program-requires-clause-body
body_of-program-requires-clause-body g c = c.requires.bodies (get_or c.args.wanted.now c.loop-i.i 0) (Has-get_or c.args.wanted.now c.loop-i.i 0 c.loop-i-test.true)

pub load_at-requires-clause-fits : goal.load_at-requires-clause-fits
load_at-requires-clause-fits g c d =
    kind_by_place c.args.valid.now.view (λ b. (goal.Component-dyn g (b.vtable, b.value)).kind b.value) c.args.wanted.now c.loop-i.shells.items c.args.shells.now.items c.loop-i.i c.body_of-program.result.now d
    c.loop-i.invariant.kinds c.requires.fit c.loop-i-test.true c.body_of-program.ensures.program

pub loop-i-preserved : goal.loop-i-preserved
loop-i-preserved g c = record {
  kinds = c.in_ok-load_at.ensures.kinds ∙ c.loop-i.invariant.kinds;
  loaded = one_more (program_of c.args.valid.now.view) c.args.wanted.now c.loop-i.i (map (λ b. (goal.Component-dyn g (b.vtable, b.value)).program b.value) c.loop-i.shells.items) (map (λ b. (goal.Component-dyn g (b.vtable, b.value)).program b.value) c.load_at.new.shells.items) (Some c.body_of-program.result.now)
      c.loop-i.invariant.loaded c.in_ok-load_at.ensures.loaded c.body_of-program.ensures.program c.loop-i-test.true
      (as_many (λ b. (goal.Component-dyn g (b.vtable, b.value)).kind b.value) (λ b. (goal.Component-dyn g (b.vtable, b.value)).program b.value) (λ n. option_map kind_of (program_of c.args.valid.now.view n)) c.args.wanted.now c.loop-i.shells.items c.args.shells.now.items c.loop-i.invariant.kinds c.requires.fit);
  kept = one_more (λ n. nothing_kept (program_of c.args.valid.now.view n)) c.args.wanted.now c.loop-i.i (map (λ b. (goal.Component-dyn g (b.vtable, b.value)).kept b.value) c.loop-i.shells.items) (map (λ b. (goal.Component-dyn g (b.vtable, b.value)).kept b.value) c.load_at.new.shells.items) (nothing_kept (Some c.body_of-program.result.now))
      c.loop-i.invariant.kept c.in_ok-load_at.ensures.kept (ap nothing_kept c.body_of-program.ensures.program) c.loop-i-test.true
      (as_many (λ b. (goal.Component-dyn g (b.vtable, b.value)).kind b.value) (λ b. (goal.Component-dyn g (b.vtable, b.value)).kept b.value) (λ n. option_map kind_of (program_of c.args.valid.now.view n)) c.args.wanted.now c.loop-i.shells.items c.args.shells.now.items c.loop-i.invariant.kinds c.requires.fit);
}

pub returns-clause-kept : goal.returns-clause-kept
returns-clause-kept g c =
    all_done (λ n. nothing_kept (program_of c.args.valid.now.view n)) c.args.wanted.now c.loop-i.i (map (λ b. (goal.Component-dyn g (b.vtable, b.value)).kept b.value) c.loop-i.shells.items) c.loop-i.invariant.kept c.loop-i-test.false
    (as_many (λ b. (goal.Component-dyn g (b.vtable, b.value)).kind b.value) (λ b. (goal.Component-dyn g (b.vtable, b.value)).kept b.value) (λ n. option_map kind_of (program_of c.args.valid.now.view n)) c.args.wanted.now c.loop-i.shells.items c.args.shells.now.items c.loop-i.invariant.kinds c.requires.fit)
