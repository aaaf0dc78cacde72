use Rattle.std.proofs.Common.{◌≡◌, ℕ, List, Bool, length, ap, sym, refl, ◌∙◌, replicate, true, get_or}
use Rattle.std.proofs.lemmas.List.{length-replicate}
use Rattle.blz_value.proofs.Membership.{Has-get_or}
use Rattle.sched_net.specs.Bench.{fits_component, first_short, fault_of_short}
use Rattle.sched_net.proofs.TakingLemmas.{all_flagged, claimed_length, goes_on_by, ends_by}
use Rattle.sched_net.proofs.bench.check_all.Goals as goal

pub loop-i-init : goal.loop-i-init
loop-i-init g c =
    let n : ℕ = length c.args.bench.now in
    let free : c.in_ok-free.free.items ≡ replicate n true = c.in_ok-free.ensures in
    record {
      flags = rw free (length-replicate n true);
      so_far = ap (first_short (fits_component c.args.valid.now.view (λ b. (goal.Component-dyn g (b.vtable, b.value)).kind b.value)) c.args.wanted.now) (sym (rw free (all_flagged n c.args.bench.now refl)));
    }

pub body_of-requires-clause-there : goal.body_of-requires-clause-there
body_of-requires-clause-there g c = c.requires.there (get_or c.args.wanted.now c.loop-i.i 0) (Has-get_or c.args.wanted.now c.loop-i.i 0 c.loop-i-test.true)

pub body_of-requires-clause-body : goal.body_of-requires-clause-body
body_of-requires-clause-body g c = c.requires.bodies (get_or c.args.wanted.now c.loop-i.i 0) (Has-get_or c.args.wanted.now c.loop-i.i 0 c.loop-i-test.true)

pub returns-then-not-claim : goal.returns-then-not-claim
returns-then-not-claim g c =
    ap fault_of_short
    (c.loop-i.invariant.so_far
    ∙ ends_by c.args.valid.now.view (λ b. (goal.Component-dyn g (b.vtable, b.value)).kind b.value) c.args.wanted.now c.loop-i.i c.body_of.result.now c.loop-i-test.true c.body_of.ensures.program
    c.args.bench.now c.loop-i.free.items c.in_ok-fit.fit.items c.as_slice.result.now c.claim.result c.in_ok-fit.ensures c.as_slice.ensures.value c.claim.ensures.found c.if-not-claim.true)

pub loop-i-preserved : goal.loop-i-preserved
loop-i-preserved g c = record {
  flags = ap (λ (b : List Bool). length b) c.claim.ensures.flags ∙ claimed_length c.loop-i.free.items c.as_slice.result.now ∙ c.loop-i.invariant.flags;
  so_far =
      c.loop-i.invariant.so_far
      ∙ goes_on_by c.args.valid.now.view (λ b. (goal.Component-dyn g (b.vtable, b.value)).kind b.value) c.args.wanted.now c.loop-i.i c.body_of.result.now c.loop-i-test.true c.body_of.ensures.program
      c.args.bench.now c.loop-i.free.items c.in_ok-fit.fit.items c.as_slice.result.now c.claim.new.free.items c.claim.result c.in_ok-fit.ensures c.as_slice.ensures.value c.claim.ensures.flags c.claim.ensures.found c.if-not-claim.false;
}
