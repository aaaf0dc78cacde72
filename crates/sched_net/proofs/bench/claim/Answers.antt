use Rattle.std.proofs.Common.{◌≡◌, true, false, get_or, sym, ◌∙◌, arith}
use Rattle.std.proofs.Math.ListN.{set}
use Rattle.std.proofs.lemmas.Grind.{common_steps}
use Rattle.sched_net.specs.Code.Flags.{claimed, may_claim}
use Rattle.sched_net.proofs.TakingLemmas.{claims_at, claims_none}
use Rattle.sched_net.proofs.bench.claim.Goals as goal
use Rattle.sched_net.proofs.bench.claim.Goals.{After-free-1}

found_here : (c : After-free-1) → (set c.args.free.now.items c.loop-i.i false ≡ claimed c.args.free.now.items c.args.fit.now) × (may_claim c.args.free.now.items c.args.fit.now ≡ true)
found_here c =
    let is_free : get_or c.args.free.now.items c.loop-i.i false ≡ true = grind (arith, common_steps) in
    let is_fit : get_or c.args.fit.now c.loop-i.i false ≡ true = grind (arith, common_steps) in
    claims_at c.args.free.now.items c.args.fit.now c.loop-i.i (omega (arith, c.requires)) c.loop-i-test.true c.loop-i.invariant.none is_free is_fit

pub returns-then-fit-i-clause-flags : goal.returns-then-fit-i-clause-flags
returns-then-fit-i-clause-flags c = rw c.loop-i.invariant.same (found_here c).0

pub returns-then-fit-i-clause-found : goal.returns-then-fit-i-clause-found
returns-then-fit-i-clause-found c = sym (found_here c).1

pub returns-clause-flags : goal.returns-clause-flags
returns-clause-flags c =
    c.loop-i.invariant.same ∙ (claims_none c.args.free.now.items c.args.fit.now (sym c.requires) (λ k below. c.loop-i.invariant.none k (omega (arith, c.requires)))).0

pub returns-clause-found : goal.returns-clause-found
returns-clause-found c =
    sym (claims_none c.args.free.now.items c.args.fit.now (sym c.requires) (λ k below. c.loop-i.invariant.none k (omega (arith, c.requires)))).1
