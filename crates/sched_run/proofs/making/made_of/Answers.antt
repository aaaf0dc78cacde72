use Rattle.std.proofs.Common.{◌∙◌, ap, refl}
use Rattle.sched_run.proofs.MakingTurns.{ready_at, ready_back}
use Rattle.sched_run.proofs.MakingWhole.{goes_first, made_fault, made_whole, stands_whole, turned_first, turned_on}
use Rattle.sched_run.proofs.making.made_of.Goals as goal

pub turn-requires-clause-goes : goal.turn-requires-clause-goes
turn-requires-clause-goes g c = goes_first _ _ (ap (λ valid. valid.now.view) c.loop-making.invariant.valid) c.args.seed _ _ c.loop-making.invariant.loaded _ _ _ _ c.loop-making.making c.loop-making.invariant.turned c.requires

pub turn-requires-clause-ready : goal.turn-requires-clause-ready
turn-requires-clause-ready g c = ready_at _ _ (ap (λ valid. valid.now.view) c.loop-making.invariant.valid) _ c.loop-making.making c.loop-making.invariant.ready

pub loop-making-preserved : goal.loop-making-preserved
loop-making-preserved g c = record {
  turned = turned_on _ _ (ap (λ valid. valid.now.view) c.loop-making.invariant.valid) c.args.seed _ _ c.loop-making.invariant.loaded _ _ _ _ c.loop-making.making c.loop-making.invariant.turned _ _ c.turn.new.self c.turn.result c.turn.ensures.turns c.in_ok-turn.field-0 c.in_ok-turn.was;
  ready = ready_back _ _ (ap (λ valid. valid.now.view) c.loop-making.invariant.valid) _ c.turn.new.self c.in_ok-turn.ensures.ready;
  valid = c.turn.ensures.valid ∙ c.loop-making.invariant.valid;
  kinds = c.turn.ensures.kinds ∙ c.loop-making.invariant.kinds;
  loaded = c.turn.ensures.loaded ∙ c.loop-making.invariant.loaded;
}

pub returns-in_err-turn-clause-made : goal.returns-in_err-turn-clause-made
returns-in_err-turn-clause-made g c =
    made_fault _ _ (ap (λ valid. valid.now.view) c.loop-making.invariant.valid) c.args.seed _ _ c.loop-making.invariant.loaded _ _ _ _ c.loop-making.making c.loop-making.invariant.turned _ _ c.turn.new.self c.turn.result c.turn.ensures.turns _ c.in_err-turn.field-0.0 c.in_err-turn.was c.from_residual-in_err-turn.ensures.1

pub returns-clause-made : goal.returns-clause-made
returns-clause-made g c =
    rw c.into_made.ensures (made_whole _ _ (ap (λ valid. valid.now.view) c.loop-making.invariant.valid) c.args.seed _ _ c.loop-making.invariant.loaded _ _ _ _ c.loop-making.making c.loop-making.invariant.turned c.known.ensures c.loop-making.invariant.ready c.total.result c.total.ensures c.loop-making-test.false)

pub returns-clause-stands : goal.returns-clause-stands
returns-clause-stands g c =
    rw c.into_made.ensures (stands_whole _ _ (ap (λ valid. valid.now.view) c.loop-making.invariant.valid) c.args.seed _ _ c.loop-making.invariant.loaded _ _ _ _ c.loop-making.making c.loop-making.invariant.turned)

pub returns-clause-written : goal.returns-clause-written
returns-clause-written g c = rw c.into_made.ensures c.loop-making.invariant.ready.written

pub loop-making-init : goal.loop-making-init
loop-making-init g c = record {
  turned = λ given stands. turned_first _ given c.args.seed _ _ _ c.in_ok-making.making stands c.in_ok-making.ensures.draws c.in_ok-making.ensures.made;
  ready = c.in_ok-making.ensures.ready;
  valid = refl;
  kinds = refl;
  loaded = refl;
}
