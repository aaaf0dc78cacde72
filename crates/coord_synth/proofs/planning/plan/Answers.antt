-- After planning every stream is coordinated.
use Rattle.std.proofs.Common.{◌≡◌, sym, subst}
use Rattle.std.proofs.lemmas.Result.{IfOk-weaker}
use Rattle.coord_synth.specs.Laws.{AreCoordinated}
use Rattle.coord_modes.specs.Plan.{planned}
use Rattle.coord_synth.proofs.PlanLaw.{after_planning}
use Rattle.coord_synth.proofs.planning.plan.Goals as goal

pub returns-clause-coordinated : goal.returns-clause-coordinated
returns-clause-coordinated c = IfOk-weaker c.planned_by.result (λ p. p.view ≡ planned c.args.valid.now.view) (λ p. AreCoordinated p.view)
    (λ p is. subst AreCoordinated (sym is) (after_planning c.args.valid.now.view c.known.ensures)) c.planned_by.ensures.view
