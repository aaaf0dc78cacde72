use Rattle.topo_forms.specs.Valid.{Validated}
use Rattle.blazes_commands.proofs.Labels.BuiltInLemmas.{count_lost, count_planned, count_stops}
use Rattle.blazes_commands.proofs.label_calls.built_in.planned_count.Goals as goal

pub returns-in_err-written-clause-ran : goal.returns-in_err-written-clause-ran
returns-in_err-written-clause-ran c = count_stops (λ (valid : Validated). valid) (λ (valid : Validated). valid.view) c.from_residual.result c.in_err-written.field-0.0 c.from_residual.ensures.1 c.in_err-written.ensures

pub returns-in_err-plan-clause-ran : goal.returns-in_err-plan-clause-ran
returns-in_err-plan-clause-ran c = count_lost (λ (valid : Validated). valid.view) c.from_residual-in_err-plan.result c.from_residual-in_err-plan.ensures.1

pub returns-clause-ran : goal.returns-clause-ran
returns-clause-ran c = count_planned (λ (valid : Validated). valid) (λ (valid : Validated). valid.view) c.in_ok-written.written c.in_ok-plan.field-0 c.in_ok-written.ensures c.in_ok-plan.ensures.view
