use Rattle.std.proofs.Common.{◌≡◌, Err, refl}
use Rattle.bloom_forms.specs.Form.{Accepted}
use Rattle.bloom_forms.specs.Step.{Sets, tables_after, outputs_of}
use Rattle.bloom_eval.specs.declared.fault.StepFault.TheVariants.{TooManyRows}
use Rattle.bloom_eval.specs.StepAnswers.{AllFit, SomeIsOver, counted_sets}
use Rattle.bloom_index.specs.Code.Kept.{tables_in, kept_tables}
use Rattle.bloom_index.proofs.BodyLemmas.{kept_wide, step_moved, step_handed}
use Rattle.bloom_index.proofs.body.IndexBody.step.Goals as goal

pub returns-in_err-parts-clause-wide : goal.returns-in_err-parts-clause-wide
returns-in_err-parts-clause-wide c = kept_wide c.taken.new.self.program c.taken.new.self.parts c.taken.new.self.stands

pub returns-in_err-outs-clause-too_many : goal.returns-in_err-outs-clause-too_many
returns-in_err-outs-clause-too_many c = λ is.
    let a = c.args.self.now.program in
    step_moved (λ (b : Accepted) (kept now : Sets). SomeIsOver (counted_sets b kept now)) a c.taken.new.self.program c.in_ok-parts.parts.rows.items (kept_tables a c.args.self.now.parts) c.args.now.now c.args.now.now c.in_ok-parts.ensures.program c.in_ok-parts.ensures.tables refl
    (c.in_err-outs.ensures.too_many (step_handed _ _ c.from_residual-in_err-outs.result (Err c.in_err-outs.field-0.0) c.in_err-outs.field-0.0 TooManyRows c.from_residual-in_err-outs.ensures.1 is refl))

pub returns-in_err-outs-clause-wide : goal.returns-in_err-outs-clause-wide
returns-in_err-outs-clause-wide c = kept_wide c.taken.new.self.program c.taken.new.self.parts c.taken.new.self.stands

pub returns-in_err-_held-clause-too_many : goal.returns-in_err-_held-clause-too_many
returns-in_err-_held-clause-too_many c = λ is.
    let a = c.args.self.now.program in
    step_moved (λ (b : Accepted) (kept now : Sets). SomeIsOver (counted_sets b kept now)) a c.taken.new.self.program c.in_ok-parts.parts.rows.items (kept_tables a c.args.self.now.parts) c.args.now.now c.sets.result.now c.in_ok-parts.ensures.program c.in_ok-parts.ensures.tables c.sets.ensures
    (c.in_err-_held.ensures.too_many (step_handed _ _ c.from_residual-in_err-_held.result (Err c.in_err-_held.field-0.0) c.in_err-_held.field-0.0 TooManyRows c.from_residual-in_err-_held.ensures.1 is refl))

pub returns-in_err-_held-clause-wide : goal.returns-in_err-_held-clause-wide
returns-in_err-_held-clause-wide c = kept_wide c.taken.new.self.program c.taken.new.self.parts c.taken.new.self.stands

pub returns-clause-kept : goal.returns-clause-kept
returns-clause-kept c =
    let a = c.args.self.now.program in
    step_moved (λ (b : Accepted) (kept now : Sets). tables_in c.taken.new.self.program c.step.new.parts.rows.items ≡ tables_after b kept now) a c.taken.new.self.program c.in_ok-parts.parts.rows.items (kept_tables a c.args.self.now.parts) c.args.now.now c.sets.result.now c.in_ok-parts.ensures.program c.in_ok-parts.ensures.tables c.sets.ensures
    c.in_ok-_held.ensures.tables

pub returns-clause-outs : goal.returns-clause-outs
returns-clause-outs c =
    let a = c.args.self.now.program in
    step_moved (λ (b : Accepted) (kept now : Sets). c.in_ok-outs.field-0 ≡ outputs_of b kept now) a c.taken.new.self.program c.in_ok-parts.parts.rows.items (kept_tables a c.args.self.now.parts) c.args.now.now c.args.now.now c.in_ok-parts.ensures.program c.in_ok-parts.ensures.tables refl
    c.in_ok-outs.ensures.outs

pub returns-clause-few : goal.returns-clause-few
returns-clause-few c =
    let a = c.args.self.now.program in
    step_moved (λ (b : Accepted) (kept now : Sets). AllFit (counted_sets b kept now)) a c.taken.new.self.program c.in_ok-parts.parts.rows.items (kept_tables a c.args.self.now.parts) c.args.now.now c.sets.result.now c.in_ok-parts.ensures.program c.in_ok-parts.ensures.tables c.sets.ensures
    c.in_ok-_held.ensures.few
