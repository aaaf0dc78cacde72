use Rattle.std.proofs.Common.{◌≡◌, ◌∙◌, None, ap, sym, subst}
use Rattle.blz_pool.specs.Entries.{entries_with_ids}
use Rattle.bloom_forms.specs.Form.{Accepted}
use Rattle.bloom_forms.specs.Step.{Sets}
use Rattle.bloom_eval.specs.Arrivals.{timestep_of}
use Rattle.bloom_eval.specs.StepAnswers.{AllFit, counted_sets}
use Rattle.bloom_index.specs.Code.Kept.{tables_in, kept_tables}
use Rattle.bloom_index.proofs.BodyLemmas.{kept_wide}
use Rattle.bloom_index.proofs.body.IndexBody.step_parts.Goals as goal

pub returns-in_err-make_parts-clause-wide : goal.returns-in_err-make_parts-clause-wide
returns-in_err-make_parts-clause-wide c = kept_wide c.make_parts.new.self.program c.make_parts.new.self.parts c.make_parts.new.self.stands

pub returns-in-Err-clause-wide : goal.returns-in-Err-clause-wide
returns-in-Err-clause-wide c = kept_wide c.make_parts.new.self.program None tt

pub returns-clause-few : goal.returns-clause-few
returns-clause-few c =
    let a = c.args.self.now.program in
    let own = c.make_parts.new.self.program in
    let kept = kept_tables a c.args.self.now.parts in
    let now = timestep_of c.args.ports (entries_with_ids c.args.pool.now c.args.entries.now) in
    let same : tables_in own c.in-Some.parts.rows.items ≡ kept = ap (kept_tables own) (sym c.in-Some.is) ∙ c.make_parts.ensures.kept in
    subst (λ (b : Accepted). AllFit (counted_sets b kept now)) c.make_parts.ensures.program
    (subst (λ (tables : Sets). AllFit (counted_sets own tables now)) same c.in_default-done.ensures.few)
