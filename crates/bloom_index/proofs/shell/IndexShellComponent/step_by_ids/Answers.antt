use Rattle.std.proofs.Common.{◌≡◌, [], Option, Err, OnOk, sym, subst}
use Rattle.std.specs.Option.{option_map, option_map_or}
use Rattle.bloom_forms.specs.declared.program.Program.TheVariants.{Module as ModuleProgram}
use Rattle.bloom_eval.specs.declared.fault.StepFault.TheVariants.{TooManyRows}
use Rattle.blz_pool.specs.Entries.{entries_with_ids}
use Rattle.bloom_eval.specs.Arrivals.{timestep_of}
use Rattle.bloom_eval.specs.StepAnswers.{AllFit, SomeIsOver}
use Rattle.bloom_eval.specs.Step.{counted_next}
use Rattle.bloom_index.specs.declared.body.IndexBody.{IndexBody}
use Rattle.bloom_index.specs.Code.Kept.{kept_tables}
use Rattle.bloom_index.proofs.shell.IndexShellComponent.step_by_ids.Goals as goal

pub returns-clause-few : goal.returns-clause-few
returns-clause-few c =
    subst (λ (loaded : Option IndexBody). OnOk c.step_by_ids.result (AllFit (counted_next (option_map (λ body. ModuleProgram body.program) loaded) (option_map_or (λ body. kept_tables body.program body.parts) loaded []) (timestep_of c.args.ports (entries_with_ids c.args.pool.now c.args.entries.now))))) (sym c.in-Some.is)
    c.step_by_ids.ensures.few

pub returns-clause-too_many : goal.returns-clause-too_many
returns-clause-too_many c =
    subst (λ (loaded : Option IndexBody). c.step_by_ids.result ≡ Err TooManyRows → SomeIsOver (counted_next (option_map (λ body. ModuleProgram body.program) loaded) (option_map_or (λ body. kept_tables body.program body.parts) loaded []) (timestep_of c.args.ports (entries_with_ids c.args.pool.now c.args.entries.now)))) (sym c.in-Some.is)
    c.step_by_ids.ensures.too_many
