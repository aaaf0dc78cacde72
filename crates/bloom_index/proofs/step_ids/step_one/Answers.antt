use Rattle.std.proofs.Common.{◌≡◌, ◌∷◌, [], refl, sym, subst}
use Rattle.blz_pool.specs.Entries.{entries_with_ids}
use Rattle.bloom_forms.specs.declared.module.Kind.TheVariants.{Input}
use Rattle.bloom_forms.specs.Program.{columns_of_kind}
use Rattle.bloom_forms.specs.Step.{Sets}
use Rattle.bloom_forms.specs.Widths.{AreSetsOf}
use Rattle.bloom_eval.specs.Arrivals.{timestep_of}
use Rattle.bloom_index.specs.Code.Kept.{tables_in}
use Rattle.bloom_index.specs.Code.Steps.{StepsTo}
use Rattle.bloom_index.proofs.Arriving.{row_got, one_entry}
use Rattle.bloom_index.proofs.step_ids.step_one.Goals as goal

pub step_arrived-requires-clause-ports : goal.step_arrived-requires-clause-ports
step_arrived-requires-clause-ports c =
    let entry = c.args.entry.now in
    let pool = c.args.pool.now in
    let row = c.get.result.now in
    let same : timestep_of c.args.ports ((entry.0, row) ∷ []) ≡ timestep_of c.args.ports (entries_with_ids pool (entry ∷ [])) = one_entry c.args.ports entry.0 entry.1 pool row (entry ∷ []) refl (row_got pool entry.1 row c.requires.given c.get.ensures.record) in
    subst (λ (now : Sets). AreSetsOf (columns_of_kind Input c.args.program.now.form.collections) now) (sym same) c.requires.ports

pub returns : goal.returns
returns c =
    let entry = c.args.entry.now in
    let pool = c.args.pool.now in
    let row = c.get.result.now in
    let a = c.args.program.now in
    let same : timestep_of c.args.ports ((entry.0, row) ∷ []) ≡ timestep_of c.args.ports (entries_with_ids pool (entry ∷ [])) = one_entry c.args.ports entry.0 entry.1 pool row (entry ∷ []) refl (row_got pool entry.1 row c.requires.given c.get.ensures.record) in
    subst (λ (now : Sets). StepsTo a (tables_in a c.args.parts.now.rows.items) c.step_arrived.new.parts now pool (entry ∷ []) c.step_arrived.new.puts c.step_arrived.result) same c.step_arrived.ensures
