use Rattle.std.proofs.Common.{◌∙◌, sym, subst}
use Rattle.bloom_forms.specs.declared.module.Kind.TheVariants.{Table}
use Rattle.bloom_forms.specs.Program.{columns_of_kind}
use Rattle.bloom_forms.specs.Step.{Sets}
use Rattle.bloom_forms.specs.Widths.{AreSetsOf}
use Rattle.bloom_eval.proofs.EmptyTables.{empties_wide}
use Rattle.blz_boxes.proofs.Tables.{emptied_same}
use Rattle.blz_boxes.proofs.plain.PlainBody.clear.Goals as goal

pub invariant_of-self : goal.invariant_of-self
invariant_of-self c =
    let columns = columns_of_kind Table c.args.self.now.program.form.collections in
    record { tables = subst (λ (sets : Sets). AreSetsOf columns sets) (sym (c.clear.ensures ∙ emptied_same columns c.args.self.now.kept c.args.self.now.tables)) (empties_wide columns) }

pub returns-clause-kept : goal.returns-clause-kept
returns-clause-kept c = c.clear.ensures ∙ emptied_same (columns_of_kind Table c.args.self.now.program.form.collections) c.args.self.now.kept c.args.self.now.tables
