-- One column more may hold anything.
use Rattle.std.proofs.Common.{ℕ, List, [], ◌∷◌, ◌++◌, ap, sym, ◌∙◌}
use Rattle.std.proofs.lemmas.List.{map_more}
use Rattle.topo_forms.specs.declared.topology.ColumnType.{ColumnType}
use Rattle.topo_forms.specs.declared.topology.ColumnType.TheVariants.{Any}
use Rattle.topo_read.proofs.entries.any_types.Goals as goal

pub loop-column-preserved : goal.loop-column-preserved
loop-column-preserved c =
    c.in_ok-push.ensures.items
    ∙ ap (λ (types : List ColumnType). types ++ Any ∷ []) c.loop-column.invariant
    ∙ sym (map_more (λ (column : List ℕ). Any) c.args.columns.now c.loop-column._column-index [] c.loop-column-test.true)
