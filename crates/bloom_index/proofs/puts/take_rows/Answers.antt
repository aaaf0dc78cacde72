use Rattle.std.proofs.Common.{◌∙◌, List, slice_set, ap}
use Rattle.std.proofs.lemmas.List.{map-set}
use Rattle.blz_value.specs.Record.{Row}
use Rattle.bloom_parts.specs.declared.change.Change.{Change}
use Rattle.bloom_parts.specs.Turns.{rows_in}
use Rattle.bloom_index.specs.Code.StepSets.{held_sets}
use Rattle.bloom_index.proofs.puts.take_rows.Goals as goal

pub returns-clause-left : goal.returns-clause-left
returns-clause-left c =
    map-set (λ (change : Change). rows_in change.rows) c.args.held.now.items c.args.number c.replace-change.new.dest
    ∙ ap (λ (change : Change). slice_set (held_sets c.args.held.now.items) c.args.number (rows_in change.rows)) c.replace-change.ensures.after
    ∙ ap (λ (rows : List Row). slice_set (held_sets c.args.held.now.items) c.args.number rows) (c.of_set.ensures.rows ∙ c.new.ensures)
