use Rattle.std.proofs.Common.{◌∙◌, ap, slice_set}
use Rattle.std.proofs.lemmas.List.{map-set}
use Rattle.bloom_eval.specs.Code.Held.{rows_in, sets_in}
use Rattle.bloom_eval.proofs.rows.take_rows.Goals as goal

pub returns-clause-left : goal.returns-clause-left
returns-clause-left c =
    map-set rows_in c.args.held.now.items c.args.number c.replace.new.dest
    ∙ ap (slice_set (sets_in c.args.held.now.items) c.args.number) (ap rows_in c.replace.ensures.after ∙ c.new.ensures)
