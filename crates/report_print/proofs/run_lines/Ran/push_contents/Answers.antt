use Rattle.std.proofs.Common.{◌++◌, ◌∙◌, ap}
use Rattle.blz_set.specs.References.{shown}
use Rattle.report_print.specs.RunText.{rows_lines}
use Rattle.report_print.proofs.run_lines.Ran.push_contents.Goals as goal

pub returns : goal.returns
returns g c given steps stand =
    c.in_ok-push_rows_of.ensures
    ∙ ap (λ rows. c.args.text.now.items ++ rows_lines c.args.self.now.valid.now.view c.args.stream c.args.replica rows) (ap shown c.deref.ensures.value ∙ c.in_ok-rows.ensures given steps stand)
