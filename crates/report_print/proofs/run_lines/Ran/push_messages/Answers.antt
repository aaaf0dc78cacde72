use Rattle.std.proofs.Common.{◌++◌, ◌∷◌, [], ◌∙◌, ap, codes}
use Rattle.std.specs.Fmt.{decimal}
use Rattle.report_lines.specs.Words.{line}
use Rattle.report_print.proofs.run_lines.Ran.push_messages.Goals as goal

pub returns : goal.returns
returns g c given steps stand =
    c.in_ok-push_line.ensures ∙ ap (λ n. c.args.text.now.items ++ line (codes "messages" ∷ decimal n ∷ [])) (c.message_count-count.ensures given steps stand)
