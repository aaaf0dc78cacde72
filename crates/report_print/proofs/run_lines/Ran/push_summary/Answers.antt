use Rattle.std.proofs.Common.{◌++◌, ◌∙◌, ap, map}
use Rattle.blz_value.specs.NumberSets.{below}
use Rattle.topo_forms.specs.View.{stream_replicas}
use Rattle.sched_net.specs.Net.{execution_in}
use Rattle.report_lines.specs.Lines.{word_text}
use Rattle.report_print.specs.SoakText.{count_word}
use Rattle.report_lines.specs.Words.{line}
use Rattle.report_print.proofs.run_lines.Ran.push_summary.Goals as goal

pub returns : goal.returns
returns g c given steps stand =
    let v = c.args.self.now.valid.now.view in
    c.in_ok-push_line.ensures
    ∙ ap (λ words. c.args.text.now.items ++ line (map word_text words)) c.deref.ensures.value
    ∙ ap (λ words. c.args.text.now.items ++ line words)
    (c.in_ok-push_counts.ensures given steps stand
    ∙ ap (λ words. words ++ map (count_word v given (execution_in stand) c.args.stream) (below (stream_replicas v c.args.stream))) c.in_ok-words.ensures)
