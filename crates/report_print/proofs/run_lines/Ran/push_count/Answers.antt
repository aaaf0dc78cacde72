use Rattle.std.proofs.Common.{◌++◌, ◌∷◌, [], ◌∙◌, ap, map}
use Rattle.std.specs.Fmt.{decimal}
use Rattle.std.proofs.lemmas.List.{map-append}
use Rattle.report_lines.specs.Lines.{word_text}
use Rattle.report_lines.specs.declared.line.Word.TheVariants as word
use Rattle.report_print.proofs.run_lines.Ran.push_count.Goals as goal

pub returns : goal.returns
returns g c given steps stand =
    ap (map word_text) c.in_ok-push.ensures.items
    ∙ map-append word_text c.args.words.now.items (word.Large c.record_count-count.result ∷ [])
    ∙ ap (λ n. map word_text c.args.words.now.items ++ decimal n ∷ []) (c.record_count-count.ensures given steps stand)
