-- The names stand between brackets.
use Rattle.std.proofs.Common.{ap, ◌∙◌, ◌++◌, codes, append_assoc, sym}
use Rattle.bloom_parse.specs.Layout.{text_of}
use Rattle.bloom_parse.specs.Code.Printing.{names_text}
use Rattle.bloom_parse.proofs.Printed.PrintLemmas.{keys_written}
use Rattle.bloom_parse.proofs.printer.push_keys.Goals as goal

pub returns : goal.returns
returns c =
    let old = c.args.into.now.items in
    let names = text_of (names_text c.args.keys.now) in
    c.in_ok-push-2.ensures.items
    ∙ ap (λ bytes. bytes ++ codes "]") (c.in_ok-push_names.ensures ∙ ap (λ bytes. bytes ++ names) (c.in_ok-push.ensures.items))
    ∙ append_assoc (old ++ codes "[") names (codes "]")
    ∙ append_assoc old (codes "[") (names ++ codes "]")
    ∙ ap (λ bytes. old ++ bytes) (sym (keys_written c.args.keys.now))
