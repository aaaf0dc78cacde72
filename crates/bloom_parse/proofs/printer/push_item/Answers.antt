use Rattle.std.proofs.Common.{ap, ◌∙◌, ◌++◌, codes, append_assoc, sym}
use Rattle.bloom_parse.proofs.Printed.PrintLemmas.{plain_item, renamed_item}
use Rattle.bloom_parse.proofs.printer.push_item.Goals as goal

pub returns-in_ok-push_name-2 : goal.returns-in_ok-push_name-2
returns-in_ok-push_name-2 c =
    let old = c.args.into.now.items in
    let column = c.args.item.now.0 in
    let name = c.args.item.now.1 in
    c.in_ok-push_name-2.ensures
    ∙ ap (λ bytes. bytes ++ name) (c.in_ok-extend_from_slice.ensures.items ∙ ap (λ bytes. bytes ++ codes " as ") (c.in_ok-push_name.ensures))
    ∙ append_assoc (old ++ column) (codes " as ") name
    ∙ append_assoc old column (codes " as " ++ name)
    ∙ ap (λ bytes. old ++ bytes) (sym (renamed_item column name (sym c.equals.ensures.computed ∙ c.if-not-equals.true)))

pub returns-else-not-equals : goal.returns-else-not-equals
returns-else-not-equals c =
    c.in_ok-push_name.ensures
    ∙ ap (λ bytes. c.args.into.now.items ++ bytes) (sym (plain_item c.args.item.now.0 c.args.item.now.1 (sym c.equals.ensures.computed ∙ c.if-not-equals.false)))
