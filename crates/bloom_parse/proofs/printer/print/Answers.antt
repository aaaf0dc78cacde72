use Rattle.std.proofs.Common.{◌≡◌, arith}
use Rattle.std.proofs.lemmas.Grind.{common_steps}
use Rattle.bloom_parse.specs.Layout.{printed}
use Rattle.bloom_parse.proofs.Printed.PrintableLemmas.{checked_text}
use Rattle.bloom_parse.proofs.printer.print.Goals as goal

pub returns-clause-read_again : goal.returns-clause-read_again
returns-clause-read_again c =
    let text : c.push_rules.new.into.items ≡ printed c.args.module.now.form = grind (arith, common_steps) in
    checked_text c.args.module.now.form c.args.module.now.heads c.push_rules.new.into.items c.module-module.ensures.checked text
