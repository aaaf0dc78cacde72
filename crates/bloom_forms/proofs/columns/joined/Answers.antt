use Rattle.std.proofs.Common.{◌≡◌, ◌∙◌, ◌++◌, arith}
use Rattle.std.proofs.lemmas.Grind.{common_steps}
use Rattle.bloom_forms.specs.Borrowed.{names_in}
use Rattle.bloom_forms.proofs.Collections.JoinedNames.{others_from, joined-others}
use Rattle.bloom_forms.proofs.columns.joined.Goals as goal

pub returns : goal.returns
returns c =
    let all : names_in c.loop-number.refs.items ≡ names_in c.args.left.items ++ others_from (names_in c.args.right.now) c.args.pairs.now 0 (names_in c.args.right.now) = grind (arith, common_steps) in
    all ∙ joined-others (names_in c.args.left.items) (names_in c.args.right.now) c.args.pairs.now
