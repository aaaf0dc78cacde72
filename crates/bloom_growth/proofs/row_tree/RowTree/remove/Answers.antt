use Rattle.std.proofs.Common.{◌∙◌, [], ◌∷◌, ap}
use Rattle.blz_set.specs.Missing.{missing_from}
use Rattle.bloom_growth.proofs.KeyedLemmas.{tree_less}
use Rattle.bloom_growth.proofs.row_tree.RowTree.remove.Goals as goal

pub returns : goal.returns
returns c =
    tree_less c.self.inside.rows.keys c.remove.new.self.keys c.args.row.now c.self.invariant c.remove.ensures.ordered c.remove.ensures.updates.0
    ∙ ap (missing_from (c.args.row.now ∷ [])) c.self.view_is
