use Rattle.std.proofs.Common.{◌∙◌, true, IsTrue, List, rules, ap, sym, subst}
use Rattle.blz_value.specs.Record.{Row}
use Rattle.blz_set.specs.Missing.{missing_from}
use Rattle.bloom_growth.specs.ByKey.{AreByKey}
use Rattle.bloom_growth.proofs.KeyedLemmas.{less_none}
use Rattle.bloom_growth.proofs.by_key.SideRowsByKey.shrink.Goals as goal

pub returns-clause-rows : goal.returns-clause-rows
returns-clause-rows c = λ rows sorted none side.
    let grows : IsTrue true = search rules in
    let own = c.args.self.now in
    subst (λ (l : List Row). AreByKey own.columns.items l own.sets) (sym (ap (λ (l : List Row). missing_from l rows) (none grows) ∙ less_none rows sorted)) side
