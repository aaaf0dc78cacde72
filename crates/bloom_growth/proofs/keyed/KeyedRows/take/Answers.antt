use Rattle.std.proofs.Common.{◌≡◌, ◌∙◌, ◌∷◌, [], ℕ, List, ap}
use Rattle.blz_value.specs.Operators.{cells}
use Rattle.blz_set.specs.Missing.{missing_from}
use Rattle.bloom_growth.specs.ByKey.{rows_found}
use Rattle.bloom_growth.proofs.KeyedLemmas.{keyed_left}
use Rattle.bloom_growth.proofs.keyed.KeyedRows.take.Goals as goal

pub returns-clause-rows : goal.returns-clause-rows
returns-clause-rows c =
    let old = c.args.self.now in
    let row = c.args.row.now in
    let key : c.in_ok-key.key ≡ cells old.columns.items row = c.in_ok-key.ensures ∙ ap (λ (l : List ℕ). cells l row) c.deref.ensures.value in
    let made : c.remove.new.self ≡ missing_from (row ∷ []) (rows_found old.sets c.in_ok-key.key) = c.remove.ensures ∙ ap (missing_from (row ∷ [])) c.taken-set.ensures.rows in
    keyed_left c.put.result old.columns.items row old.sets c.taken-set.new.self.sets c.put.new.self.sets c.in_ok-key.key c.remove.new.self key made c.taken-set.ensures.none c.taken-set.ensures.left c.put.ensures.rows c.put.ensures.left
