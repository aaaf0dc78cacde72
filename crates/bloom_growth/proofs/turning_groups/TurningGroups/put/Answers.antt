use Rattle.std.proofs.Common.{◌≡◌, ◌∙◌, ℕ, List, ap}
use Rattle.blz_value.specs.Operators.{cells}
use Rattle.bloom_growth.proofs.TurningLemmas.{tallied_more}
use Rattle.bloom_growth.proofs.turning_groups.TurningGroups.put.Goals as goal

pub returns-clause-tallied : goal.returns-clause-tallied
returns-clause-tallied c = λ rows sorted few lacks are.
    let old = c.args.self.now in
    let row = c.args.row.now in
    let key : c.in_ok-key.key ≡ cells old.keys.items row = c.in_ok-key.ensures ∙ ap (λ (l : List ℕ). cells l row) c.deref.ensures.value in
    tallied_more old.keys.items old.agg row rows sorted few lacks c.in_ok-key.key key old.tallies c.put_row.new.tallies c.in_ok-put_row.ensures.goes are
