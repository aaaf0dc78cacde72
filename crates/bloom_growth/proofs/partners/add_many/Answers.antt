use Rattle.std.proofs.Common.{◌≡◌, ◌∙◌, ◌++◌, List, Vec, Global, ap}
use Rattle.blz_value.specs.Record.{Row}
use Rattle.blz_value.specs.Sets.{set_of}
use Rattle.blz_set.proofs.RecordSets.{set_is_set}
use Rattle.bloom_growth.proofs.PartnersLemmas.{none_left}
use Rattle.bloom_growth.proofs.partners.add_many.Goals as goal

pub returns-in_ok-add_rows-clause-set : goal.returns-in_ok-add_rows-clause-set
returns-in_ok-add_rows-clause-set c = set_is_set (c.args.set.now ++ c.replace-many.result.items) c.add_rows.new.set c.in_ok-add_rows.ensures.0 c.in_ok-add_rows.ensures.1

pub returns-in_ok-add_rows-clause-all : goal.returns-in_ok-add_rows-clause-all
returns-in_ok-add_rows-clause-all c =
    let none : c.replace-many.new.dest.items ≡ c.new.result.items = ap (λ (v : Vec Row Global). v.items) c.replace-many.ensures.after in
    let taken : c.replace-many.result.items ≡ c.args.rows.now.items = ap (λ (v : Vec Row Global). v.items) c.replace-many.ensures.value in
    none_left c.args.set.now c.replace-many.result.items c.add_rows.new.set c.replace-many.new.dest.items c.in_ok-add_rows.ensures.0 (none ∙ c.new.ensures.items)
    ∙ ap (λ (l : List Row). set_of (c.args.set.now ++ l)) taken
