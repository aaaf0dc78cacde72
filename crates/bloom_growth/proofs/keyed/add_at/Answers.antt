use Rattle.std.proofs.Common.{◌∙◌, ◌∷◌, ap, rules}
use Rattle.blz_value.specs.Record.{Row}
use Rattle.blz_value.specs.Sets.{set_of}
use Rattle.bloom_growth.proofs.SidesLemmas.{adds_at, none_lost_more}
use Rattle.bloom_growth.proofs.keyed.add_at.Goals as goal

pub returns-in_ok-insert-in-Some-clause-none : goal.returns-in_ok-insert-in-Some-clause-none
returns-in_ok-insert-in-Some-clause-none c =
    let set = c.in-Some.set.now in
    let next = c.insert.new.self in
    none_lost_more c.args.key.now c.args.row.now c.args.sets.now (c.get_mut.follows.lender next) set next c.in-Some.ensures.value ((c.get_mut.follows.holds next).3 (search rules)).0
    (c.in_ok-insert-in-Some.ensures.rows ∙ ap (λ (r : Row). set_of (r ∷ set)) c.in_ok-copy-in-Some.ensures)

pub returns-in_ok-insert-in-Some-clause-added : goal.returns-in_ok-insert-in-Some-clause-added
returns-in_ok-insert-in-Some-clause-added c =
    let set = c.in-Some.set.now in
    let next = c.insert.new.self in
    adds_at c.args.key.now c.args.row.now c.args.sets.now (c.get_mut.follows.lender next) set next c.in-Some.ensures.value ((c.get_mut.follows.holds next).3 (search rules)).0
    (c.in_ok-insert-in-Some.ensures.rows ∙ ap (λ (r : Row). set_of (r ∷ set)) c.in_ok-copy-in-Some.ensures)
