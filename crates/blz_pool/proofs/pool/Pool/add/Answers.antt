use Rattle.std.proofs.Common.{rules, ◌≡◌, ◌∙◌, Some, ap, true}
use Rattle.std.specs.List.{list_any}
use Rattle.std.specs.Ordering.{eq_by_cmp}
use Rattle.std.proofs.lemmas.Option.{slice_get_within}
use Rattle.blz_value.specs.Record.{record_cmp}
use Rattle.blz_pool.specs.Pool.{number_of, with_record}
use Rattle.blz_pool.proofs.Records.{IsPool-with, insert_key-with, list_any-held, number_of-get, number_of-insert, with_record-held, with_record-new}
use Rattle.blz_pool.proofs.pool.Pool.add.Goals as goal
use Rattle.blz_pool.proofs.pool.Pool.add.Goals.{After-new}

-- the set's keys are the records with this one, which stands there at the set's index

keys-with : (c : After-new) → c.insert_full.new.self.keys ≡ with_record c.self.inside.records.keys c.args.row
keys-with c = c.in_ok-number.ensures.keys ∙ insert_key-with c.self.inside.records.keys c.args.row

number-new : (c : After-new) → number_of c.insert_full.new.self.keys c.args.row ≡ Some c.new.result
number-new c =
    ap (λ keys. number_of keys c.args.row) (keys-with c) ∙ number_of-insert c.self.inside.records.keys c.args.row ∙ ap Some (search rules)

pub invariant_of-self-2 : goal.invariant_of-self-2
invariant_of-self-2 c = rw (keys-with c) (IsPool-with c.self.inside.records.keys c.args.row c.self.invariant (search rules))

pub returns-clause-number : goal.returns-clause-number
returns-clause-number c = number-new c

pub returns-clause-record : goal.returns-clause-record
returns-clause-record c = number_of-get c.insert_full.new.self.keys c.args.row c.new.result (number-new c)

pub returns-clause-within : goal.returns-clause-within
returns-clause-within c = slice_get_within c.insert_full.new.self.keys c.new.result c.args.row (returns-clause-record c)

pub returns-clause-list : goal.returns-clause-list
returns-clause-list c = keys-with c ∙ ap (λ records. with_record records c.args.row) c.self.view_is

pub returns-clause-kept : goal.returns-clause-kept
returns-clause-kept c stands = returns-clause-list c ∙ with_record-held c.args.self.now c.args.row stands

pub returns-clause-last : goal.returns-clause-last
returns-clause-last c lacks = returns-clause-list c ∙ with_record-new c.args.self.now c.args.row lacks

pub returns-in_err-number-clause-held : goal.returns-in_err-number-clause-held
returns-in_err-number-clause-held c stands =
    let held : list_any (eq_by_cmp record_cmp c.args.row) c.args.self.now ≡ true = list_any-held c.args.self.now c.args.row stands in
    let absent = c.in_err-number.ensures.absent in
    search rules
