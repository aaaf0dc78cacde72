use Rattle.std.proofs.Common.{◌≡◌, ◌-◌, length, refl, rules}
use Rattle.std.specs.declared.cmp.Ordering.TheVariants.{Less}
use Rattle.blz_value.specs.Record.{record_cmp}
use Rattle.blz_set.proofs.Places.{search_tests, search_gap, end_tests, end_gap, less_is}
use Rattle.blz_set.proofs.place.place.Goals as goal

pub returns-in-Some-clause-test : goal.returns-in-Some-clause-test
returns-in-Some-clause-test c =
    let less : record_cmp c.in-Some.last.now c.args.row.now ≡ Less = less_is _ (search rules) in
    end_tests c.args.row.now c.in-Some.last.now less c.args.rows.now (length c.args.rows.now - 1) c.in-Some.ensures.value refl c.requires

pub returns-in-Some-clause-gap : goal.returns-in-Some-clause-gap
returns-in-Some-clause-gap c =
    let less : record_cmp c.in-Some.last.now c.args.row.now ≡ Less = less_is _ (search rules) in
    end_gap c.args.row.now c.in-Some.last.now less c.args.rows.now (length c.args.rows.now - 1) c.in-Some.ensures.value refl c.requires

pub returns-in_default-clause-test : goal.returns-in_default-clause-test
returns-in_default-clause-test c = search_tests c.args.row.now c.args.rows.now c.requires c.binary_search.result c.binary_search.ensures.bound c.binary_search.ensures.ok c.binary_search.ensures.position

pub returns-in_default-clause-gap : goal.returns-in_default-clause-gap
returns-in_default-clause-gap c = search_gap c.args.row.now c.args.rows.now c.requires c.binary_search.result c.binary_search.ensures.bound c.binary_search.ensures.position
