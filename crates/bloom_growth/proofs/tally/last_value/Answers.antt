use Rattle.std.proofs.Common.{◌≡◌, List, sym, ap}
use Rattle.blz_value.specs.declared.value.Value.{Value}
use Rattle.blz_value.specs.Groups.{greatest}
use Rattle.blz_value.specs.Value.{value_cmp}
use Rattle.bloom_growth.specs.Counts.{AreCounted}
use Rattle.bloom_growth.proofs.CountsLemmas.{not_some}
use Rattle.bloom_growth.proofs.TalliesLemmas.{on_copy, last_greatest, no_values}
use Rattle.bloom_growth.proofs.tally.last_value.Goals as goal

pub returns-in-Some : goal.returns-in-Some
returns-in-Some c =
    let values = c.args.values.now in
    on_copy c.copy.result (λ (value : Value). (all : List Value) → AreCounted value_cmp all values → value ≡ greatest all) c.in-Some.value.now c.copy.ensures
    (λ all are. last_greatest all values are c.in-Some.value.now c.in-Some.field-0-1.now c.in-Some.ensures.value c.in-Some.ensures.greatest)

pub returns-in-None : goal.returns-in-None
returns-in-None c = λ all are. sym (ap greatest (no_values all c.args.values.now are (λ some. not_some c.last_key_value.result c.in-None.is (c.last_key_value.ensures.variant.1 some))))
