use Rattle.std.proofs.Common.{◌≡◌, true, false, rules}
use Rattle.std.specs.Ordering.{eq_by_cmp}
use Rattle.blz_value.specs.Record.{record_cmp}
use Rattle.bloom_growth.proofs.TurnedLemmas.{exchanged, unexchanged}
use Rattle.bloom_growth.proofs.turn.exchange.Goals as goal

pub returns-then-eq : goal.returns-then-eq
returns-then-eq c =
    let same : eq_by_cmp record_cmp c.args.old c.args.new ≡ true = search rules in
    unexchanged c.args.old c.args.new _ _ same (search rules) (search rules)

pub returns : goal.returns
returns c =
    let different : eq_by_cmp record_cmp c.args.old c.args.new ≡ false = search rules in
    exchanged c.args.old c.args.new _ _ different c.in_ok-more.ensures.0 c.in_ok-gone.ensures.0
