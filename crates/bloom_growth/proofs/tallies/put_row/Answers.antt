use Rattle.std.proofs.Common.{◌≡◌, ◌<◌, ◌∙◌, [], List, cond, length, Option, None, Some, ap, subst, arith, rules}
use Rattle.std.specs.Ordering.{eq_by_cmp}
use Rattle.std.specs.Map.{lookup}
use Rattle.blz_value.specs.Record.{Row, record_cmp}
use Rattle.bloom_growth.specs.declared.tallies.Step.{Step}
use Rattle.bloom_growth.specs.declared.tally.Tally.{Tally}
use Rattle.bloom_growth.specs.TurningGroups.{tally_at}
use Rattle.bloom_growth.specs.Code.Tallies.{StepsAt}
use Rattle.blz_set.specs.RecordSet.{row_limit}
use Rattle.bloom_growth.proofs.TurningLemmas.{first_at}
use Rattle.bloom_growth.proofs.tallies.put_row.Goals as goal

pub returns-in_ok-insert-in-None-clause-goes : goal.returns-in_ok-insert-in-None-clause-goes
returns-in_ok-insert-in-None-clause-goes c =
    let old = c.args.tallies.now in
    let middle = c.step_at.new.tallies in
    let key = c.args.key.now in
    let row = c.args.row.now in
    let one = c.put.new.self in
    let none : c.in_ok-step.field-0 ≡ None = search rules in
    let same = subst (λ (step : Option Step). StepsAt step c.args.agg key row old middle) none c.in_ok-step.ensures in
    let few : length {A = Row} [] < row_limit = omega arith in
    first_at c.args.agg key row old c.insert.new.self one same.1
    (λ q. c.in_ok-insert-in-None.ensures.updates.0 q ∙ ap (λ (k : Row). cond (eq_by_cmp record_cmp k q) (Some one) (tally_at middle q)) c.in_ok-copy-in-None.ensures
    ∙ ap (λ (es : List (Row × Tally)). cond (eq_by_cmp record_cmp key q) (Some one) (lookup (eq_by_cmp record_cmp q) es)) same.0)
    (c.in_ok-put-in-None.ensures [] few c.none-one.ensures)
