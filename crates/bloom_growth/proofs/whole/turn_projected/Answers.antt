use Rattle.std.proofs.Common.{◌≡◌, ◌∙◌, ◌&&◌, false, true, List, sym, subst}
use Rattle.std.proofs.lemmas.Result.{on_ok_weaker}
use Rattle.std.specs.Cmp.{first_so, second_so}
use Rattle.std.specs.List.{list_all}
use Rattle.blz_value.specs.Record.{Row}
use Rattle.bloom_growth.specs.Bags.{IsBag, ColumnsTurn}
use Rattle.bloom_growth.specs.Whole.{keeps_all, ProjectTurn}
use Rattle.bloom_growth.proofs.BagRows.{on_ok}
use Rattle.bloom_growth.proofs.WholeLemmas.{same_counted, old_counted, new_counted}
use Rattle.bloom_growth.proofs.whole.turn_projected.Goals as goal

pub returns-then-is_whole-clause-bag : goal.returns-then-is_whole-clause-bag
returns-then-is_whole-clause-bag c =
    let columns = c.args.columns.now in
    let more = c.args.part.more.now in
    let gone = c.args.part.gone.now in
    let whole : (list_all (keeps_all columns) more && list_all (keeps_all columns) gone) ≡ true = sym c.is_whole.ensures ∙ c.if-is_whole.true in
    on_ok c.turn_whole.result (λ old new t.
    subst (λ (l : List Row). IsBag l c.args.bag.now) (same_counted columns old new more gone t.turned (first_so (list_all (keeps_all columns) more) (list_all (keeps_all columns) gone) whole) (second_so (list_all (keeps_all columns) more) (list_all (keeps_all columns) gone) whole)) t.stand)

pub returns-then-is_whole-clause-rows : goal.returns-then-is_whole-clause-rows
returns-then-is_whole-clause-rows c = λ old new t.
    let columns = c.args.columns.now in
    let more = c.args.part.more.now in
    let gone = c.args.part.gone.now in
    let whole : (list_all (keeps_all columns) more && list_all (keeps_all columns) gone) ≡ true = sym c.is_whole.ensures ∙ c.if-is_whole.true in
    c.turn_whole.ensures old new (record {
      turned = t.turned;
      few_old = t.few_old;
      few_new = t.few_new;
      wide = t.wide;
      more_whole = first_so (list_all (keeps_all columns) more) (list_all (keeps_all columns) gone) whole;
      gone_whole = second_so (list_all (keeps_all columns) more) (list_all (keeps_all columns) gone) whole;
    })

pub returns-clause-bag : goal.returns-clause-bag
returns-clause-bag c =
    let columns = c.args.columns.now in
    let more = c.args.part.more.now in
    let gone = c.args.part.gone.now in
    let some : (list_all (keeps_all columns) more && list_all (keeps_all columns) gone) ≡ false = sym c.is_whole.ensures ∙ c.if-is_whole.false in
    on_ok_weaker c.turn_columns.result (λ k old new t.
    subst (λ (l : List Row). IsBag l c.turn_columns.new.self) (sym (new_counted columns old new more gone t.turned t.wide.width t.wide.wide some)) (k old new (record {
      turned = t.turned;
      few_old = t.few_old;
      few_new = t.few_new;
      stand = subst (λ (l : List Row). IsBag l c.args.bag.now) (old_counted columns old new more gone t.turned t.wide.width t.wide.wide some) t.stand;
    }))) c.turn_columns.ensures.bag

pub returns-clause-rows : goal.returns-clause-rows
returns-clause-rows c = λ old new t.
    let columns = c.args.columns.now in
    let more = c.args.part.more.now in
    let gone = c.args.part.gone.now in
    let some : (list_all (keeps_all columns) more && list_all (keeps_all columns) gone) ≡ false = sym c.is_whole.ensures ∙ c.if-is_whole.false in
    c.turn_columns.ensures.rows old new (record {
      turned = t.turned;
      few_old = t.few_old;
      few_new = t.few_new;
      stand = subst (λ (l : List Row). IsBag l c.args.bag.now) (old_counted columns old new more gone t.turned t.wide.width t.wide.wide some) t.stand;
    })
