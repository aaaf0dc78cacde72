use Rattle.std.proofs.Common.{◌∙◌, ◌+◌, ◌++◌, List, Err, sym, ap, subst, take, drop, map, arith}
use Rattle.blz_value.specs.Operators.{joined}
use Rattle.blz_value.specs.Record.{Row}
use Rattle.blz_value.specs.Sets.{set_of}
use Rattle.blz_set.specs.Growth.{Grows}
use Rattle.blz_set.proofs.Unions.{handed_on}
use Rattle.std.proofs.lemmas.List.{take_all}
use Rattle.bloom_growth.specs.Code.Joins.{turned, turned_rows}
use Rattle.bloom_growth.specs.ByKey.{rows_found}
use Rattle.bloom_growth.proofs.PartnersLemmas.{lefts_agree, flat_map_split, gathered_more, gathered_fault, grown_all}
use Rattle.bloom_growth.proofs.partners.join_to_left.Goals as goal

pub loop-right-init : goal.loop-right-init
loop-right-init g c = record {
  set = c.requires;
  added = λ lefts side. ap (λ (l : List Row). set_of (c.args.set.now ++ l)) c.new-rows.ensures.items;
}

pub loop-right-preserved : goal.loop-right-preserved
loop-right-preserved g c = record {
  set = c.in_ok-add_many.ensures.set;
  added = λ lefts side.
      let pairs = c.args.pairs.now in
      let right = c.right-item.result in
      let sets = (g.S.RowsByKey.kept c.args.side.now).sets in
      let partners = rows_found sets c.in_ok-key.key in
      let found = lefts_agree pairs c.deref.result.now right lefts partners sets (c.deref.ensures.value ∙ c.in_ok-columns.ensures) side (ap (rows_found sets) c.in_ok-key.ensures) in
      c.in_ok-add_many.ensures.all ∙ ap (λ (l : List Row). set_of (c.loop-right.set ++ l)) c.in_ok-push_lefts.ensures
      ∙ gathered_more (turned pairs lefts) c.args.set.now c.loop-right.set c.loop-right.rows.items (map (λ (l : Row). joined pairs l right) partners) c.rows-right-items.result.now c.loop-right.right-index right (omega arith) c.right-item.is (c.loop-right.invariant.added lefts side) (ap (map (λ (l : Row). joined pairs l right)) found);
}

pub returns-in_err-add_many : goal.returns-in_err-add_many
returns-in_err-add_many g c = λ lefts side.
    let pairs = c.args.pairs.now in
    let right = c.right-item.result in
    let i = c.loop-right.right-index in
    let items = c.rows-right-items.result.now in
    let fault = c.in_err-add_many.field-0.0 in
    let sets = (g.S.RowsByKey.kept c.args.side.now).sets in
    let partners = rows_found sets c.in_ok-key.key in
    let found = lefts_agree pairs c.deref.result.now right lefts partners sets (c.deref.ensures.value ∙ c.in_ok-columns.ensures) side (ap (rows_found sets) c.in_ok-key.ensures) in
    let gathered = ap (λ (l : List Row). set_of (c.loop-right.set ++ l)) c.in_ok-push_lefts.ensures ∙ gathered_more (turned pairs lefts) c.args.set.now c.loop-right.set c.loop-right.rows.items (map (λ (l : Row). joined pairs l right) partners) items i right (omega arith) c.right-item.is (c.loop-right.invariant.added lefts side) (ap (map (λ (l : Row). joined pairs l right)) found) in
    subst (Grows c.args.set.now (turned_rows pairs lefts c.args.rights.now) c.add_many.new.set) (sym (handed_on _ c.from_residual-in_err-add_many.result fault c.from_residual-in_err-add_many.ensures.1))
    (gathered_fault c.args.set.now (turned_rows pairs lefts c.args.rights.now) (turned_rows pairs lefts (take (i + 1) items)) (turned_rows pairs lefts (drop (i + 1) items)) (set_of (c.loop-right.set ++ c.push_lefts.new.rows.items)) c.add_many.new.set fault gathered
    (ap (turned_rows pairs lefts) (sym c.rows-right-items.ensures.all) ∙ flat_map_split (turned pairs lefts) (i + 1) items) (λ e. c.in_err-add_many.ensures.too_many (ap Err e)))

pub returns : goal.returns
returns g c = λ lefts side.
    let pairs = c.args.pairs.now in
    let items = c.rows-right-items.result.now in
    let all = c.loop-right.invariant.added lefts side ∙ ap (λ (l : List Row). set_of (c.args.set.now ++ turned_rows pairs lefts l)) (take_all c.loop-right.right-index items (omega arith) ∙ c.rows-right-items.ensures.all) in
    grown_all c.args.set.now (turned_rows pairs lefts c.args.rights.now) c.loop-right.set c.loop-right.rows.items c.add_rows.new.set c.add_rows.result all c.add_rows.ensures
