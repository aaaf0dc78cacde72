use Rattle.std.proofs.Common.{◌∙◌, ◌+◌, ◌++◌, List, Err, sym, ap, subst, take, drop, map, filter, arith}
use Rattle.blz_value.specs.Operators.{agree, joined, join_rows}
use Rattle.blz_value.specs.Record.{Row}
use Rattle.blz_value.specs.Sets.{set_of}
use Rattle.blz_set.specs.Growth.{Grows}
use Rattle.blz_set.proofs.Unions.{handed_on}
use Rattle.std.proofs.lemmas.List.{take_all}
use Rattle.bloom_growth.specs.ByKey.{rows_found}
use Rattle.bloom_growth.proofs.PartnersLemmas.{rights_agree, flat_map_split, gathered_more, gathered_fault, grown_all}
use Rattle.bloom_growth.proofs.partners.join_to_right.Goals as goal

pub loop-left-init : goal.loop-left-init
loop-left-init g c = record {
  set = c.requires;
  added = λ rights side. ap (λ (l : List Row). set_of (c.args.set.now ++ l)) c.new-rows.ensures.items;
}

pub loop-left-preserved : goal.loop-left-preserved
loop-left-preserved g c = record {
  set = c.in_ok-add_many.ensures.set;
  added = λ rights side.
      let pairs = c.args.pairs.now in
      let left = c.left-item.result in
      let sets = (g.S.RowsByKey.kept c.args.side.now).sets in
      let partners = rows_found sets c.in_ok-key.key in
      let found = rights_agree pairs c.deref.result.now left rights partners sets (c.deref.ensures.value ∙ c.in_ok-columns.ensures) side (ap (rows_found sets) c.in_ok-key.ensures) in
      c.in_ok-add_many.ensures.all ∙ ap (λ (l : List Row). set_of (c.loop-left.set ++ l)) c.in_ok-push_rights.ensures
      ∙ gathered_more (λ (l : Row). map (joined pairs l) (filter (agree pairs l) rights)) c.args.set.now c.loop-left.set c.loop-left.rows.items (map (joined pairs left) partners) c.rows-left-items.result.now c.loop-left.left-index left (omega arith) c.left-item.is (c.loop-left.invariant.added rights side) (ap (map (joined pairs left)) found);
}

pub returns-in_err-add_many : goal.returns-in_err-add_many
returns-in_err-add_many g c = λ rights side.
    let pairs = c.args.pairs.now in
    let left = c.left-item.result in
    let i = c.loop-left.left-index in
    let items = c.rows-left-items.result.now in
    let fault = c.in_err-add_many.field-0.0 in
    let sets = (g.S.RowsByKey.kept c.args.side.now).sets in
    let partners = rows_found sets c.in_ok-key.key in
    let found = rights_agree pairs c.deref.result.now left rights partners sets (c.deref.ensures.value ∙ c.in_ok-columns.ensures) side (ap (rows_found sets) c.in_ok-key.ensures) in
    let gathered = ap (λ (l : List Row). set_of (c.loop-left.set ++ l)) c.in_ok-push_rights.ensures ∙ gathered_more (λ (l : Row). map (joined pairs l) (filter (agree pairs l) rights)) c.args.set.now c.loop-left.set c.loop-left.rows.items (map (joined pairs left) partners) items i left (omega arith) c.left-item.is (c.loop-left.invariant.added rights side) (ap (map (joined pairs left)) found) in
    subst (Grows c.args.set.now (join_rows pairs c.args.lefts.now rights) c.add_many.new.set) (sym (handed_on _ c.from_residual-in_err-add_many.result fault c.from_residual-in_err-add_many.ensures.1))
    (gathered_fault c.args.set.now (join_rows pairs c.args.lefts.now rights) (join_rows pairs (take (i + 1) items) rights) (join_rows pairs (drop (i + 1) items) rights) (set_of (c.loop-left.set ++ c.push_rights.new.rows.items)) c.add_many.new.set fault gathered
    (ap (λ (l : List Row). join_rows pairs l rights) (sym c.rows-left-items.ensures.all) ∙ flat_map_split (λ (l : Row). map (joined pairs l) (filter (agree pairs l) rights)) (i + 1) items) (λ e. c.in_err-add_many.ensures.too_many (ap Err e)))

pub returns : goal.returns
returns g c = λ rights side.
    let pairs = c.args.pairs.now in
    let items = c.rows-left-items.result.now in
    let all = c.loop-left.invariant.added rights side ∙ ap (λ (l : List Row). set_of (c.args.set.now ++ join_rows pairs l rights)) (take_all c.loop-left.left-index items (omega arith) ∙ c.rows-left-items.ensures.all) in
    grown_all c.args.set.now (join_rows pairs c.args.lefts.now rights) c.loop-left.set c.loop-left.rows.items c.add_rows.new.set c.add_rows.result all c.add_rows.ensures
