use Rattle.std.proofs.Common.{◌≡◌, ◌∙◌, ◌++◌, [], ◌∷◌, Bool, true, false, cond, List, sym, ap, subst, arith, rules, take, take_all}
use Rattle.std.proofs.lemmas.List.{append-nil}
use Rattle.blz_value.specs.Record.{Row}
use Rattle.blz_value.specs.Sets.{set_of}
use Rattle.blz_value.proofs.RowSets.{set_of-sorted}
use Rattle.blz_set.specs.Missing.{missing_from}
use Rattle.blz_set.specs.RecordSet.{IsRecordSet}
use Rattle.blz_set.proofs.Unions.{handed_on}
use Rattle.bloom_growth.specs.Growth.{Takes}
use Rattle.bloom_growth.proofs.GrowSets.{takes_all, takes_more, takes_none}
use Rattle.bloom_growth.proofs.grow_set.GrowSet.take.Goals as goal
use Rattle.bloom_growth.proofs.grow_set.GrowSet.take.Goals.{then-branch+in_ok-copy+in_ok-push, else-branch}

pub loop-row-init : goal.loop-row-init
loop-row-init c = record {
  all = sym (ap set_of (append-nil c.args.self.now) ∙ set_of-sorted c.args.self.now c.known.ensures.sorted);
  few = c.known.ensures.small;
  fresh = c.new-fresh.ensures.items;
}

pub returns-in_err-take_one : goal.returns-in_err-take_one
returns-in_err-take_one c =
    let old = c.args.self.now in
    let rows = c.rows-row-items.result.now in
    let fault = c.in_err-take_one.field-0.0 in
    subst (λ (l : List Row). Takes old l c.take_one.new.self c.from_residual.result) c.rows-row-items.ensures.all
    (subst (Takes old rows c.take_one.new.self) (sym (handed_on _ c.from_residual.result fault c.from_residual.ensures.1))
    (takes_none old rows c.known.ensures (subst IsRecordSet (sym c.rows-row-items.ensures.all) c.rows-row-items.ensures.set) c.loop-row.self c.take_one.new.self c.loop-row.row-index c.row-item.result (omega arith) c.row-item.is c.loop-row.invariant.all c.take_one.new.self fault c.in_err-take_one.ensures))

pub loop-row-preserved : goal.loop-row-preserved
loop-row-preserved c =
    let old = c.args.self.now in
    let rows = c.rows-row-items.result.now in
    let i = c.loop-row.row-index in
    let row = c.row-item.result in
    let more = takes_more old rows c.known.ensures (subst IsRecordSet (sym c.rows-row-items.ensures.all) c.rows-row-items.ensures.set) c.loop-row.self c.take_one.new.self i row (omega arith) c.row-item.is c.loop-row.invariant.all c.in_ok-take_one.field-0 c.in_ok-take_one.ensures in
    record {
      all = more.0;
      few = c.in_ok-take_one.ensures.1;
      fresh = elim c.if-branch.branch [
        | then-branch+in_ok-copy+in_ok-push w ↦
            let yes : c.in_ok-take_one.field-0 ≡ true = search rules in
            ap (λ v. v.items) w.fresh-is ∙ w.in_ok-push.ensures.items ∙ ap (λ (r : Row). c.loop-row.fresh.items ++ r ∷ []) w.in_ok-copy.ensures ∙ ap (λ (l : List Row). l ++ row ∷ []) c.loop-row.invariant.fresh
            ∙ sym (more.1 ∙ ap (λ (b : Bool). missing_from old (take i rows) ++ cond b (row ∷ []) []) yes)
        | else-branch w ↦
            let no : c.in_ok-take_one.field-0 ≡ false = search rules in
            ap (λ v. v.items) w.fresh-is ∙ c.loop-row.invariant.fresh ∙ sym (more.1 ∙ ap (λ (b : Bool). missing_from old (take i rows) ++ cond b (row ∷ []) []) no ∙ append-nil _)
      ];
    }

pub returns : goal.returns
returns c =
    let old = c.args.self.now in
    let rows = c.rows-row-items.result.now in
    let whole = take_all c.loop-row.row-index rows (omega arith) in
    subst (λ (l : List Row). Takes old l c.loop-row.self c.from_rows.result) c.rows-row-items.ensures.all
    (takes_all old rows c.known.ensures (subst IsRecordSet (sym c.rows-row-items.ensures.all) c.rows-row-items.ensures.set) c.loop-row.fresh.items c.loop-row.self
    (c.loop-row.invariant.all ∙ ap (λ (l : List Row). set_of (old ++ l)) whole) c.loop-row.invariant.few (c.loop-row.invariant.fresh ∙ ap (missing_from old) whole) c.from_rows.result c.from_rows.ensures)
