use Rattle.std.proofs.Common.{◌≡◌, ◌∙◌, not, true, false, [], ◌∷◌, ◌++◌, sym, ap, subst, arith, take_all, rules}
use Rattle.std.proofs.lemmas.List.{append-nil}
use Rattle.std.specs.List.{list_any}
use Rattle.blz_value.specs.Record.{Row}
use Rattle.blz_value.specs.Operators.{agree, notin_rows}
use Rattle.blz_set.specs.RecordSet.{IsRecordSet}
use Rattle.blz_set.specs.declared.entry.Entry.{Entry}
use Rattle.blz_set.specs.Code.Entry.{row_of, rows_of}
use Rattle.blz_set.proofs.RecordSets.{filter_is_set, gives_filter, filter_step}
use Rattle.blz_set.proofs.Joins.{has_agrees}
use Rattle.blz_set.proofs.set.RecordSet.antijoin.Goals as goal
use Rattle.blz_set.proofs.set.RecordSet.antijoin.Goals.{then-not-has_run+in_ok-copy+in_ok-push, else-not-has_run}

pub loop-left-preserved : goal.loop-left-preserved
loop-left-preserved c =
    let pairs = c.args.pairs.now in
    let others = c.args.other.now in
    let index = c.in_ok-index.index in
    let left = c.left-item.result in
    let is_alone = λ (l : Row). not (list_any (agree pairs l) others) in
    let more = filter_step is_alone c.rows-left-items.result.now c.loop-left.left-index left (omega arith) c.left-item.is in
    let any = has_agrees pairs left others c.rows.result.now (rows_of index.entries.items) index.columns.now c.deref.result.now c.deref-in-loop-left.result.now
    c.in_ok-index.ensures.columns (c.deref.ensures.value ∙ c.in_ok-rights.ensures) (c.deref-in-loop-left.ensures.value ∙ c.in_ok-lefts.ensures) c.in_ok-index.ensures.rows c.rows.ensures.all c.has_run.result c.has_run.ensures in
    elim c.if-not-has_run.branch [
      | then-not-has_run+in_ok-copy+in_ok-push w ↦
          let none : list_any (agree pairs left) others ≡ false = sym any ∙ search rules in
          ap (λ v. v.items) w.rows-is ∙ w.in_ok-push.ensures.items ∙ ap (λ r. c.loop-left.rows.items ++ r ∷ []) w.in_ok-copy.ensures ∙ ap (λ l. l ++ left ∷ []) c.loop-left.invariant ∙ sym (more true (ap not none))
      | else-not-has_run w ↦
          let some : list_any (agree pairs left) others ≡ true = sym any ∙ search rules in
          ap (λ v. v.items) w.rows-is ∙ c.loop-left.invariant ∙ sym (more false (ap not some) ∙ append-nil _)
    ]

pub invariant_of-result : goal.invariant_of-result
invariant_of-result c =
    let pairs = c.args.pairs.now in
    let others = c.args.other.now in
    let made = c.loop-left.invariant ∙ ap (λ rows. notin_rows pairs rows others) (take_all c.loop-left.left-index c.rows-left-items.result.now (omega arith) ∙ c.rows-left-items.ensures.all) in
    subst IsRecordSet (sym made) (filter_is_set (λ l. not (list_any (agree pairs l) others)) c.args.self.now c.rows-left-items.ensures.set)

pub returns : goal.returns
returns c =
    let pairs = c.args.pairs.now in
    let others = c.args.other.now in
    let made = c.loop-left.invariant ∙ ap (λ rows. notin_rows pairs rows others) (take_all c.loop-left.left-index c.rows-left-items.result.now (omega arith) ∙ c.rows-left-items.ensures.all) in
    gives_filter (λ l. not (list_any (agree pairs l) others)) c.args.self.now c.loop-left.rows.items c.rows-left-items.ensures.set made
