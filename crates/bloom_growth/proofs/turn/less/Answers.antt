use Rattle.std.proofs.Common.{◌≡◌, ◌∙◌, not, true, false, [], ◌∷◌, ◌++◌, List, sym, ap, subst, arith, rules, take_all}
use Rattle.std.proofs.lemmas.List.{append-nil}
use Rattle.blz_value.specs.Record.{Row}
use Rattle.blz_value.specs.Sets.{set_of}
use Rattle.blz_value.proofs.RowSets.{set_of-sorted}
use Rattle.blz_set.specs.Answers.{Gives}
use Rattle.blz_set.specs.Missing.{has_row, missing_from}
use Rattle.blz_set.proofs.RecordSets.{filter_step, has_row-from_Has, has_row-from_lacks}
use Rattle.bloom_growth.proofs.GrowSets.{missing_sorted}
use Rattle.bloom_growth.proofs.turn.less.Goals as goal
use Rattle.bloom_growth.proofs.turn.less.Goals.{then-not-contains+in_ok-copy+in_ok-push, else-not-contains}

pub loop-row-preserved : goal.loop-row-preserved
loop-row-preserved c =
    let held = c.args.other.now in
    let row = c.row-item.result in
    let more = filter_step (λ (r : Row). not (has_row held r)) c.rows-row-items.result.now c.loop-row.row-index row (omega arith) c.row-item.is in
    elim c.if-not-contains.branch [
      | then-not-contains+in_ok-copy+in_ok-push w ↦
          let no : c.contains.result ≡ false = search rules in
          let lacks : has_row held row ≡ false = has_row-from_lacks held row (λ h. let is : c.contains.result ≡ true = c.contains.ensures.1 h in cc) in
          ap (λ v. v.items) w.left-is ∙ w.in_ok-push.ensures.items ∙ ap (λ (r : Row). c.loop-row.left.items ++ r ∷ []) w.in_ok-copy.ensures ∙ ap (λ l. l ++ row ∷ []) c.loop-row.invariant ∙ sym (more true (ap not lacks))
      | else-not-contains w ↦
          let is : c.contains.result ≡ true = search rules in
          let has : has_row held row ≡ true = has_row-from_Has held row (c.contains.ensures.0 is) in
          ap (λ v. v.items) w.left-is ∙ c.loop-row.invariant ∙ sym (more false (ap not has) ∙ append-nil _)
    ]

pub returns-clause-missing : goal.returns-clause-missing
returns-clause-missing c =
    let other = c.args.other.now in
    let rows = c.args.rows.now in
    let items = c.rows-row-items in
    let all = c.loop-row.invariant ∙ ap (missing_from other) (take_all c.loop-row.row-index items.result.now (omega arith) ∙ items.ensures.all) in
    subst (λ (l : List Row). Gives l c.from_rows.result) (ap set_of all ∙ set_of-sorted (missing_from other rows) (missing_sorted other rows items.ensures.set.sorted)) c.from_rows.ensures
