use Rattle.std.proofs.Common.{true, false, ◌≡◌, ◌<◌, ◌-◌, ◌∙◌, take, get_or, length, sym, ap, subst, arith, List}
use Rattle.std.specs.declared.cmp.Ordering.TheVariants.{Less}
use Rattle.std.specs.Ordering.{is_ne}
use Rattle.blz_value.specs.Members.{Has}
use Rattle.blz_value.specs.Record.{Row, record_cmp}
use Rattle.blz_value.specs.Operators.{cells, project_rows}
use Rattle.blz_set.specs.declared.entry.Entry.{Entry}
use Rattle.blz_set.specs.Code.Entry.{row_of, rows_of, entry_key}
use Rattle.blz_set.specs.Code.Index.{HaveKeys, InOrder}
use Rattle.blz_set.proofs.Runs.{key_at}
use Rattle.blz_set.proofs.Keys.{none_at_first, first_key, above_all, same_key}
use Rattle.blz_set.proofs.index.Index.firsts.Goals as goal
use Rattle.blz_set.proofs.index.Index.firsts.Goals.{then-i-eq0+in_ok-push, then-i-eq0-via-then-i-eq0, then-i-eq0-via-else-i-eq0+then-is_ne, else-i-eq0+else-is_ne}

pub loop-i-preserved : goal.loop-i-preserved
loop-i-preserved c =
    let columns = c.args.self.now.columns.now in
    let entries = c.as_slice-entries.result.now in
    let i = c.loop-i.i in
    let x = c.index-entries-i.result in
    let keys : HaveKeys columns entries = subst (HaveKeys columns) (sym c.as_slice-entries.ensures.value) c.args.self.now.have_keys in
    let order : InOrder columns entries = subst (InOrder columns) (sym c.as_slice-entries.ensures.value) c.args.self.now.in_order in
    let own = key_at columns entries keys i x (omega arith) c.index-entries-i.is in
    elim c.if-i-eq0.branch [
      | then-i-eq0+in_ok-push w ↦
          let above : (q : Row) → Has q (project_rows columns (rows_of (take i entries))) → record_cmp q (cells columns (row_of x)) ≡ Less =
          elim w.then-i-eq0.branch [
            | then-i-eq0-via-then-i-eq0 v ↦ λ q h. absurd (none_at_first columns entries i q (omega (arith, v.if-i-eq0.true)) h)
            | then-i-eq0-via-else-i-eq0+then-is_ne v ↦
                let y = v.index-entries-i-else-i-eq0.result in
                let before = key_at columns entries keys (i - 1) y (omega (arith, v.if-i-eq0.false)) v.index-entries-i-else-i-eq0.is in
                above_all columns entries i x (omega arith) c.index-entries-i.is y (omega (arith, v.if-i-eq0.false)) v.index-entries-i-else-i-eq0.is order
                (ap is_ne (sym (v.compare.ensures ∙ ap (λ k. record_cmp k (entry_key columns x)) before ∙ ap (record_cmp (cells columns (row_of y))) own)) ∙ sym v.is_ne.ensures ∙ v.if-is_ne.true)
          ] in
          ap (λ v. project_rows columns (rows_of v.items)) w.firsts-is
          ∙ ap (λ (l : List Entry). project_rows columns (rows_of l)) w.in_ok-push.ensures.items
          ∙ first_key columns entries i x (omega arith) c.index-entries-i.is c.loop-i.firsts.items above c.loop-i.invariant
      | else-i-eq0+else-is_ne w ↦
          let y = w.index-entries-i-else-i-eq0.result in
          let before = key_at columns entries keys (i - 1) y (omega (arith, w.if-i-eq0.false)) w.index-entries-i-else-i-eq0.is in
          ap (λ v. project_rows columns (rows_of v.items)) w.firsts-is
          ∙ same_key columns entries i x (omega arith) c.index-entries-i.is y (omega (arith, w.if-i-eq0.false)) w.index-entries-i-else-i-eq0.is c.loop-i.firsts.items
          (ap is_ne (sym (w.compare.ensures ∙ ap (λ k. record_cmp k (entry_key columns x)) before ∙ ap (record_cmp (cells columns (row_of y))) own)) ∙ sym w.is_ne.ensures ∙ w.if-is_ne.false) c.loop-i.invariant
    ]
