use Rattle.std.proofs.Common.{◌∙◌, ap, sym, true, false}
use Rattle.std.proofs.lemmas.List.{append-nil}
use Rattle.blz_boxes.proofs.LatestRows.{keys_step}
use Rattle.blz_boxes.proofs.latest.keys_in_order.Goals as goal
use Rattle.blz_boxes.proofs.latest.keys_in_order.Goals.{then-is_key+in_ok-push, else-is_key}

pub loop-column-preserved : goal.loop-column-preserved
loop-column-preserved c =
    let old = c.loop-column.columns.items in
    let new = c.if-is_key.columns.items in
    elim c.if-is_key.branch [
      | then-is_key+in_ok-push w ↦ keys_step c.loop-column.column c.args.keys.now true old new w.if-is_key.ensures c.loop-column.invariant (ap (λ v. v.items) w.columns-is ∙ w.in_ok-push.ensures.items)
      | else-is_key w ↦ keys_step c.loop-column.column c.args.keys.now false old new w.if-is_key.ensures c.loop-column.invariant (ap (λ v. v.items) w.columns-is ∙ sym (append-nil old))
    ]
