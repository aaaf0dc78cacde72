use Rattle.std.proofs.Common.{[], append_assoc}
use Rattle.blz_boxes.proofs.Cuts.{word_rows_more}
use Rattle.blz_boxes.proofs.words.push_words.Goals as goal

pub loop-i-preserved : goal.loop-i-preserved
loop-i-preserved c =
    let is = c.in_ok-from_text.ensures in
    let made = c.in_ok-row_of_part.ensures in
    rw (word_rows_more c.args.row.now c.args.split c.args.found.now c.loop-i.i (record { ref_ptr = (0, 0); now = [] }) c.loop-i-test.true, ← append_assoc, ← c.loop-i.invariant, ← is, ← made) c.in_ok-push.ensures.items
