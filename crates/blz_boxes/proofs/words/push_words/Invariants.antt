-- the rows so far
use Rattle.std.proofs.Common.{◌≡◌, ◌++◌, take}
use Rattle.blz_boxes.specs.Code.Texts.{texts}
use Rattle.blz_boxes.proofs.Cuts.{word_rows}
use Rattle.blz_boxes.proofs.words.push_words.Given as goal

abbrev pub invariant-loop-i : goal.invariant-loop-i
invariant-loop-i l = l.rows.items ≡ l.fn.rows.items ++ word_rows l.fn.row l.fn.split (texts (take l.i l.found))
