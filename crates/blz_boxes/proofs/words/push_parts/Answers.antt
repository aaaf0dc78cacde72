use Rattle.std.proofs.Common.{rules, ◌≡◌}
use Rattle.blz_value.specs.Test.{cell}
use Rattle.blz_value.specs.declared.value.Value.TheVariants.{Text}
use Rattle.blz_boxes.proofs.Cuts.{split_text}
use Rattle.blz_boxes.proofs.words.push_parts.Goals as goal

pub returns-in-Some-Text : goal.returns-in-Some-Text
returns-in-Some-Text c =
    let is : cell c.args.row.now c.args.split ≡ Text c.in-Some-Text.text = search rules in
    let found = c.in_ok-found-in-Some-Text.ensures in
    rw (split_text c.args.row.now c.args.split c.in-Some-Text.text is, ← c.as_str.ensures, ← found, ← c.deref.ensures.value) c.in_ok-push_words-in-Some-Text.ensures
