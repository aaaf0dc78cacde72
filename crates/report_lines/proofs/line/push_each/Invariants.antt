-- the words so far
use Rattle.std.proofs.Common.{◌≡◌, ◌++◌, map, take}
use Rattle.report_lines.specs.Lines.{word_text, later_text}
use Rattle.report_lines.proofs.line.push_each.Given as goal

abbrev pub invariant-loop-word : goal.invariant-loop-word
invariant-loop-word l = l.into.items ≡ l.initial.into.items ++ later_text (map word_text (take l.word-index l.words))
