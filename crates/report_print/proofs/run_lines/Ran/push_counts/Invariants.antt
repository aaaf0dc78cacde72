-- the counts so far
use Rattle.std.proofs.Common.{map}
use Rattle.report_lines.specs.Lines.{word_text}
use Rattle.report_print.specs.SoakText.{count_word}
use Rattle.report_print.proofs.RunLoops.{HasSoFar}
use Rattle.report_print.proofs.run_lines.Ran.push_counts.Given as goal

abbrev pub invariant-loop-replica : goal.invariant-loop-replica
invariant-loop-replica g l = HasSoFar l.self.valid.now.view l.self.net.now.books (λ given x. count_word l.self.valid.now.view given x l.stream) (map word_text l.initial.words.items) l.replica (map word_text l.words.items)
