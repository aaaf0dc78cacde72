-- the text so far is that of the events so far, and the texts are those of their pieces
use Rattle.sched_run.specs.Code.Pieces.{AreTexts}
use Rattle.sched_run.proofs.WrittenSoFar.{IsTextSoFar}
use Rattle.sched_run.proofs.made.text_of.Given as goal

abbrev pub invariant-loop-event : goal.invariant-loop-event
invariant-loop-event l = record { text : IsTextSoFar l.valid.view l.events l.event-index l.text.items; texts : AreTexts l.valid.view l.texts }
