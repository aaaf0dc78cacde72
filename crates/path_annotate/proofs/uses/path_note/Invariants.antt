use Rattle.std.proofs.Common.{◌≡◌, drop}
use Rattle.bloom_forms.specs.Uses.{both_uses}
use Rattle.path_annotate.specs.Code.ReadingUses.{path_note_from}
use Rattle.path_annotate.proofs.uses.path_note.Given as goal

abbrev pub invariant-loop-rule : goal.invariant-loop-rule
invariant-loop-rule l = both_uses l.note (path_note_from (record l.rules { rules = drop l.rule-index l.all }) l.port l.output) ≡ path_note_from l.rules l.port l.output
