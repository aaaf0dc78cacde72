-- the names of the attributes so far
use Rattle.std.proofs.Common.{◌≡◌, [], map, take, get_or}
use Rattle.report_lines.specs.Lines.{shown}
use Rattle.report_lines.proofs.line.names_at.Given as goal

abbrev pub invariant-loop-attribute : goal.invariant-loop-attribute
invariant-loop-attribute l = shown l.texts.items ≡ map (λ attribute. get_or l.names attribute []) (take l.attribute-index l.attributes)
