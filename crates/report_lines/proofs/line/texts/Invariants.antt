-- the names so far
use Rattle.std.proofs.Common.{◌≡◌, take}
use Rattle.report_lines.specs.Lines.{shown}
use Rattle.report_lines.proofs.line.texts.Given as goal

abbrev pub invariant-loop-name : goal.invariant-loop-name
invariant-loop-name l = shown l.texts.items ≡ take l.name-index l.names
