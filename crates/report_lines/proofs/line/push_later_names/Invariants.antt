-- the names so far
use Rattle.std.proofs.Common.{◌≡◌, ◌++◌, take, codes}
use Rattle.std.specs.List.{flat_map}
use Rattle.report_lines.specs.Lines.{shown}
use Rattle.report_lines.proofs.line.push_later_names.Given as goal

abbrev pub invariant-loop-name : goal.invariant-loop-name
invariant-loop-name l = l.into.items ≡ l.initial.into.items ++ flat_map (λ name. codes ", " ++ name) (shown (take l.name-index l.names))
