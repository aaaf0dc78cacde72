-- the lines of the records so far
use Rattle.std.proofs.Common.{◌≡◌, ◌++◌, ◌∷◌, [], take}
use Rattle.std.specs.List.{flat_map}
use Rattle.blz_set.specs.References.{shown}
use Rattle.blz_value.specs.Text.{record_text}
use Rattle.report_lines.specs.Words.{inner_line}
use Rattle.report_print.proofs.run_lines.Ran.push_rows.Given as goal

abbrev pub invariant-loop-row : goal.invariant-loop-row
invariant-loop-row g l = l.text.items ≡ l.initial.text.items ++ flat_map (λ row. inner_line (record_text row ∷ [])) (shown (take l.row-index l.rows))
