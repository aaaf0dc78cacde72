-- the rules that are left answer for all
use Rattle.std.proofs.Common.{◌≡◌, drop}
use Rattle.std.specs.List.{list_any}
use Rattle.bloom_index.specs.Code.ByRows.{chooses_for}
use Rattle.bloom_index.proofs.by_rows.is_chosen.Given as goal

abbrev pub invariant-loop-rule : goal.invariant-loop-rule
invariant-loop-rule l = list_any (chooses_for l.head l.port l.row) (drop l.rule-index l.rules) ≡ list_any (chooses_for l.head l.port l.row) l.rules
