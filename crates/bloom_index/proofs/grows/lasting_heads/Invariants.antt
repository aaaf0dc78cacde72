-- all collections but the heads that are left are marked
use Rattle.std.proofs.Common.{drop}
use Rattle.bloom_index.specs.Code.Lasting.{rules_last}
use Rattle.bloom_index.proofs.Marking.{AreMarkedBut}
use Rattle.bloom_index.proofs.grows.lasting_heads.Given as goal

abbrev pub invariant-loop-head : goal.invariant-loop-head
invariant-loop-head l = AreMarkedBut l.program.form (rules_last l.program.form) l.lasting.items (drop l.head-index l.program.heads)
