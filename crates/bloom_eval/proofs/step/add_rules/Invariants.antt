-- what is left of the rules does the rest
use Rattle.std.proofs.Common.{drop, List, Result}
use Rattle.blz_value.specs.Record.{Row}
use Rattle.blz_set.specs.declared.fault.SetFault.{SetFault}
use Rattle.bloom_forms.specs.Lookup.{declared}
use Rattle.bloom_forms.specs.Step.{rows_named, rules_at}
use Rattle.bloom_eval.specs.Code.Held.{sets_in}
use Rattle.bloom_eval.specs.Counted.{Adds}
use Rattle.bloom_eval.proofs.step.add_rules.Given as goal

abbrev pub invariant-loop-rule : goal.invariant-loop-rule
invariant-loop-rule l =
    let cs = l.program.form.collections in
    let rules = l.program.form.rules in
    (new : List Row) (r : Result (Unit {0}) SetFault) → Adds (declared cs) (rows_named cs (sets_in l.held)) (rules_at cs (drop l.rule-index rules) l.head) l.set new r
    → Adds (declared cs) (rows_named cs (sets_in l.held)) (rules_at cs rules l.head) l.initial.set new r
