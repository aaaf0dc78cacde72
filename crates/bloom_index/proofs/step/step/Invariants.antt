-- the heads so far were taken
use Rattle.std.proofs.Common.{drop}
use Rattle.bloom_index.specs.Code.Arriving.{arrived_in}
use Rattle.bloom_index.specs.Code.Kept.{tables_in}
use Rattle.bloom_index.specs.Code.Plans.{rules_by}
use Rattle.bloom_index.proofs.StepHeads.{IsStep}
use Rattle.bloom_index.proofs.StepNext.{IsMid}
use Rattle.bloom_index.proofs.step.step.Given as goal

abbrev pub invariant-loop-head : goal.invariant-loop-head
invariant-loop-head l =
    let growing = l.initial.parts.growing.items in
    let lasting = l.initial.parts.lasting.items in
    let tables = tables_in l.program l.initial.parts.rows.items in
    let rules = rules_by l.program.form.collections l.program.form.rules l.initial.parts.plans.items in
    (st : IsStep l.program rules growing lasting tables (arrived_in l.now)) × IsMid l.program rules growing lasting tables (arrived_in l.now) st l.parts l.held.items (drop l.head-index l.program.heads)
