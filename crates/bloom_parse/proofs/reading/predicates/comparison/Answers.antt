-- A comparison is what its three parts read, the fault of the first part that fails, or want of memory.
use Rattle.std.proofs.Common.{ℕ, List, Ok, Bor, ap, sym, ◌∙◌}
use Rattle.std.specs.Global.{Box}
use Rattle.bloom_forms.specs.Form.{formula_of}
use Rattle.bloom_forms.specs.Query.{Formula}
use Rattle.bloom_forms.specs.declared.expr.Pred.{Pred}
use Rattle.bloom_parse.specs.declared.lexing.terminal.Terminal.{Terminal}
use Rattle.bloom_parse.specs.declared.reading.read_fault.ReadFault.TheVariants.{NoMemory}
use Rattle.bloom_parse.specs.Code.ReadingPredicates.{comparison_at}
use Rattle.bloom_parse.proofs.Grammar.StepLemmas.{comparison_is, no_first, no_sign, no_second, fault_handed}
use Rattle.bloom_parse.proofs.reading.predicates.comparison.Goals as goal

abbrev seen : Box Pred × ℕ × Bor (List Terminal) → Formula × ℕ × List Terminal
seen x = (formula_of x.0.value, x.1, x.2.now)

pub returns-in_err-first : goal.returns-in_err-first
returns-in_err-first c =
    let fault = c.in_err-first.field-0.0 in
    let all = c.args.terminals.now in
    fault_handed seen c.from_residual.result fault (comparison_at c.args.left all) c.from_residual.ensures.1
    (no_first c.args.left all fault (c.in_err-first.ensures))

pub returns-in_err-op : goal.returns-in_err-op
returns-in_err-op c =
    let fault = c.in_err-op.field-0.0 in
    let all = c.args.terminals.now in
    fault_handed seen c.from_residual-in_err-op.result fault (comparison_at c.args.left all) c.from_residual-in_err-op.ensures.1
    (no_sign c.args.left all c.in_ok-first.rest.now c.in_ok-first.first fault (c.in_ok-first.ensures) (c.in_err-op.ensures))

pub returns-in_err-second : goal.returns-in_err-second
returns-in_err-second c =
    let fault = c.in_err-second.field-0.0 in
    let all = c.args.terminals.now in
    fault_handed seen c.from_residual-in_err-second.result fault (comparison_at c.args.left all) c.from_residual-in_err-second.ensures.1
    (no_second c.args.left all c.in_ok-first.rest.now c.in_ok-op.rest.now c.in_ok-first.first c.in_ok-op.op fault (c.in_ok-first.ensures) (c.in_ok-op.ensures) (c.in_err-second.ensures))

pub returns-in_err-made : goal.returns-in_err-made
returns-in_err-made c = fault_handed seen c.from_residual-in_err-made.result NoMemory (comparison_at c.args.left c.args.terminals.now) c.from_residual-in_err-made.ensures.1 tt

pub returns : goal.returns
returns c =
    comparison_is c.args.left c.args.terminals.now c.in_ok-first.rest.now c.in_ok-op.rest.now c.in_ok-second.rest.now c.in_ok-first.first c.in_ok-second.second c.in_ok-op.op
    (c.in_ok-first.ensures) (c.in_ok-op.ensures) (c.in_ok-second.ensures)
    ∙ ap (λ (p : Pred). Ok (formula_of p, c.args.left, c.in_ok-second.rest.now)) (sym c.in_ok-made.ensures)
