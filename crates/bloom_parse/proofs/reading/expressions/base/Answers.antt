-- The name of a collection, the fault of its reading, or want of memory.
use Rattle.std.proofs.Common.{ℕ, List, Ok, Bor, ap, sym, ◌∙◌}
use Rattle.std.specs.Global.{Box}
use Rattle.std.specs.Prelude.{Result}
use Rattle.bloom_forms.specs.Form.{query_of}
use Rattle.bloom_forms.specs.Query.{Name, Query}
use Rattle.bloom_forms.specs.Query.Query.{base}
use Rattle.bloom_forms.specs.declared.expr.Expr.{Expr}
use Rattle.bloom_parse.specs.declared.lexing.terminal.Terminal.{Terminal}
use Rattle.bloom_parse.specs.declared.reading.read_fault.ReadFault.TheVariants.{NoMemory}
use Rattle.bloom_parse.specs.Code.ReadingExprs.{base_at}
use Rattle.bloom_parse.specs.Code.ReadingSingle.{◌>>=◌, name_at}
use Rattle.bloom_parse.proofs.Grammar.StepLemmas.{fails_first, fault_handed}
use Rattle.bloom_parse.proofs.reading.expressions.base.Goals as goal

abbrev seen : Box Expr × Bor (List Terminal) → Query × List Terminal
seen x = (query_of x.0.value, x.1.now)

-- what goes on behind the name
abbrev behind : Name × List Terminal → Result (Query × List Terminal) ℕ
behind n = Ok (base n.0, n.1)

pub returns-in_err-name : goal.returns-in_err-name
returns-in_err-name c =
    let fault = c.in_err-name.field-0.0 in
    fault_handed seen c.from_residual.result fault (base_at c.args.terminals.now) c.from_residual.ensures.1
    (fails_first fault (name_at c.args.terminals.now) behind (c.in_err-name.ensures))

pub returns-in_err-made : goal.returns-in_err-made
returns-in_err-made c = fault_handed seen c.from_residual-in_err-made.result NoMemory (base_at c.args.terminals.now) c.from_residual-in_err-made.ensures.1 tt

pub returns : goal.returns
returns c =
    ap (λ (read : Result (Name × List Terminal) ℕ). read >>= behind) (c.in_ok-name.ensures)
    ∙ ap (λ (e : Expr). Ok (query_of e, c.in_ok-name.rest.now)) (sym c.in_ok-made.ensures)
