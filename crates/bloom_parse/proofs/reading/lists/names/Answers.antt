-- A turn of the loop stops, fails or finds one more.
use Rattle.std.proofs.Common.{◌-◌, ◌+◌, ℕ, List, length, Bor, ap, subst, sym, ◌∙◌, arith}
use Rattle.std.specs.Prelude.{Result}
use Rattle.std.specs.Global.{Vec}
use Rattle.bloom_forms.specs.Query.{Name}
use Rattle.bloom_parse.specs.declared.lexing.terminal.Terminal.{Terminal}
use Rattle.bloom_parse.specs.Code.ReadingSingle.{Fails, has_comma, name_at}
use Rattle.bloom_parse.specs.Code.ReadingLists.{names_at, past, many_at, with_front}
use Rattle.bloom_parse.proofs.Grammar.StepLemmas.{fault_handed}
use Rattle.bloom_parse.proofs.Grammar.RepeatLemmas.{many_stopped, many_failed, many_more, many_ended}
use Rattle.bloom_parse.proofs.reading.lists.names.Goals as goal

abbrev seen : Vec Name × Bor (List Terminal) → List Name × List Terminal
seen x = (x.0.items, x.1.now)

pub returns-then-not-is_comma_first : goal.returns-then-not-is_comma_first
returns-then-not-is_comma_first c =
    sym c.loop.invariant ∙ many_stopped has_comma (past name_at) c.loop.found.items c.loop.counter (length c.args.terminals.now) c.loop.rest.now (omega arith) (cc)

pub returns-in_err-next : goal.returns-in_err-next
returns-in_err-next c =
    let fault = c.in_err-next.field-0.0 in
    let failed = subst (λ (ts : List Terminal). Fails fault (name_at ts)) c.behind_first.ensures c.in_err-next.ensures in
    fault_handed seen c.from_residual-in_err-next.result fault (names_at c.args.first c.args.terminals.now) c.from_residual-in_err-next.ensures.1
    (subst (λ (r : Result (List Name × List Terminal) ℕ). Fails fault r) c.loop.invariant (many_failed has_comma (past name_at) c.loop.found.items c.loop.counter (length c.args.terminals.now) c.loop.rest.now fault (omega arith) (cc) failed))

pub loop-preserved : goal.loop-preserved
loop-preserved c =
    ap (λ (found : List Name). with_front found (many_at has_comma (past name_at) (length c.args.terminals.now - (c.loop.counter + 1)) c.in_ok-next.after.now)) c.in_ok-push-2.ensures.items
    ∙ many_more has_comma (past name_at) c.loop.found.items c.loop.counter (length c.args.terminals.now) c.loop.rest.now c.in_ok-next.after.now c.in_ok-next.next (omega arith) (cc) (ap name_at (sym c.behind_first.ensures) ∙ c.in_ok-next.ensures)
    ∙ c.loop.invariant

pub returns : goal.returns
returns c = sym c.loop.invariant ∙ many_ended has_comma (past name_at) c.loop.found.items c.loop.counter (length c.args.terminals.now) c.loop.rest.now (omega arith)
