-- A turn of the loop stops, fails or finds one more.
use Rattle.std.proofs.Common.{◌-◌, ◌+◌, ℕ, List, length, Bor, ap, subst, sym, ◌∙◌, arith}
use Rattle.std.specs.Prelude.{Result}
use Rattle.std.specs.Global.{Vec}
use Rattle.bloom_forms.specs.Query.{Name}
use Rattle.bloom_parse.specs.declared.lexing.terminal.Terminal.{Terminal}
use Rattle.bloom_parse.specs.Code.ReadingSingle.{Fails, has_comma}
use Rattle.bloom_parse.specs.Code.ReadingLists.{pair_at, pairs_at, past, many_at, with_front}
use Rattle.bloom_parse.proofs.Grammar.StepLemmas.{fault_handed}
use Rattle.bloom_parse.proofs.Grammar.RepeatLemmas.{many_stopped, many_failed, many_more, many_ended}
use Rattle.bloom_parse.proofs.reading.lists.pairs.Goals as goal

abbrev seen : Vec (Name × Name) × Bor (List Terminal) → List (Name × Name) × List Terminal
seen x = (x.0.items, x.1.now)

pub returns-then-not-is_comma_first : goal.returns-then-not-is_comma_first
returns-then-not-is_comma_first c =
    sym c.loop.invariant ∙ many_stopped has_comma (past pair_at) c.loop.found.items c.loop.counter (length c.args.terminals.now) c.loop.rest.now (omega arith) (cc)

pub returns-in_err-next : goal.returns-in_err-next
returns-in_err-next c =
    let fault = c.in_err-next.field-0.0 in
    let failed = subst (λ (ts : List Terminal). Fails fault (pair_at ts)) c.behind_first.ensures c.in_err-next.ensures in
    fault_handed seen c.from_residual.result fault (pairs_at c.args.terminals.now) c.from_residual.ensures.1
    (subst (λ (r : Result (List (Name × Name) × List Terminal) ℕ). Fails fault r) c.loop.invariant (many_failed has_comma (past pair_at) c.loop.found.items c.loop.counter (length c.args.terminals.now) c.loop.rest.now fault (omega arith) (cc) failed))

pub loop-preserved : goal.loop-preserved
loop-preserved c =
    ap (λ (found : List (Name × Name)). with_front found (many_at has_comma (past pair_at) (length c.args.terminals.now - (c.loop.counter + 1)) c.in_ok-next.after.now)) c.in_ok-push.ensures.items
    ∙ many_more has_comma (past pair_at) c.loop.found.items c.loop.counter (length c.args.terminals.now) c.loop.rest.now c.in_ok-next.after.now c.in_ok-next.next (omega arith) (cc) (ap pair_at (sym c.behind_first.ensures) ∙ c.in_ok-next.ensures)
    ∙ c.loop.invariant

pub returns : goal.returns
returns c = sym c.loop.invariant ∙ many_ended has_comma (past pair_at) c.loop.found.items c.loop.counter (length c.args.terminals.now) c.loop.rest.now (omega arith)
