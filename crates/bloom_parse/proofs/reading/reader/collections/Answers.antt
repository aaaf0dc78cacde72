-- A turn of the loop stops, fails or finds one more.
use Rattle.std.proofs.Common.{◌-◌, ◌+◌, ℕ, List, length, Bor, ap, subst, sym, ◌∙◌, arith}
use Rattle.std.specs.Prelude.{Result, is_some, not}
use Rattle.std.specs.Global.{Vec}
use Rattle.bloom_forms.specs.declared.module.Collection.{Collection}
use Rattle.bloom_parse.specs.declared.lexing.terminal.Terminal.{Terminal}
use Rattle.bloom_parse.specs.Code.ReadingSingle.{Fails}
use Rattle.bloom_parse.specs.Code.ReadingLists.{many_at, with_front}
use Rattle.bloom_parse.specs.Code.ReadingModules.{has_kind, collection_at, collections_at}
use Rattle.bloom_parse.proofs.Grammar.StepLemmas.{fault_handed}
use Rattle.bloom_parse.proofs.Grammar.RepeatLemmas.{many_stopped, many_failed, many_more, many_ended}
use Rattle.bloom_parse.proofs.reading.reader.collections.Goals as goal

abbrev seen : Vec Collection × Bor (List Terminal) → List Collection × List Terminal
seen x = (x.0.items, x.1.now)

pub returns-then-is_none : goal.returns-then-is_none
returns-then-is_none c =
    sym c.loop.invariant ∙ many_stopped has_kind collection_at c.loop.found.items c.loop.counter (length c.args.terminals.now) c.loop.rest.now (omega arith) (ap is_some (sym c.first_kind.ensures) ∙ c.is_none.ensures ∙ ap not c.if-is_none.true)

pub returns-in_err-next : goal.returns-in_err-next
returns-in_err-next c =
    let fault = c.in_err-next.field-0.0 in
    fault_handed seen c.from_residual.result fault (collections_at c.args.terminals.now) c.from_residual.ensures.1
    (subst (λ (r : Result (List Collection × List Terminal) ℕ). Fails fault r) c.loop.invariant (many_failed has_kind collection_at c.loop.found.items c.loop.counter (length c.args.terminals.now) c.loop.rest.now fault (omega arith) (ap is_some (sym c.first_kind.ensures) ∙ c.is_none.ensures ∙ ap not c.if-is_none.false) (c.in_err-next.ensures)))

pub loop-preserved : goal.loop-preserved
loop-preserved c =
    ap (λ (found : List Collection). with_front found (many_at has_kind collection_at (length c.args.terminals.now - (c.loop.counter + 1)) c.in_ok-next.after.now)) c.in_ok-push.ensures.items
    ∙ many_more has_kind collection_at c.loop.found.items c.loop.counter (length c.args.terminals.now) c.loop.rest.now c.in_ok-next.after.now c.in_ok-next.next (omega arith) (ap is_some (sym c.first_kind.ensures) ∙ c.is_none.ensures ∙ ap not c.if-is_none.false) (c.in_ok-next.ensures)
    ∙ c.loop.invariant

pub returns : goal.returns
returns c = sym c.loop.invariant ∙ many_ended has_kind collection_at c.loop.found.items c.loop.counter (length c.args.terminals.now) c.loop.rest.now (omega arith)
