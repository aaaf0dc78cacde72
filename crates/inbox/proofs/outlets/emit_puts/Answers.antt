use Rattle.std.proofs.Common.{◌∙◌}
use Rattle.bloom_eval.specs.Puts.{puts_in}
use Rattle.inbox.proofs.Lists.Growing.{continues_on}
use Rattle.messages.specs.Lists.{read_lists}
use Rattle.inbox.specs.Outlets.{emit_outlets}
use Rattle.messages.specs.declared.fault.EventFault.TheVariants.{TooManyMessages}
use Rattle.messages.proofs.FaultLemmas.{came_from}
use Rattle.inbox.proofs.EntriesOn.{put_from_on}
use Rattle.inbox.proofs.OutletLoops.{put_more, put_over, outlet_within, outlets_within}
use Rattle.messages.proofs.ListsLemmas.{same_count}
use Rattle.inbox.proofs.outlets.emit_puts.Goals as goal

pub emit_put-requires-clause-place : goal.emit_put-requires-clause-place
emit_put-requires-clause-place c = outlet_within c.args.outlets.now c.loop-outlet.outlet-index c.outlet-item.result c.args.lists.now c.loop-outlet.lists c.requires.places c.loop-outlet-test.true c.outlet-item.is c.loop-outlet.invariant.sizes

pub emit_put-requires-clause-given : goal.emit_put-requires-clause-given
emit_put-requires-clause-given c = put_from_on c.args.lists.now.records c.loop-outlet.lists.records c.args.puts.now c.loop-outlet.invariant.records c.requires.given

pub returns-in_err-emit_put-clause-too_many : goal.returns-in_err-emit_put-clause-too_many
returns-in_err-emit_put-clause-too_many c e =
    put_over c.args.outlets.now c.loop-outlet.outlet-index c.outlet-item.result c.args.puts.now c.args.lists.now.records c.loop-outlet.lists (emit_outlets c.args.outlets.now (puts_in c.args.lists.now.records c.args.puts.now) (read_lists c.args.lists.now)) c.loop-outlet-test.true c.outlet-item.is
    (outlets_within c.args.outlets.now c.args.lists.now c.loop-outlet.lists c.requires.places c.loop-outlet.invariant.sizes) c.loop-outlet.invariant.records c.requires.given c.loop-outlet.invariant.lists
    (c.emit_put.ensures.too_many (came_from c.from_residual.result c.emit_put.result c.in_err-emit_put.field-0.0 TooManyMessages c.from_residual.ensures.1 c.in_err-emit_put.was e))

pub loop-outlet-preserved : goal.loop-outlet-preserved
loop-outlet-preserved c = record {
  lists =
      put_more c.args.outlets.now c.loop-outlet.outlet-index c.outlet-item.result c.args.puts.now c.args.lists.now.records c.loop-outlet.lists (read_lists c.emit_put.new.lists) (emit_outlets c.args.outlets.now (puts_in c.args.lists.now.records c.args.puts.now) (read_lists c.args.lists.now))
      c.loop-outlet-test.true c.outlet-item.is c.loop-outlet.invariant.records c.requires.given c.loop-outlet.invariant.lists c.in_ok-emit_put.ensures.ok.lists;
  records = continues_on c.args.lists.now.records c.loop-outlet.lists.records c.emit_put.new.lists.records c.loop-outlet.invariant.records c.in_ok-emit_put.ensures.ok.records;
  exact = c.in_ok-emit_put.ensures.exact;
  few = c.in_ok-emit_put.ensures.few;
  sizes = same_count c.loop-outlet.lists c.emit_put.new.lists c.outlet-item.result.place _ c.in_ok-emit_put.ensures.ok ∙ c.loop-outlet.invariant.sizes;
}
