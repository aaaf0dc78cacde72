use Rattle.std.proofs.Common.{◌∙◌}
use Rattle.inbox.proofs.Lists.Growing.{continues_on}
use Rattle.messages.specs.Lists.{read_lists}
use Rattle.inbox.specs.Outlets.{seal_outlets}
use Rattle.messages.specs.declared.fault.EventFault.TheVariants.{TooManyMessages}
use Rattle.messages.proofs.FaultLemmas.{came_from}
use Rattle.inbox.proofs.OutletLoops.{sealed_more, sealed_over, outlet_within, outlets_within}
use Rattle.messages.proofs.ListsLemmas.{same_count}
use Rattle.inbox.proofs.outlets.emit_seals.Goals as goal

pub seal_output-requires-clause-place : goal.seal_output-requires-clause-place
seal_output-requires-clause-place c = outlet_within c.args.outlets.now c.loop-outlet.outlet-index c.outlet-item.result c.args.lists.now c.loop-outlet.lists c.requires.places c.loop-outlet-test.true c.outlet-item.is c.loop-outlet.invariant.sizes

pub returns-in_err-seal_output-clause-too_many : goal.returns-in_err-seal_output-clause-too_many
returns-in_err-seal_output-clause-too_many c e =
    sealed_over c.args.outlets.now c.loop-outlet.outlet-index c.outlet-item.result c.args.keys.now (read_lists c.loop-outlet.lists) (seal_outlets c.args.outlets.now c.args.keys.now (read_lists c.args.lists.now)) c.loop-outlet-test.true c.outlet-item.is
    (outlets_within c.args.outlets.now c.args.lists.now c.loop-outlet.lists c.requires.places c.loop-outlet.invariant.sizes) c.loop-outlet.invariant.lists
    (c.seal_output.ensures.too_many (came_from c.from_residual.result c.seal_output.result c.in_err-seal_output.field-0.0 TooManyMessages c.from_residual.ensures.1 c.in_err-seal_output.was e))

pub loop-outlet-preserved : goal.loop-outlet-preserved
loop-outlet-preserved c = record {
  lists =
      sealed_more c.args.outlets.now c.loop-outlet.outlet-index c.outlet-item.result c.args.keys.now (read_lists c.loop-outlet.lists) (read_lists c.seal_output.new.lists) (seal_outlets c.args.outlets.now c.args.keys.now (read_lists c.args.lists.now))
      c.loop-outlet-test.true c.outlet-item.is c.loop-outlet.invariant.lists c.in_ok-seal_output.ensures.ok.lists;
  records = continues_on c.args.lists.now.records c.loop-outlet.lists.records c.seal_output.new.lists.records c.loop-outlet.invariant.records c.in_ok-seal_output.ensures.ok.records;
  exact = c.in_ok-seal_output.ensures.exact;
  few = c.in_ok-seal_output.ensures.few;
  sizes = same_count c.loop-outlet.lists c.seal_output.new.lists c.outlet-item.result.place _ c.in_ok-seal_output.ensures.ok ∙ c.loop-outlet.invariant.sizes;
}
