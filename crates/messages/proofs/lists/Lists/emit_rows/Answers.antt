use Rattle.std.proofs.Common.{arith}
use Rattle.std.proofs.lemmas.List.{length-map}
use Rattle.messages.specs.Emitted.{with_row}
use Rattle.messages.proofs.EmittedLemmas.{with_rows-continues}
use Rattle.messages.specs.Lists.{read_list}
use Rattle.messages.specs.declared.fault.EventFault.TheVariants.{TooManyMessages}
use Rattle.messages.proofs.FaultLemmas.{came_from}
use Rattle.messages.proofs.ListLoops.{becomes_more, over_more}
use Rattle.messages.proofs.ListsLemmas.{same_count}
use Rattle.messages.proofs.lists.Lists.emit_rows.Goals as goal

pub returns-in_err-emit_row-clause-too_many : goal.returns-in_err-emit_row-clause-too_many
returns-in_err-emit_row-clause-too_many c e =
    over_more with_row c.args.rows.now c.loop-row.row-index c.row-item.result c.loop-row-test.true c.row-item.is with_rows-continues
    c.args.self.now c.loop-row.self c.args.place (omega (arith, c.requires.place, length-map c.args.self.now.lists (read_list c.args.self.now.records))) c.loop-row.invariant.becomes
    (c.emit_row.ensures.too_many (came_from c.from_residual.result c.emit_row.result c.in_err-emit_row.field-0.0 TooManyMessages c.from_residual.ensures.1 c.in_err-emit_row.was e))

pub loop-row-preserved : goal.loop-row-preserved
loop-row-preserved c = record {
  becomes =
      becomes_more with_row c.args.rows.now c.loop-row.row-index c.row-item.result c.loop-row-test.true c.row-item.is
      c.args.self.now c.loop-row.self c.emit_row.new.self c.args.place (omega (arith, c.requires.place, length-map c.args.self.now.lists (read_list c.args.self.now.records))) c.loop-row.invariant.becomes c.in_ok-emit_row.ensures.ok;
  exact = c.in_ok-emit_row.ensures.exact;
  few = c.in_ok-emit_row.ensures.few;
  place = omega (arith, c.loop-row.invariant.place, same_count c.loop-row.self c.emit_row.new.self c.args.place _ c.in_ok-emit_row.ensures.ok);
}
