use Rattle.std.proofs.Common.{arith, Some}
use Rattle.std.proofs.lemmas.List.{length-map}
use Rattle.messages.specs.Emitted.{with_seal}
use Rattle.messages.proofs.EmittedLemmas.{with_seals-continues}
use Rattle.messages.specs.Lists.{read_list}
use Rattle.messages.specs.declared.fault.EventFault.TheVariants.{TooManyMessages}
use Rattle.messages.proofs.FaultLemmas.{came_from}
use Rattle.messages.proofs.ListLoops.{becomes_more, over_more}
use Rattle.messages.proofs.ListsLemmas.{same_count}
use Rattle.messages.proofs.lists.Lists.emit_seals.Goals as goal

pub returns-in_err-emit_seal-clause-too_many : goal.returns-in_err-emit_seal-clause-too_many
returns-in_err-emit_seal-clause-too_many c e =
    over_more (with_seal c.args.columns.now) c.args.keys.now c.loop-key.key-index c.key-item.result c.loop-key-test.true c.key-item.is (λ list ys. with_seals-continues (Some c.args.columns.now) list ys)
    c.args.self.now c.loop-key.self c.args.place (omega (arith, c.requires.place, length-map c.args.self.now.lists (read_list c.args.self.now.records))) c.loop-key.invariant.becomes
    (c.emit_seal.ensures.too_many (came_from c.from_residual.result c.emit_seal.result c.in_err-emit_seal.field-0.0 TooManyMessages c.from_residual.ensures.1 c.in_err-emit_seal.was e))

pub loop-key-preserved : goal.loop-key-preserved
loop-key-preserved c = record {
  becomes =
      becomes_more (with_seal c.args.columns.now) c.args.keys.now c.loop-key.key-index c.key-item.result c.loop-key-test.true c.key-item.is
      c.args.self.now c.loop-key.self c.emit_seal.new.self c.args.place (omega (arith, c.requires.place, length-map c.args.self.now.lists (read_list c.args.self.now.records))) c.loop-key.invariant.becomes c.in_ok-emit_seal.ensures.ok;
  exact = c.in_ok-emit_seal.ensures.exact;
  few = c.in_ok-emit_seal.ensures.few;
  place = omega (arith, c.loop-key.invariant.place, same_count c.loop-key.self c.emit_seal.new.self c.args.place _ c.in_ok-emit_seal.ensures.ok);
}
