use Rattle.std.proofs.Common.{arith}
use Rattle.messages.specs.declared.fault.EventFault.TheVariants.{TooManyMessages}
use Rattle.messages.proofs.FaultLemmas.{came_from}
use Rattle.messages.proofs.Ids.{placed_with}
use Rattle.messages.proofs.ListsLemmas.{put-becomes, put-exact, full-over, limit-over, one_put}
use Rattle.messages.proofs.lists.Lists.emit_own.Goals as goal

pub returns-in_err-id-clause-too_many : goal.returns-in_err-id-clause-too_many
returns-in_err-id-clause-too_many c e =
    let full = c.id_of_own.ensures.full (came_from c.from_residual.result c.id_of_own.result c.in_err-id.field-0.0 TooManyMessages c.from_residual.ensures.1 c.in_err-id.was e) in
    full-over c.args.self.now c.args.place c.args.row c.known.ensures.given c.requires.place c.requires.exact (omega (arith, full.0)) full.1

pub returns-in_err-put_id-clause-too_many : goal.returns-in_err-put_id-clause-too_many
returns-in_err-put_id-clause-too_many c e =
    let full = c.put_id.ensures.too_many (came_from c.from_residual-in_err-put_id.result c.put_id.result c.in_err-put_id.field-0.0 TooManyMessages c.from_residual-in_err-put_id.ensures.1 c.in_err-put_id.was e) in
    limit-over c.args.self.now c.id_of_own.new.self c.args.place c.in_ok-id.id c.args.row c.known.ensures.given c.requires.place
    (placed_with c.args.self.now.records c.id_of_own.new.self.records c.args.row c.in_ok-id.ensures.records)
    (record { record_is = c.in_ok-id.ensures.record; one = c.in_ok-id.ensures.one })
    c.in_ok-id.ensures.lists full.0 full.1

pub returns-clause-ok : goal.returns-clause-ok
returns-clause-ok c =
    put-becomes c.args.self.now c.put_id.new.self c.args.place c.in_ok-id.id c.args.row c.known.ensures.given
    (one_put c.args.self.now c.id_of_own.new.self c.put_id.new.self c.args.place c.in_ok-id.id c.args.row
    (placed_with c.args.self.now.records c.id_of_own.new.self.records c.args.row c.in_ok-id.ensures.records)
    (record { record_is = c.in_ok-id.ensures.record; one = c.in_ok-id.ensures.one })
    c.in_ok-id.ensures.lists c.in_ok-put_id.ensures.records c.in_ok-put_id.ensures.lists)

pub returns-clause-exact : goal.returns-clause-exact
returns-clause-exact c =
    put-exact c.args.self.now c.put_id.new.self c.args.place c.in_ok-id.id c.args.row c.known.ensures.given c.requires.place c.requires.exact
    (one_put c.args.self.now c.id_of_own.new.self c.put_id.new.self c.args.place c.in_ok-id.id c.args.row
    (placed_with c.args.self.now.records c.id_of_own.new.self.records c.args.row c.in_ok-id.ensures.records)
    (record { record_is = c.in_ok-id.ensures.record; one = c.in_ok-id.ensures.one })
    c.in_ok-id.ensures.lists c.in_ok-put_id.ensures.records c.in_ok-put_id.ensures.lists)
