use Rattle.messages.specs.declared.fault.EventFault.TheVariants.{TooManyMessages}
use Rattle.messages.proofs.FaultLemmas.{came_from}
use Rattle.messages.proofs.PutIds.{put_given, given_over}
use Rattle.messages.proofs.ListsLemmas.{put-becomes, put-exact}
use Rattle.blz_pool.specs.Entries.{row_with_id}
use Rattle.messages.proofs.lists.Lists.emit_id.Goals as goal

pub returns-in_err-put_id-clause-too_many : goal.returns-in_err-put_id-clause-too_many
returns-in_err-put_id-clause-too_many c e =
    let full = c.put_id.ensures.too_many (came_from c.from_residual.result c.put_id.result c.in_err-put_id.field-0.0 TooManyMessages c.from_residual.ensures.1 c.in_err-put_id.was e) in
    given_over c.args.self.now c.args.place c.args.id c.known.ensures.pool c.known.ensures.given c.requires.place c.requires.given full.0 full.1

pub returns-clause-ok : goal.returns-clause-ok
returns-clause-ok c =
    put-becomes c.args.self.now c.put_id.new.self c.args.place c.args.id (row_with_id c.args.self.now.records c.args.id) c.known.ensures.given
    (put_given c.args.self.now c.put_id.new.self c.args.place c.args.id c.known.ensures.pool c.requires.given c.in_ok-put_id.ensures.records c.in_ok-put_id.ensures.lists)

pub returns-clause-exact : goal.returns-clause-exact
returns-clause-exact c =
    put-exact c.args.self.now c.put_id.new.self c.args.place c.args.id (row_with_id c.args.self.now.records c.args.id) c.known.ensures.given c.requires.place c.requires.exact
    (put_given c.args.self.now c.put_id.new.self c.args.place c.args.id c.known.ensures.pool c.requires.given c.in_ok-put_id.ensures.records c.in_ok-put_id.ensures.lists)
