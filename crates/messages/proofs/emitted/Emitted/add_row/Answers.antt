use Rattle.messages.proofs.SubjectLemmas.{row_added, is_new_row}
use Rattle.messages.proofs.emitted.Emitted.add_row.Goals as goal

pub returns-clause-new : goal.returns-clause-new
returns-clause-new c = is_new_row c.args.id c.self.inside.counts.entries c.args.self.now c.in_ok-known.known c.is_none.result c.self.view_is c.in_ok-known.ensures.old c.is_none.ensures

pub returns-clause-ok : goal.returns-clause-ok
returns-clause-ok c = row_added c.self.inside.counts.entries c.insert.new.self.entries c.args.self.now c.args.id c.self.view_is c.in_ok-known.ensures.entries
