use Rattle.std.proofs.Common.{slice_get, sym, ◌∙◌}
use Rattle.sched_net.proofs.LeftSeen.{unlogged_at, none_unlogged}
use Rattle.sched_net.proofs.net.Net.is_unlogged.Goals as goal

pub returns-in-Some : goal.returns-in-Some
returns-in-Some g c =
    unlogged_at c.args.self.now.books.lists.records c.args.log.now c.args.port c.in-Some.id c.args.messages.now c.args.index c.knows.result
    (sym c.row.ensures ∙ c.in-Some.is) c.known.ensures.pool c.requires.messages c.requires.log c.knows.ensures

pub returns-in-None : goal.returns-in-None
returns-in-None g c = none_unlogged c.args.self.now.books.lists.records c.args.log.now c.args.port (slice_get c.args.messages.now c.args.index) (sym c.row.ensures ∙ c.in-None.is)
