use Rattle.std.proofs.Common.{◌∙◌}
use Rattle.sched_net.proofs.AgainLemmas.{books_over, books_ran, cleared_tables}
use Rattle.sched_net.proofs.FirstBooks.{net_stands}
use Rattle.sched_net.proofs.net.Net.start_again.Goals as goal

pub start_again-requires-clause-stood : goal.start_again-requires-clause-stood
start_again-requires-clause-stood g c = books_over c.args.self.now.valid.now.view c.args.given.now _ _ c.args.self.now.books c.requires.stood

pub start_again-requires-clause-ran : goal.start_again-requires-clause-ran
start_again-requires-clause-ran g c = books_ran c.args.self.now.valid.now.view c.args.given.now c.args.self.now.books (start_again-requires-clause-stood g c)

pub returns-clause-stands : goal.returns-clause-stands
returns-clause-stands g c =
    let v = c.args.self.now.valid.now.view in
    net_stands v c.args.given.now c.start_again.new.self _ _ c.in_ok-start_again.ensures c.requires.bodies (c.clear_all.ensures.loaded ∙ c.requires.programs) (cleared_tables v _ _ c.requires.programs c.clear_all.ensures.kept)
