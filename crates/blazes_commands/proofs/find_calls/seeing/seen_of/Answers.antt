use Rattle.std.proofs.Common.{sym, subst}
use Rattle.sched_net.specs.Net.{BooksRun}
use Rattle.sched_net.specs.Reading.{IsRead, is_complete}
use Rattle.blazes_commands.proofs.find_calls.seeing.seen_of.Goals as goal

pub is_complete-requires : goal.is_complete-requires
is_complete-requires g c = record { runs = subst (λ w. BooksRun w c.args.net.now.books) (sym c.requires.same) c.requires.runs }

pub returns : goal.returns
returns g c given steps stand =
    let complete = subst (λ w. IsRead w c.args.net.now.books (is_complete w) c.is_complete.result) c.requires.same c.is_complete.ensures.test in
    λ i. record { contents = c.in_ok-take.ensures.contents given steps stand i; complete = complete given steps stand i }
