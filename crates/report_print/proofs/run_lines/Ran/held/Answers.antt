use Rattle.std.proofs.Common.{sym, subst}
use Rattle.inbox.specs.Completeness.{held_count_at}
use Rattle.inbox.specs.Wiring.{wiring_of}
use Rattle.sched_net.specs.Net.{BooksRun}
use Rattle.sched_net.specs.Reading.{IsRead}
use Rattle.report_print.proofs.run_lines.Ran.held.Goals as goal

pub held-requires : goal.held-requires
held-requires g c = record { runs = subst (λ w. BooksRun w c.args.self.now.net.now.books) (sym c.requires.ran.same) c.requires.ran.runs }

pub returns : goal.returns
returns g c = subst (λ w. IsRead w c.args.self.now.net.now.books (λ given x. held_count_at (wiring_of w) x c.args.component c.args.replica) c.held.result) c.requires.ran.same c.held.ensures
