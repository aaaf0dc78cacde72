use Rattle.std.proofs.Common.{sym, subst}
use Rattle.inbox.specs.Completeness.{left_count}
use Rattle.inbox.specs.Wiring.{wiring_of}
use Rattle.sched_net.specs.Net.{BooksRun}
use Rattle.sched_net.specs.Reading.{IsRead}
use Rattle.report_print.proofs.run_lines.Ran.left.Goals as goal

pub left-requires : goal.left-requires
left-requires g c = record { runs = subst (λ w. BooksRun w c.args.self.now.net.now.books) (sym c.requires.ran.same) c.requires.ran.runs }

pub returns : goal.returns
returns g c = subst (λ w. IsRead w c.args.self.now.net.now.books (left_count (wiring_of w)) c.left.result) c.requires.ran.same c.left.ensures
