use Rattle.std.proofs.Common.{sym, subst}
use Rattle.sched_net.specs.Net.{BooksRun}
use Rattle.sched_net.specs.Reading.{IsRead, is_complete}
use Rattle.report_print.proofs.run_lines.Ran.is_complete.Goals as goal

pub is_complete-requires : goal.is_complete-requires
is_complete-requires g c = record { runs = subst (λ w. BooksRun w c.args.self.now.net.now.books) (sym c.requires.ran.same) c.requires.ran.runs }

pub returns : goal.returns
returns g c = subst (λ w. IsRead w c.args.self.now.net.now.books (is_complete w) c.is_complete.result) c.requires.ran.same c.is_complete.ensures.test
