use Rattle.std.proofs.Common.{sym, subst}
use Rattle.inbox.specs.Wiring.{wiring_of}
use Rattle.inbox.specs.Limits.{all_messages}
use Rattle.sched_net.specs.Net.{BooksRun}
use Rattle.sched_net.specs.Reading.{IsRead}
use Rattle.report_print.proofs.run_lines.Ran.message_count.Goals as goal

pub message_count-requires : goal.message_count-requires
message_count-requires g c = subst (λ w. BooksRun w c.args.self.now.net.now.books) (sym c.requires.ran.same) c.requires.ran.runs

pub returns : goal.returns
returns g c = subst (λ w. IsRead w c.args.self.now.net.now.books (all_messages (wiring_of w)) c.message_count.result) c.requires.ran.same c.message_count.ensures
