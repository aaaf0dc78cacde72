use Rattle.std.proofs.Common.{◌<◌, length, sym, subst}
use Rattle.topo_forms.specs.View.{stream_replicas}
use Rattle.inbox.specs.Executions.{contents}
use Rattle.inbox.specs.Wiring.{wiring_of}
use Rattle.sched_net.specs.Net.{BooksRun}
use Rattle.sched_net.specs.Reading.{IsRead}
use Rattle.report_print.proofs.run_lines.Ran.record_count.Goals as goal

pub record_count-requires : goal.record_count-requires
record_count-requires g c = record { runs = subst (λ w. BooksRun w c.args.self.now.net.now.books) (sym c.requires.ran.same) c.requires.ran.runs }

pub returns : goal.returns
returns g c =
    subst (λ w. IsRead w c.args.self.now.net.now.books (λ given x. length (contents (wiring_of w) given x c.args.stream c.args.replica)) c.record_count.result) c.requires.ran.same
    (c.record_count.ensures.count (subst (λ w. c.args.replica < stream_replicas w c.args.stream) (sym c.requires.ran.same) c.requires.within))
