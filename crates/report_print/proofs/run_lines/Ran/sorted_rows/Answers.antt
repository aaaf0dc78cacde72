use Rattle.std.proofs.Common.{◌<◌, sym, subst}
use Rattle.std.specs.Prelude.{IfOk}
use Rattle.blz_set.specs.References.{shown}
use Rattle.topo_forms.specs.View.{stream_replicas}
use Rattle.inbox.specs.Executions.{contents}
use Rattle.inbox.specs.Wiring.{wiring_of}
use Rattle.sched_net.specs.Net.{BooksRun}
use Rattle.sched_net.specs.Reading.{IsRead}
use Rattle.report_print.proofs.run_lines.Ran.sorted_rows.Goals as goal

pub sorted_rows-requires : goal.sorted_rows-requires
sorted_rows-requires g c = record { runs = subst (λ w. BooksRun w c.args.self.now.net.now.books) (sym c.requires.ran.same) c.requires.ran.runs }

pub returns : goal.returns
returns g c =
    subst (λ w. IfOk c.sorted_rows.result (λ rows. IsRead w c.args.self.now.net.now.books (λ given x. contents (wiring_of w) given x c.args.stream c.args.replica) (shown rows.items))) c.requires.ran.same
    (c.sorted_rows.ensures.contents (subst (λ w. c.args.replica < stream_replicas w c.args.stream) (sym c.requires.ran.same) c.requires.within))
