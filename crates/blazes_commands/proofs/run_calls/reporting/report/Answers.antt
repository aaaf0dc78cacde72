use Rattle.std.proofs.Common.{subst}
use Rattle.sched_net.specs.Net.{execution_in}
use Rattle.topo_forms.specs.View.{View}
use Rattle.blazes_commands.specs.Runs.Contents.{TellsStatus}
use Rattle.blazes_commands.proofs.Runs.ContentsLemmas.{order_replicas}
use Rattle.blazes_commands.proofs.run_calls.reporting.report.Goals as goal

pub returns : goal.returns
returns g c given steps stand = record {
  text = c.in_ok-run_text.ensures given steps stand;
  ordered = order_replicas c.args.valid.now.view given (execution_in stand) c.known.ensures;
  status = subst (λ (v : View). TellsStatus v c.args.net.now.books c.status_of.result) c.requires.same c.status_of.ensures given steps stand;
}
