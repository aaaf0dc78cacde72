use Rattle.std.proofs.Common.{sym}
use Rattle.blazes_commands.proofs.Finds.LookedLemmas.{named_within}
use Rattle.blazes_commands.proofs.find_calls.finding.sender.Goals as goal

pub sent_by-requires : goal.sent_by-requires
sent_by-requires c = named_within c.args.valid.now.view c.in_ok-name.name c.in-Some.stream (sym c.in-Some.ensures)
