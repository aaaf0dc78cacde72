use Rattle.std.proofs.Common.{Err, Option, subst}
use Rattle.report_lines.specs.declared.refusal.Refusal.{Refusal}
use Rattle.blazes_commands.specs.Labels.Shards as check
use Rattle.command_checks.specs.Found.{found_shown}
use Rattle.command_checks.specs.Ran.{IsStopAt}
use Rattle.blazes_words.specs.Requests.{shard_shown}
use Rattle.blazes_commands.proofs.Labels.ShardLemmas.{copies_answer, copies_refused}
use Rattle.blazes_commands.proofs.label_calls.sharding.copies.Goals as goal

pub returns-clause-gives : goal.returns-clause-gives
returns-clause-gives c =
    let found = found_shown c.args.found.now in
    let words = shard_shown c.args.words.now in
    copies_refused (check.copies_of found words) c.stop_at.result c.in-Err.fault
    (copies_answer found words c.topology-topology.result.now c.deref.result.now c.in_ok-component.component c.in_ok-column.column c.deref-2.result.now (Err c.in-Err.fault)
    c.topology-topology.ensures c.deref.ensures.value c.in_ok-component.ensures c.in_ok-column.ensures c.deref-2.ensures.value c.in-Err.ensures.answer)
    (subst (λ (refused : Option Refusal). IsStopAt refused c.stop_at.result) c.shard_refusal.ensures c.stop_at.ensures)
