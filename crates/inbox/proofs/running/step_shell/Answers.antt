use Rattle.std.proofs.lemmas.Result.{on_ok_weaker}
use Rattle.bloom_eval.proofs.PutOut.{put_from_pool}
use Rattle.inbox.proofs.running.step_shell.Goals as goal

pub returns-clause-ids : goal.returns-clause-ids
returns-clause-ids g c =
    on_ok_weaker c.step_by_ids.result (put_from_pool c.args.pool.now c.args.entries.now c.step_by_ids.new.puts c.requires.given) c.step_by_ids.ensures.1.1.1.1.0
