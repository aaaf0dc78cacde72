use Rattle.worked_calls.proofs.inboxes.batches_shown.Goals as goal

pub all_shown-requires-clause-kept : goal.all_shown-requires-clause-kept
all_shown-requires-clause-kept c = c.in_ok-inbox.ensures.kept c.args.pool.now
