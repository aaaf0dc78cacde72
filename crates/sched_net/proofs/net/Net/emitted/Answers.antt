use Rattle.std.proofs.Common.{List, length, ap, ◌∙◌}
use Rattle.messages.specs.declared.message.Message.{Message}
use Rattle.sched_net.proofs.EmittedSeen.{none_past, seen_length}
use Rattle.sched_net.proofs.net.Net.emitted.Goals as goal

pub returns-clause-length : goal.returns-clause-length
returns-clause-length g c sends given steps stand =
    c.len.ensures
    ∙ seen_length c.args.self.now.valid.now.view given steps c.args.self.now.books stand c.known.ensures c.args.stream c.args.replica sends c.messages.result c.messages.ensures.list

pub returns-clause-past : goal.returns-clause-past
returns-clause-past g c past =
    c.len.ensures
    ∙ ap (λ (l : List Message). length l) (c.messages.ensures.list ∙ none_past c.args.self.now.valid.now.view c.args.self.now.books.lists.lists c.args.stream c.args.replica past)
