use Rattle.std.proofs.Common.{Some, ◌∙◌, sym, ap}
use Rattle.sched_net.proofs.PartsFound.{stream_there, sender_there, stands_at, answers_no_feed, answers_no_message, answers_pair}
use Rattle.sched_net.proofs.books.Books.pair_of.Goals as goal

pub returns-in_default-clause-pair : goal.returns-in_default-clause-pair
returns-in_default-clause-pair c = answers_no_feed c.args.valid.now.view c.args.self.now c.known.ensures c.args.component c.args.replica c.requires.component c.requires.replica c.args.part (sym c.feed_to.ensures ∙ c.in_default.is)

pub message_of-requires-clause-stream : goal.message_of-requires-clause-stream
message_of-requires-clause-stream c = stream_there c.args.valid.now.view c.args.component c.args.replica c.args.part c.in-Some.feed (sym c.feed_to.ensures ∙ c.in-Some.is)

pub message_of-requires-clause-sender : goal.message_of-requires-clause-sender
message_of-requires-clause-sender c = sender_there c.args.valid.now.view c.args.component c.args.replica c.args.part c.in-Some.feed (sym c.feed_to.ensures ∙ c.in-Some.is)

pub returns-in_ok-feed_number-in-Some-2-clause-pair : goal.returns-in_ok-feed_number-in-Some-2-clause-pair
returns-in_ok-feed_number-in-Some-2-clause-pair c =
    answers_pair c.args.valid.now.view c.args.self.now c.known.ensures c.args.component c.args.replica c.requires.component c.requires.replica c.args.part
    c.in_ok-feed_number-in-Some-2.field-0 c.in-Some-2.message
    (sym c.feed_to.ensures ∙ c.in-Some.is ∙ ap (λ n. Some n) (sym c.in_ok-feed_number-in-Some-2.ensures))
    (sym c.in_ok-message.ensures.message ∙ c.in-Some-2.is)

pub returns-in_ok-feed_number-in-Some-2-clause-index : goal.returns-in_ok-feed_number-in-Some-2-clause-index
returns-in_ok-feed_number-in-Some-2-clause-index c =
    stands_at c.args.valid.now.view c.args.component c.args.replica c.args.part c.in_ok-feed_number-in-Some-2.field-0
    (sym c.feed_to.ensures ∙ c.in-Some.is ∙ ap (λ n. Some n) (sym c.in_ok-feed_number-in-Some-2.ensures))
    c.args.self.now.lists c.in-Some-2.message
    (sym c.in_ok-message.ensures.message ∙ c.in-Some-2.is)

pub returns-in-None-clause-pair : goal.returns-in-None-clause-pair
returns-in-None-clause-pair c = answers_no_message c.args.valid.now.view c.args.self.now c.known.ensures c.args.component c.args.replica c.requires.component c.requires.replica c.args.part c.in-Some.feed (sym c.feed_to.ensures ∙ c.in-Some.is) (sym c.in_ok-message.ensures.message ∙ c.in-None.is)
