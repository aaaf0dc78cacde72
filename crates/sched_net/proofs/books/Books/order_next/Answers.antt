use Rattle.std.proofs.Common.{◌∙◌, ap, sym, subst}
use Rattle.inbox.specs.Events.{Part, order}
use Rattle.sched_net.specs.Net.{EventAnswers}
use Rattle.sched_net.specs.Taking.{LogGets}
use Rattle.messages.proofs.FaultLemmas.{handed_on}
use Rattle.sched_net.proofs.LoggingLemmas.{answers_unlogged, logging_refused, answers_logged, leaves_logged}
use Rattle.sched_net.proofs.books.Books.order_next.Goals as goal

pub returns-then-not-has_log-clause-answer : goal.returns-then-not-has_log-clause-answer
returns-then-not-has_log-clause-answer c loaded tables = answers_unlogged c.args.valid.now.view loaded tables c.args.self.now c.args.component c.args.part c.known.ensures (sym c.has_log.ensures ∙ c.if-not-has_log.true)

pub returns-in_err-message-clause-answer : goal.returns-in_err-message-clause-answer
returns-in_err-message-clause-answer c loaded tables =
    handed_on (λ r. EventAnswers c.args.valid.now.view loaded tables c.args.self.now (order c.args.part c.args.component) r) c.from_residual.result c.in_err-message.field-0.0 c.from_residual.ensures.1
    (logging_refused c.args.valid.now.view loaded tables c.args.self.now c.args.component c.args.part c.in_err-message.field-0.0 c.known.ensures (sym c.has_log.ensures ∙ c.if-not-has_log.false) c.in_err-message.ensures.pair)

pub returns-clause-answer : goal.returns-clause-answer
returns-clause-answer c loaded tables =
    answers_logged c.args.valid.now.view loaded tables c.args.self.now c.args.component c.args.part c.in_ok-message.field-0-0 c.in_ok-message.message c.known.ensures (sym c.has_log.ensures ∙ c.if-not-has_log.false) c.in_ok-message.ensures.pair

pub returns-clause-leaves : goal.returns-clause-leaves
returns-clause-leaves c loaded tables =
    leaves_logged c.args.valid.now.view loaded tables c.args.self.now c.log.new.self c.args.component c.args.part c.in_ok-message.field-0-0 c.in_ok-message.message c.known.ensures (sym c.has_log.ensures ∙ c.if-not-has_log.false) c.in_ok-message.ensures.pair
    c.in_ok-log.ensures.pool c.in_ok-message.ensures.given
    (subst (λ n. LogGets c.args.component n c.in_ok-message.message c.args.self.now.logs.items c.log.new.self.logs.items) (ap (λ (p : Part). p.port) c.part.view_is) c.in_ok-log.ensures.logs)
    c.in_ok-log.ensures.lists c.in_ok-log.ensures.places c.in_ok-log.ensures.seats c.in_ok-log.ensures.ended
