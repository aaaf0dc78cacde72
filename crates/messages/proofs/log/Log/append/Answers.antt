use Rattle.std.proofs.Common.{rules, sym, ◌∙◌}
use Rattle.messages.proofs.LogLemmas.{with_new-known, with_new-more, has_known, has_not, appended_records}
use Rattle.messages.proofs.log.Log.append.Goals as goal

pub returns-then-knows-clause-records : goal.returns-then-knows-clause-records
returns-then-knows-clause-records c = λ records pool given within.
    let there = sym c.knows.ensures ∙ c.if-knows.true in
    appended_records records c.args.self.now c.args.self.now (c.args.port, c.args.row) (with_new-known c.args.self.now (c.args.port, c.args.row) there) pool given within

pub returns-clause-records : goal.returns-clause-records
returns-clause-records c = λ records pool given within.
    let absent = sym c.knows.ensures ∙ c.if-knows.false in
    appended_records records c.args.self.now c.push.new.self (c.args.port, c.args.row) (with_new-more c.args.self.now c.push.new.self (c.args.port, c.args.row) absent c.in_ok-push.ensures.ok) pool given within

pub returns-then-knows-clause-added : goal.returns-then-knows-clause-added
returns-then-knows-clause-added c =
    let there = has_known c.args.self.now (c.args.port, c.args.row) (sym c.knows.ensures ∙ c.if-knows.true) in
    (λ never. absurd (search (rules, never)), λ lacks. absurd (lacks there))

pub returns-clause-added : goal.returns-clause-added
returns-clause-added c = (λ always. has_not c.args.self.now (c.args.port, c.args.row) (sym c.knows.ensures ∙ c.if-knows.false), λ lacks. search rules)

pub returns-in_err-push-clause-held : goal.returns-in_err-push-clause-held
returns-in_err-push-clause-held c = λ there. absurd (has_not c.args.self.now (c.args.port, c.args.row) (sym c.knows.ensures ∙ c.if-knows.false) there)

pub returns-clause-held : goal.returns-clause-held
returns-clause-held c = λ there. absurd (has_not c.args.self.now (c.args.port, c.args.row) (sym c.knows.ensures ∙ c.if-knows.false) there)
