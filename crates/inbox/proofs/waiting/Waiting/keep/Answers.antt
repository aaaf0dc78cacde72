use Rattle.std.proofs.Common.{◌+◌, ◌∙◌, ap, refl, arith}
use Rattle.std.specs.Option.{option_map}
use Rattle.messages.proofs.LogLemmas.{known_from, lacks_from, length-new}
use Rattle.inbox.proofs.Keeping.Records.{keeps_known, keeps_new}
use Rattle.inbox.proofs.waiting.Waiting.keep.Goals as goal

pub returns-then-not-branch : goal.returns-then-not-branch
returns-then-not-branch c =
    keeps_known c.args.self.now _ (c.args.port, c.args.id) (option_map (λ q. q.now) c.args.key) c.args.waits c.in_ok-append.ensures.log
    (known_from c.args.self.now.log (c.args.port, c.args.id) c.in_ok-append.field-0 c.in_ok-append.ensures.added c.if-not-branch.true) (λ k. refl) refl

pub place_new-requires-clause-last : goal.place_new-requires-clause-last
place_new-requires-clause-last c =
    let absent = lacks_from c.args.self.now.log (c.args.port, c.args.id) c.in_ok-append.field-0 c.in_ok-append.ensures.added c.if-not-branch.false in
    ap (λ n. n + 1) c.len-place.ensures.count ∙ length-new c.args.self.now.log c.append.new.self (c.args.port, c.args.id) absent c.in_ok-append.ensures.log

pub place_new-requires-clause-few : goal.place_new-requires-clause-few
place_new-requires-clause-few c =
    let absent = lacks_from c.args.self.now.log (c.args.port, c.args.id) c.in_ok-append.field-0 c.in_ok-append.ensures.added c.if-not-branch.false in
    let more = length-new c.args.self.now.log c.append.new.self (c.args.port, c.args.id) absent c.in_ok-append.ensures.log in
    omega (arith, more, c.args.self.now.few)

pub returns : goal.returns
returns c =
    let absent = lacks_from c.args.self.now.log (c.args.port, c.args.id) c.in_ok-append.field-0 c.in_ok-append.ensures.added c.if-not-branch.false in
    let placed = c.in_ok-place_new.ensures in
    keeps_new c.args.self.now c.place_new.new.self (c.args.port, c.args.id) (option_map (λ q. q.now) c.args.key) c.args.waits c.len-place.result (placed.log ∙ c.in_ok-append.ensures.log) absent c.len-place.ensures.count placed.places placed.held
