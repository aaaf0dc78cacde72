use Rattle.std.proofs.Common.{◌≡◌, ◌∙◌, Option, Some, None, ap, subst, sym, refl, ℕ, slice_get}
use Rattle.messages.specs.Whole.{feeds_view, partitions, key_at}
use Rattle.inbox.specs.Code.Batches.{IsNumberIn}
use Rattle.inbox.proofs.Keeping.Batches.{keeps-seal, count-one}
use Rattle.inbox.proofs.Keeping.Touching.{own_key}
use Rattle.inbox.proofs.inbox.Inbox.hear_seal.Goals as goal

pub hear_seal-requires-clause-number : goal.hear_seal-requires-clause-number
hear_seal-requires-clause-number c = subst (λ (n : Option ℕ). IsNumberIn (partitions c.args.self.now.feeds) n) c.in-Some.is c.requires.number

pub returns-in-None-clause-keeps : goal.returns-in-None-clause-keeps
returns-in-None-clause-keeps c = λ i waits heard key has s.
    let bad : None ≡ Some key = sym (ap (key_at (partitions c.args.self.now.feeds)) c.in-None.is) ∙ has in cc

pub returns-in_ok-hear_seal-in-Some-clause-count : goal.returns-in_ok-hear_seal-in-Some-clause-count
returns-in_ok-hear_seal-in-Some-clause-count c =
    let parts = partitions c.args.self.now.feeds in
    let own = own_key parts c.in-Some.number (subst (λ (n : Option ℕ). IsNumberIn parts n) c.in-Some.is c.requires.number) in
    let hears = c.in_ok-hear_seal-in-Some.ensures.heard own.0 own.1 in
    count-one (feeds_view c.args.self.now.feeds) (feeds_view c.hear_seal.new.self) c.args.feed hears.was hears.now hears.changed

pub returns-in_ok-hear_seal-in-Some-clause-keeps : goal.returns-in_ok-hear_seal-in-Some-clause-keeps
returns-in_ok-hear_seal-in-Some-clause-keeps c = λ i waits heard key has s.
    let at : slice_get (partitions c.args.self.now.feeds) c.in-Some.number ≡ Some key = sym (ap (key_at (partitions c.args.self.now.feeds)) c.in-Some.is) ∙ has in
    keeps-seal i c.args.pool.now waits heard c.args.self.now _ s c.args.feed c.requires.feed key c.args.count refl (c.in_ok-hear_seal-in-Some.ensures.heard key at) refl
