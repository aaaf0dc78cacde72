use Rattle.std.proofs.Common.{◌≡◌, ◌∙◌, Option, Some, None, ap, subst, sym}
use Rattle.blz_value.specs.Record.{Row}
use Rattle.messages.specs.Whole.{partitions, key_at}
use Rattle.messages.proofs.FeedsLemmas.{on_ok}
use Rattle.inbox.specs.Code.Waiting.{KeepsEntry}
use Rattle.inbox.proofs.inbox.Inbox.keep.Goals as goal

pub returns-in-None-clause-kept : goal.returns-in-None-clause-kept
returns-in-None-clause-kept c =
    let parts = partitions c.args.self.now.feeds in
    let none : key_at parts c.args.touched.number ≡ None = ap (key_at parts) c.in-None.is in
    on_ok c.keep.result (λ h on. subst (λ (k : Option Row). KeepsEntry c.args.self.now.waiting c.keep.new.self (c.args.port, c.args.id) k c.args.touched.waits) (sym none) h) c.keep.ensures

pub returns-in-Some-clause-kept : goal.returns-in-Some-clause-kept
returns-in-Some-clause-kept c =
    let parts = partitions c.args.self.now.feeds in
    let own : key_at parts c.args.touched.number ≡ Some c.key_with-key.result.now = ap (key_at parts) c.in-Some.is ∙ c.key_with-key.ensures in
    on_ok c.keep-in-Some.result (λ h on. subst (λ (k : Option Row). KeepsEntry c.args.self.now.waiting c.keep-in-Some.new.self (c.args.port, c.args.id) k c.args.touched.waits) (sym own) h) c.keep-in-Some.ensures
