use Rattle.std.proofs.Common.{◌≡◌, ◌∙◌, ◌<◌, Option, Some, None, ap, subst, sym, refl, ℕ, get_or, slice_get, length, []}
use Rattle.std.proofs.lemmas.Option.{slice_get-get_or}
use Rattle.blz_value.specs.Record.{Row}
use Rattle.messages.specs.Whole.{feeds_view, partitions, key_at}
use Rattle.messages.proofs.FeedsLemmas.{on_ok}
use Rattle.inbox.specs.Code.Batches.{HearsIf, IsNumberIn}
use Rattle.inbox.proofs.inbox.Inbox.count.Goals as goal

pub hear_row-requires-clause-number : goal.hear_row-requires-clause-number
hear_row-requires-clause-number c = subst (λ (n : Option ℕ). IsNumberIn (partitions c.args.self.now.feeds) n) c.in-Some.is c.requires.number

pub returns-in-None-clause-feeds : goal.returns-in-None-clause-feeds
returns-in-None-clause-feeds c =
    let parts = partitions c.args.self.now.feeds in
    let view = feeds_view c.args.self.now.feeds in
    let none : key_at parts c.args.number ≡ None = ap (key_at parts) c.in-None.is in
    subst (λ (k : Option Row). HearsIf view view c.args.feed k c.args.id) (sym none) refl

pub returns-in-Some-clause-feeds : goal.returns-in-Some-clause-feeds
returns-in-Some-clause-feeds c =
    let parts = partitions c.args.self.now.feeds in
    let n = c.in-Some.number in
    let own : Row = get_or parts n [] in
    let within : n < length parts = subst (λ (o : Option ℕ). IsNumberIn parts o) c.in-Some.is c.requires.number in
    let at : slice_get parts n ≡ Some own = slice_get-get_or parts n [] within in
    let own_key : key_at parts c.args.number ≡ Some own = ap (key_at parts) c.in-Some.is ∙ at in
    on_ok c.hear_row.result (λ heard. subst (λ (k : Option Row). HearsIf (feeds_view c.args.self.now.feeds) (feeds_view c.hear_row.new.self) c.args.feed k c.args.id) (sym own_key) (heard own at)) c.hear_row.ensures.heard
