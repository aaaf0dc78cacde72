use Rattle.std.proofs.Common.{rules, ◌≡◌, ◌-◌, ◌∙◌, ap, refl, subst, length, ℕ, List}
use Rattle.blz_pool.specs.Entries.{EntryId}
use Rattle.messages.specs.Whole.{feeds_view}
use Rattle.inbox.specs.Code.Batches.{AreParted}
use Rattle.inbox.proofs.Keeping.Loops.{releases_some}
use Rattle.inbox.proofs.inbox.Inbox.release_all.Goals as goal

pub returns-in-len1-up : goal.returns-in-len1-up
returns-in-len1-up c =
    releases_some c.args.self.now _ c.args.whole.now c.in_ok-released.released c.in-len1-up.len_at_least refl refl c.release.ensures.log c.release.ensures.places
    (c.release.ensures.held ∙ ap (λ (n : ℕ). c.args.self.now.waiting.held - n) (let count : c.len.result ≡ length c.in_ok-entries.entries.items = search rules in count ∙ ap (length {A = EntryId}) c.in_ok-entries.ensures))
    (subst (λ (l : List EntryId). AreParted (feeds_view c.args.self.now.feeds) l c.in_ok-released.released) (c.deref.ensures.value ∙ c.in_ok-entries.ensures) c.in_ok-released.ensures)
