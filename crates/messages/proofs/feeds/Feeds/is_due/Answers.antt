use Rattle.std.proofs.Common.{◌<◌, ◌∙◌, ℕ, Option, ap, length, subst, sym}
use Rattle.std.specs.Prelude.{IfSome}
use Rattle.messages.specs.Feeds.{is_due_in}
use Rattle.messages.specs.Whole.{feeds_view, key_at}
use Rattle.messages.proofs.PartitionNumbers.{due_at}
use Rattle.messages.proofs.feeds.Feeds.is_due.Goals as goal

pub is_whole-requires : goal.is_whole-requires
is_whole-requires c = subst (λ (n : Option ℕ). IfSome n (λ k. k < length c.args.self.now.keys.keys)) c.in-Some.is c.requires

pub returns-in-Some : goal.returns-in-Some
returns-in-Some c =
    due_at (feeds_view c.args.self.now) c.args.self.now.keys.keys c.in-Some.number c.is_whole.result
    (subst (λ (n : Option ℕ). IfSome n (λ k. k < length c.args.self.now.keys.keys)) c.in-Some.is c.requires) c.is_whole.ensures
    ∙ ap (λ (n : Option ℕ). is_due_in (feeds_view c.args.self.now) (key_at c.args.self.now.keys.keys n)) (sym c.in-Some.is)
