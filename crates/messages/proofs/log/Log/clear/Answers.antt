use Rattle.std.proofs.Common.{List, [], ℕ, sym, subst}
use Rattle.blz_pool.specs.Entries.{EntryId}
use Rattle.messages.specs.Known.{IsKept}
use Rattle.messages.proofs.LogLemmas.{none-kept}
use Rattle.messages.proofs.log.Log.clear.Goals as goal

pub invariant_of-self : goal.invariant_of-self
invariant_of-self c =
    subst (λ (known : List (List ℕ)). IsKept known c.clear.new.self.items) (sym c.clear-2.ensures)
    (subst (λ (entries : List EntryId). IsKept [] entries) (sym c.clear.ensures.items) none-kept)
