use Rattle.std.proofs.Common.{List, [], ℕ, sym, subst}
use Rattle.blz_pool.specs.Entries.{EntryId}
use Rattle.messages.specs.Known.{IsKept}
use Rattle.messages.proofs.LogLemmas.{none-kept}
use Rattle.messages.proofs.log.Log.new.Goals as goal

pub invariant_of-result : goal.invariant_of-result
invariant_of-result c =
    subst (λ (known : List (List ℕ)). IsKept known c.new.result.items) (sym c.new-2.ensures)
    (subst (λ (entries : List EntryId). IsKept [] entries) (sym c.new.ensures.items) none-kept)
