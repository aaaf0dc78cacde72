use Rattle.std.proofs.Common.{◌≡◌, ◌↔◌, IsTrue, ℕ, List, subst}
use Rattle.std.proofs.lemmas.Bool.Decides.{Decides-eqb}
use Rattle.std.proofs.lemmas.Slice.Eq.{slice_eq-Decides}
use Rattle.messages.proofs.counts.Tally.is_by.Goals as goal

pub returns : goal.returns
returns c = subst (λ (columns : List ℕ). IsTrue c.eq.result ↔ (columns ≡ c.args.columns.now)) c.as_slice.ensures (slice_eq-Decides Decides-eqb _ _ _ c.eq.ensures)
