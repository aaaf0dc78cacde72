-- What is kept of a list is its trim, where it was copied, trimmed and handed on: so it passes the test, needs each of its elements, and is a sublist.
use Rattle.std.proofs.Common.{◌≡◌, ◌∙◌, ◌<◌, ℕ, Bool, true, false, List, length, ap, sym, subst}
use Rattle.std.specs.List.{remove}
use Rattle.why_trace.specs.Passes.{trim_by, IsSublist}
use Rattle.why_trace.proofs.Sublists.{trimmed_sublist}
use Rattle.why_trace.proofs.Trimming.{trimmed_passes, trimmed_needs}

module _ {X : Type 0} (test : List X → Bool) (first lent copied lines kept : List X) (handed : kept ≡ lines) (trimmed : lines ≡ trim_by test copied) (same : copied ≡ lent) (all : lent ≡ first) where
  pub is_trim : kept ≡ trim_by test first
  is_trim = handed ∙ trimmed ∙ ap (trim_by test) (same ∙ all)

  pub kept_passes : test first ≡ true → test kept ≡ true
  kept_passes passing = subst (λ (l : List X). test l ≡ true) (sym is_trim) (trimmed_passes test first passing)

  pub kept_needs : (k : ℕ) → k < length kept → test (remove kept k) ≡ false
  kept_needs = subst (λ (l : List X). (k : ℕ) → k < length l → test (remove l k) ≡ false) (sym is_trim) (trimmed_needs test first)

  pub kept_part : IsSublist kept first
  kept_part = subst (λ (l : List X). IsSublist l first) (sym is_trim) (trimmed_sublist test first)
