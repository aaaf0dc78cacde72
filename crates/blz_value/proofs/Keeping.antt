-- What holds of a set, and stays where a dependency adds to it, holds of the closure of the set.
use Rattle.std.proofs.Common.{◌≡◌, ℕ, zero, suc, true, bit_or, List, [], ◌∷◌, length, refl, ◌∙◌, sym, inl, inr}
use Rattle.std.proofs.lemmas.Bool.{cases_Bool, or_cases}
use Rattle.blz_value.specs.Members.{Has}
use Rattle.blz_value.specs.declared.attrs.Fd.{Fd}
use Rattle.blz_value.specs.Bits.{bit_of, meets}
use Rattle.blz_value.specs.Closure.{within, step, grown, grown_times, closure}
use Rattle.blz_value.proofs.Members.{in-or, in-within, member_small}

module _ (P : ℕ → Type 0) where
  -- what holds of each number of a set
  abbrev pub HoldsOn : ℕ → Type 0
  HoldsOn s = (n : ℕ) → meets (bit_of n) s ≡ true → P n

  step_keeps : (fd : Fd) (s : ℕ) → (HoldsOn fd.from.bits → HoldsOn fd.to.bits) → HoldsOn s → HoldsOn (step fd s)
  unfolding step
  step_keeps fd s keeps holds n = elim (cases_Bool (within fd.from.bits s)) [
    | inr f ↦ rw f (λ h. holds n h)
    | inl t ↦ rw t (λ h.
        let lt = member_small n (bit_or s fd.to.bits) h in
        elim (or_cases _ _ (sym (in-or n s fd.to.bits lt) ∙ h)) [
          | inl old ↦ holds n old
          | inr new ↦ keeps (λ m g. holds m (in-within m fd.from.bits s (member_small m fd.from.bits g) g t)) n new
        ])
  ]

  grown_keeps : (fds : List Fd) (s : ℕ) → ((fd : Fd) → Has fd fds → HoldsOn fd.from.bits → HoldsOn fd.to.bits)
      → HoldsOn s → HoldsOn (grown fds s)
  grown_keeps [] s keeps holds = holds
  grown_keeps (fd ∷ fds) s keeps holds = grown_keeps fds (step fd s) (λ f stands. keeps f (inr stands)) (step_keeps fd s (keeps fd (inl refl)) holds)

  times_keeps : (count : ℕ) (fds : List Fd) (s : ℕ)
      → ((fd : Fd) → Has fd fds → HoldsOn fd.from.bits → HoldsOn fd.to.bits) → HoldsOn s
      → HoldsOn (grown_times count fds s)
  times_keeps zero fds s keeps holds = holds
  times_keeps (suc count) fds s keeps holds = times_keeps count fds (grown fds s) keeps (grown_keeps fds s keeps holds)

  pub closure_keeps : (fds : List Fd) (start : ℕ) → ((fd : Fd) → Has fd fds → HoldsOn fd.from.bits → HoldsOn fd.to.bits)
      → HoldsOn start → HoldsOn (closure start fds)
  unfolding closure
  closure_keeps fds start keeps holds = times_keeps (length fds) fds start keeps holds
