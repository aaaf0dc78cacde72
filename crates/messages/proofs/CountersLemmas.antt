-- What a counter of a partition is after one more.
use Rattle.std.proofs.Common.{◌≡◌, ◌≢◌, ◌<◌, refl, ap, sym, ◌∙◌, ℕ, zero, suc, ◌+◌, ◌==◌, ◌&&◌, ◌||◌, nat_le, cond, Option, None, Some, List, [], ◌∷◌, ◌++◌, length, set, arith, inl, inr}
use Rattle.std.specs.List.{slice_get}
use Rattle.std.proofs.Math.ListN.{length-set}
use Rattle.std.proofs.lemmas.Bool.{cases_eq, eq-eqb, ne_eqb}
use Rattle.std.proofs.lemmas.List.{get_or-set_same}
use Rattle.std.proofs.lemmas.Option.{slice_get-get_or}
use Rattle.blz_value.proofs.Booleans.{or_false}
use Rattle.messages.specs.PartitionCounts.{have_in, need_in, have_at, need_at, is_met}
use Rattle.messages.specs.declared.counter.Counter.{Counter}

-- ---- counters of nothing behind the others

module _ {Y : Type 0} (read : Option Counter → Y) (nothing : Counter) (same : read (Some nothing) ≡ read None) where
  pub reads_more : (counts : List Counter) (n : ℕ) → read (slice_get (counts ++ nothing ∷ []) n) ≡ read (slice_get counts n)
  reads_more [] zero = same
  reads_more [] (suc n) = refl
  reads_more (c ∷ counts) zero = refl
  reads_more (c ∷ counts) (suc n) = reads_more counts n

-- ---- a counter in the place of another

put_other : (counts : List Counter) (number : ℕ) (c : Counter) (n : ℕ) → n ≢ number → slice_get (set counts number c) n ≡ slice_get counts n
put_other [] number c n apart = refl
put_other (x ∷ counts) zero c zero apart = absurd (apart refl)
put_other (x ∷ counts) zero c (suc n) apart = refl
put_other (x ∷ counts) (suc number) c zero apart = refl
put_other (x ∷ counts) (suc number) c (suc n) apart = put_other counts number c n (λ e. apart (ap suc e))

module _ (old mid : List Counter) (number : ℕ) (c : Counter) (below : number < length mid) where
  put : (n : ℕ) → n ≡ number → slice_get (set mid number c) n ≡ Some c
  put n is =
      let inside : number < length (set mid number c) = (let as_long = length-set mid number c in omega (arith, below, as_long)) in
      ap (slice_get (set mid number c)) is ∙ slice_get-get_or (set mid number c) number c inside ∙ ap Some (get_or-set_same mid number c c below)

  pub have_counted : c.have ≡ have_at old number + 1 → ((n : ℕ) → have_at mid n ≡ have_at old n) → (n : ℕ) → have_at (set mid number c) n ≡ cond (n == number) (have_at old n + 1) (have_at old n)
  have_counted e same n = elim (cases_eq n number) [
    | inl is ↦ ap have_in (put n is) ∙ e ∙ ap (λ k. have_at old k + 1) (sym is) ∙ sym (ap (λ b. cond b (have_at old n + 1) (have_at old n)) (eq-eqb n number is))
    | inr other ↦ ap have_in (put_other mid number c n other) ∙ same n ∙ sym (ap (λ b. cond b (have_at old n + 1) (have_at old n)) (ne_eqb n number other))
  ]

  pub have_kept : c.have ≡ have_at old number → ((n : ℕ) → have_at mid n ≡ have_at old n) → (n : ℕ) → have_at (set mid number c) n ≡ have_at old n
  have_kept e same n = elim (cases_eq n number) [
    | inl is ↦ ap have_in (put n is) ∙ e ∙ ap (have_at old) (sym is)
    | inr other ↦ ap have_in (put_other mid number c n other) ∙ same n
  ]

  pub need_kept : c.need ≡ need_at old number → ((n : ℕ) → need_at mid n ≡ need_at old n) → (n : ℕ) → need_at (set mid number c) n ≡ need_at old n
  need_kept e same n = elim (cases_eq n number) [
    | inl is ↦ ap need_in (put n is) ∙ e ∙ ap (need_at old) (sym is)
    | inr other ↦ ap need_in (put_other mid number c n other) ∙ same n
  ]

  pub need_sealed : (count : ℕ) → ((m : ℕ) → is_met c.need m ≡ (is_met (need_at old number) m || nat_le count m)) → ((n : ℕ) → need_at mid n ≡ need_at old n)
      → (n m : ℕ) → is_met (need_at (set mid number c) n) m ≡ (is_met (need_at old n) m || (n == number && nat_le count m))
  need_sealed count e same n m = elim (cases_eq n number) [
    | inl is ↦
        ap (λ o. is_met (need_in o) m) (put n is) ∙ e m
        ∙ ap (λ k. is_met (need_at old k) m || nat_le count m) (sym is)
        ∙ sym (ap (λ b. is_met (need_at old n) m || (b && nat_le count m)) (eq-eqb n number is))
    | inr other ↦
        ap (λ o. is_met (need_in o) m) (put_other mid number c n other)
        ∙ ap (λ o. is_met o m) (same n)
        ∙ sym (or_false (is_met (need_at old n) m))
        ∙ sym (ap (λ b. is_met (need_at old n) m || (b && nat_le count m)) (ne_eqb n number other))
  ]
