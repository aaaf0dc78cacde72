-- The passes end in the least closed set.
use Rattle.std.proofs.Common.{◌≡◌, ◌≢◌, ◌≤◌, ◌<◌, ℕ, zero, suc, ◌+◌, Bool, true, false, if◌then◌else◌, refl, arith, List, [], ◌∷◌, length, bit_or, ◌∙◌, subst, ◌⊎◌, inl, inr}
use Rattle.std.proofs.lemmas.Bool.{cases_Bool}
use Rattle.blz_value.specs.Members.{Has}
use Rattle.blz_value.specs.declared.attrs.Fd.{Fd}
use Rattle.blz_value.specs.Closure.{within, step, grown, grown_times, closure, IsClosed, IsLeastClosed}
use Rattle.blz_value.proofs.Within.{within-refl, within-trans, within-or_l, within-or_r, or-within, or-absorbs}

-- what one dependency adds

step-fires : (fd : Fd) (s : ℕ) → within fd.from.bits s ≡ true → step fd s ≡ bit_or s fd.to.bits
unfolding step
step-fires fd s e = rw e refl

step-rests : (fd : Fd) (s : ℕ) → within fd.from.bits s ≡ false → step fd s ≡ s
unfolding step
step-rests fd s e = rw e refl

step-keeps : (fd : Fd) (s : ℕ) → within s (step fd s) ≡ true
step-keeps fd s = elim (cases_Bool (within fd.from.bits s)) [
  | inl e ↦ rw (step-fires fd s e) (within-or_l s fd.to.bits)
  | inr e ↦ rw (step-rests fd s e) (within-refl s)
]

-- closed sets of a list of dependencies

closed-head : (fd : Fd) (fds : List Fd) (t : ℕ) → IsClosed (fd ∷ fds) t → within fd.from.bits t ≡ true → within fd.to.bits t ≡ true
closed-head fd fds t closed = closed fd (inl refl)

closed-tail : (fd : Fd) (fds : List Fd) (t : ℕ) → IsClosed (fd ∷ fds) t → IsClosed fds t
closed-tail fd fds t closed = λ w stands. closed w (inr stands)

closed-cons : (fd : Fd) (fds : List Fd) (t : ℕ) → (within fd.from.bits t ≡ true → within fd.to.bits t ≡ true) → IsClosed fds t → IsClosed (fd ∷ fds) t
closed-cons fd fds t head tail = go
  where
    go : (w : Fd) → Has w (fd ∷ fds) → within w.from.bits t ≡ true → within w.to.bits t ≡ true
    go w (inl e) = subst (λ (v : Fd). within v.from.bits t ≡ true → within v.to.bits t ≡ true) e head
    go w (inr stands) = tail w stands

-- passes keep a set, and stay in each closed set above it

pub grown-keeps : (fds : List Fd) (s : ℕ) → within s (grown fds s) ≡ true
grown-keeps [] s = within-refl s
grown-keeps (fd ∷ fds) s = within-trans s (step fd s) _ (step-keeps fd s) (grown-keeps fds (step fd s))

grown_times-keeps : (n : ℕ) (fds : List Fd) (s : ℕ) → within s (grown_times n fds s) ≡ true
grown_times-keeps zero fds s = within-refl s
grown_times-keeps (suc n) fds s = within-trans s (grown fds s) _ (grown-keeps fds s) (grown_times-keeps n fds (grown fds s))

step-least : (fd : Fd) (s t : ℕ) → (within fd.from.bits t ≡ true → within fd.to.bits t ≡ true) → within s t ≡ true → within (step fd s) t ≡ true
step-least fd s t closed below = elim (cases_Bool (within fd.from.bits s)) [
  | inl e ↦ rw (step-fires fd s e) (or-within s fd.to.bits t below (closed (within-trans fd.from.bits s t e below)))
  | inr e ↦ rw (step-rests fd s e) below
]

pub grown-least : (fds : List Fd) (s t : ℕ) → IsClosed fds t → within s t ≡ true → within (grown fds s) t ≡ true
grown-least [] s t closed below = below
grown-least (fd ∷ fds) s t closed below = grown-least fds (step fd s) t (closed-tail fd fds t closed) (step-least fd s t (closed-head fd fds t closed) below)

grown_times-least : (n : ℕ) (fds : List Fd) (s t : ℕ) → IsClosed fds t → within s t ≡ true → within (grown_times n fds s) t ≡ true
grown_times-least zero fds s t closed below = below
grown_times-least (suc n) fds s t closed below = grown_times-least n fds (grown fds s) t closed (grown-least fds s t closed below)

-- how many dependencies have something to add

missing_of : Bool → ℕ
missing_of b = if b then 0 else 1

pub missing : List Fd → ℕ → ℕ
missing [] s = 0
missing (fd ∷ fds) s = missing_of (within fd.to.bits s) + missing fds s

missing-le : (fds : List Fd) (s : ℕ) → missing fds s ≤ length fds
unfolding missing missing_of
missing-le [] s = omega arith
missing-le (fd ∷ fds) s = elim (cases_Bool (within fd.to.bits s)) [
  | inl e ↦ rw e (omega (arith, missing-le fds s))
  | inr e ↦ rw e (omega (arith, missing-le fds s))
]

-- a larger set lacks no more
missing_of-anti : (fd : Fd) (s t : ℕ) → within s t ≡ true → missing_of (within fd.to.bits t) ≤ missing_of (within fd.to.bits s)
unfolding missing_of
missing_of-anti fd s t h = go (cases_Bool (within fd.to.bits s)) (cases_Bool (within fd.to.bits t))
  where
    go : (within fd.to.bits s ≡ true) ⊎ (within fd.to.bits s ≡ false) → (within fd.to.bits t ≡ true) ⊎ (within fd.to.bits t ≡ false) → missing_of (within fd.to.bits t) ≤ missing_of (within fd.to.bits s)
    go (inl e) f = rw (e, within-trans fd.to.bits s t e h) (omega arith)
    go (inr e) (inl f) = rw (e, f) (omega arith)
    go (inr e) (inr f) = rw (e, f) (omega arith)

missing-anti : (fds : List Fd) (s t : ℕ) → within s t ≡ true → missing fds t ≤ missing fds s
unfolding missing
missing-anti [] s t h = omega arith
missing-anti (fd ∷ fds) s t h = omega (arith, missing_of-anti fd s t h, missing-anti fds s t h)

-- a pass adds nothing to a closed set, or it adds something that was missing

abbrev pub Pass : List Fd → ℕ → Type 0
Pass fds s = ((grown fds s ≡ s) × IsClosed fds s) ⊎ (missing fds (grown fds s) < missing fds s)

-- the same behind a step that adds nothing
pass-rests : (fd : Fd) (fds : List Fd) (s : ℕ) → step fd s ≡ s → (within fd.from.bits s ≡ true → within fd.to.bits s ≡ true) → Pass fds s → Pass (fd ∷ fds) s
unfolding missing
pass-rests fd fds s e closed (inl h) = inl (rw e h.0, closed-cons fd fds s closed h.1)
pass-rests fd fds s e closed (inr h) = inr (rw e (omega (arith, missing_of-anti fd s (grown fds s) (grown-keeps fds s), h)))

-- a step that adds what was missing
pass-fires : (fd : Fd) (fds : List Fd) (s : ℕ) → step fd s ≡ bit_or s fd.to.bits → within fd.to.bits s ≡ false → missing (fd ∷ fds) (grown (fd ∷ fds) s) < missing (fd ∷ fds) s
unfolding missing missing_of
pass-fires fd fds s e f =
    let there : within fd.to.bits (grown fds (bit_or s fd.to.bits)) ≡ true = within-trans fd.to.bits (bit_or s fd.to.bits) _ (within-or_r s fd.to.bits) (grown-keeps fds (bit_or s fd.to.bits)) in
    let more : within s (grown fds (bit_or s fd.to.bits)) ≡ true = within-trans s (bit_or s fd.to.bits) _ (within-or_l s fd.to.bits) (grown-keeps fds (bit_or s fd.to.bits)) in
    rw (e, there, f) (omega (arith, missing-anti fds s (grown fds (bit_or s fd.to.bits)) more))

pub pass : (fds : List Fd) (s : ℕ) → Pass fds s
pass [] s = inl (refl, λ w stands. absurd stands)
pass (fd ∷ fds) s = go (cases_Bool (within fd.from.bits s)) (cases_Bool (within fd.to.bits s)) (pass fds s)
  where
    go : (within fd.from.bits s ≡ true) ⊎ (within fd.from.bits s ≡ false) → (within fd.to.bits s ≡ true) ⊎ (within fd.to.bits s ≡ false) → Pass fds s → Pass (fd ∷ fds) s
    go (inl e) (inl f) rest = pass-rests fd fds s (step-fires fd s e ∙ or-absorbs s fd.to.bits f) (λ t. f) rest
    go (inl e) (inr f) rest = inr (pass-fires fd fds s (step-fires fd s e) f)
    go (inr e) f rest = pass-rests fd fds s (step-rests fd s e) (λ t. cc) rest

-- what passes have reached: it holds the start and lies in each closed set above the start
pub record IsReached (start : ℕ) (fds : List Fd) (s : ℕ) : Type 0 where
  pub contains : within start s ≡ true
  pub below : (t : ℕ) → within start t ≡ true → IsClosed fds t → within s t ≡ true

pub reached-start : (start : ℕ) (fds : List Fd) → IsReached start fds start
reached-start start fds = record { contains = within-refl start; below = λ t above closed. above }

pub reached-grown : (start : ℕ) (fds : List Fd) (s : ℕ) → IsReached start fds s → IsReached start fds (grown fds s)
reached-grown start fds s r = record {
  contains = within-trans start s (grown fds s) r.contains (grown-keeps fds s);
  below = λ t above closed. grown-least fds s t closed (r.below t above closed);
}

-- a set to which a pass adds nothing is closed, and stays
pub rests-closed : (fds : List Fd) (s : ℕ) → grown fds s ≡ s → IsClosed fds s
rests-closed fds s e = go (pass fds s)
  where
    go : Pass fds s → IsClosed fds s
    go (inl p) = p.1
    go (inr less) = absurd (let same : missing fds (grown fds s) ≡ missing fds s = rw e refl in omega arith)

grown_times-rests : (n : ℕ) (fds : List Fd) (s : ℕ) → grown fds s ≡ s → grown_times n fds s ≡ s
grown_times-rests zero fds s e = refl
grown_times-rests (suc n) fds s e = rw e (grown_times-rests n fds s e)

-- where nothing is missing the set is closed
nothing_missing : (fds : List Fd) (s : ℕ) → missing fds s ≤ 0 → IsClosed fds s
unfolding missing missing_of
nothing_missing [] s h = λ w stands. absurd stands
nothing_missing (fd ∷ fds) s h = closed-cons fd fds s (λ t. head (cases_Bool (within fd.to.bits s))) (nothing_missing fds s (omega arith))
  where
    head : (within fd.to.bits s ≡ true) ⊎ (within fd.to.bits s ≡ false) → within fd.to.bits s ≡ true
    head (inl e) = e
    head (inr e) = let none : missing_of (within fd.to.bits s) ≤ 0 = omega arith in absurd (omega (arith, rw e at none))

grown_times-closed : (n : ℕ) (fds : List Fd) (s : ℕ) → missing fds s ≤ n → IsClosed fds (grown_times n fds s)
grown_times-closed zero fds s h = nothing_missing fds s h
grown_times-closed (suc n) fds s h = elim (pass fds s) [
  | inl p ↦ rw (p.0, grown_times-rests n fds s p.0) p.1
  | inr p ↦ grown_times-closed n fds (grown fds s) (omega arith)
]

pub reached-closed : (start : ℕ) (fds : List Fd) (s : ℕ) → IsReached start fds s → grown fds s ≡ s → IsLeastClosed start fds s
reached-closed start fds s r e = record { contains = r.contains; closed = rests-closed fds s e; least = r.below }

-- where a pass adds something less is missing
pub grown-smaller : (fds : List Fd) (s : ℕ) → grown fds s ≢ s → missing fds (grown fds s) < missing fds s
grown-smaller fds s adds = elim (pass fds s) [ inl p ↦ absurd (adds p.0) | inr less ↦ less ]

-- the computed form is the closure
pub closure-least : (start : ℕ) (fds : List Fd) → IsLeastClosed start fds (closure start fds)
unfolding closure
closure-least start fds = record {
  contains = grown_times-keeps (length fds) fds start;
  closed = grown_times-closed (length fds) fds start (missing-le fds start);
  least = λ t above closed. grown_times-least (length fds) fds start t closed above;
}
