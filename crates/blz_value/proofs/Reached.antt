-- What holds of closures, and who is in one.
use Rattle.std.proofs.Common.{◌≡◌, ◌≢◌, ◌<◌, ◌⊎◌, inl, inr, ℕ, true, false, ◌||◌, if◌then◌else◌, List, [], ◌∷◌, map, refl, arith, ap, sym, subst, ◌∙◌, bit_or}
use Rattle.std.proofs.lemmas.Bool.{cases_Bool}
use Rattle.blz_value.specs.Members.{Has}
use Rattle.blz_value.specs.declared.attrs.Fd.{Fd}
use Rattle.blz_value.specs.Bits.{bit_of, meets}
use Rattle.blz_value.specs.Closure.{within, closure, IsClosed, IsLeastClosed, IsCompatible}
use Rattle.blz_value.proofs.Within.{within-refl, within-trans, within-le, within-antisym, within-empty, within-or_l, within-or_r, or-within}
use Rattle.blz_value.proofs.Members.{meets-within, within-meets, in-within, in-or, in-empty}
use Rattle.blz_value.proofs.Least.{closure-least}

-- the closure by its definition

pub least-one : (start : ℕ) (fds : List Fd) (s t : ℕ) → IsLeastClosed start fds s → IsLeastClosed start fds t → s ≡ t
least-one start fds s t p q = within-antisym s t (p.least t q.contains q.closed) (q.least s p.contains p.closed)

pub least-monotone : (a b : ℕ) (fds : List Fd) (s t : ℕ) → within a b ≡ true → IsLeastClosed a fds s → IsLeastClosed b fds t → within s t ≡ true
least-monotone a b fds s t below p q = p.least t (within-trans a b t below q.contains) q.closed

-- the computed form is each set that is the closure
pub closure-is : (start : ℕ) (fds : List Fd) (s : ℕ) → IsLeastClosed start fds s → s ≡ closure start fds
closure-is start fds s p = least-one start fds s (closure start fds) p (closure-least start fds)

-- a key that isn't empty, told the closure of the gate
pub compatible-from : (gate key : ℕ) (fds : List Fd) (s : ℕ) → key ≢ 0 → IsLeastClosed gate fds s → within key s ≡ true → IsCompatible gate key fds
compatible-from gate key fds s filled closed inside = record { filled = filled; reached = s; least = closed; inside = inside }

pub compatible-inside : (gate key : ℕ) (fds : List Fd) (s : ℕ) → IsLeastClosed gate fds s → IsCompatible gate key fds → within key s ≡ true
compatible-inside gate key fds s closed p = subst (λ (t : ℕ). within key t ≡ true) (least-one gate fds p.reached s p.least closed) p.inside

-- a dependency that a list of rules makes, in a set that is closed under all of them
pub closed-map : {X : Type 0} (arrow : X → Fd) (xs : List X) (s : ℕ) → IsClosed (map arrow xs) s → (x : X) → Has x xs → within (arrow x).from.bits s ≡ true → within (arrow x).to.bits s ≡ true
closed-map {X} arrow xs s closed x stands = closed (arrow x) (mapped xs stands)
  where
    mapped : (ys : List X) → Has x ys → Has (arrow x) (map arrow ys)
    mapped [] n = n
    mapped (y ∷ ys) (inl e) = inl (ap arrow e)
    mapped (y ∷ ys) (inr n) = inr (mapped ys n)

-- closures of single numbers

module _ (fds : List Fd) where
  -- each number is in its own closure
  pub closure-self : (n : ℕ) → n < 64 → meets (bit_of n) (closure (bit_of n) fds) ≡ true
  closure-self n lt = let own : IsLeastClosed (bit_of n) fds (closure (bit_of n) fds) = closure-least (bit_of n) fds in within-meets n _ lt own.contains

  -- the closure of a number in a closure lies in that closure
  pub closure-within : (s n : ℕ) → meets (bit_of n) (closure s fds) ≡ true → within (closure (bit_of n) fds) (closure s fds) ≡ true
  closure-within s n h =
      let all : IsLeastClosed s fds (closure s fds) = closure-least s fds in
      let own : IsLeastClosed (bit_of n) fds (closure (bit_of n) fds) = closure-least (bit_of n) fds in
      own.least (closure s fds) (meets-within n (closure s fds) h) all.closed

  pub closure-trans : (s m n : ℕ) → n < 64 → meets (bit_of m) (closure s fds) ≡ true → meets (bit_of n) (closure (bit_of m) fds) ≡ true → meets (bit_of n) (closure s fds) ≡ true
  closure-trans s m n lt h k = in-within n (closure (bit_of m) fds) (closure s fds) lt k (closure-within s m h)

  -- the closure is the smaller number where it is the smaller set
  pub closure-lt : (h m : ℕ) → h < 64 → meets (bit_of m) (closure (bit_of h) fds) ≡ true → meets (bit_of h) (closure (bit_of m) fds) ≡ false → closure (bit_of m) fds < closure (bit_of h) fds
  closure-lt h m lt there back =
      let below : within (closure (bit_of m) fds) (closure (bit_of h) fds) ≡ true = closure-within (bit_of h) m there in
      let other : closure (bit_of m) fds ≢ closure (bit_of h) fds = (λ e.
      let self : meets (bit_of h) (closure (bit_of m) fds) ≡ true = rw e (closure-self h lt) in cc) in
      omega (arith, within-le _ _ below, other)

-- a set, with the sets of those dependencies that start within another

abbrev spread : (Fd → ℕ) → ℕ → ℕ → List Fd → ℕ
spread added from s [] = s
spread added from s (fd ∷ fds) = bit_or (if within fd.from.bits from then added fd else 0) (spread added from s fds)

-- a dependency of the list that starts within the set `from`, and to whose added set n belongs
pub record LeadsTo (added : Fd → ℕ) (from : ℕ) (fds : List Fd) (n : ℕ) : Type 0 where
  pub fd : Fd
  pub stands : Has fd fds
  pub fires : within fd.from.bits from ≡ true
  pub there : meets (bit_of n) (added fd) ≡ true

module _ (added : Fd → ℕ) (from s : ℕ) where
  spread-start : (fds : List Fd) → within s (spread added from s fds) ≡ true
  spread-start [] = within-refl s
  spread-start (fd ∷ fds) = within-trans s (spread added from s fds) _ (spread-start fds) (within-or_r (if within fd.from.bits from then added fd else 0) (spread added from s fds))

  spread-added : (fds : List Fd) (fd : Fd) → Has fd fds → within fd.from.bits from ≡ true → within (added fd) (spread added from s fds) ≡ true
  spread-added [] fd n fires = absurd n
  spread-added (w ∷ fds) fd (inl e) fires =
      subst (λ (z : Fd). within z.from.bits from ≡ true → within (added z) (spread added from s (w ∷ fds)) ≡ true) e
      (λ f. rw f (within-or_l (added w) (spread added from s fds))) fires
  spread-added (w ∷ fds) fd (inr n) fires = within-trans (added fd) (spread added from s fds) _ (spread-added fds fd n fires) (within-or_r (if within w.from.bits from then added w else 0) (spread added from s fds))

  later : (w : Fd) (fds : List Fd) (n : ℕ) → (meets (bit_of n) s ≡ true) ⊎ LeadsTo added from fds n → (meets (bit_of n) s ≡ true) ⊎ LeadsTo added from (w ∷ fds) n
  later w fds n (inl h) = inl h
  later w fds n (inr l) = inr (record { fd = l.fd; stands = inr l.stands; fires = l.fires; there = l.there })

  in-spread : (fds : List Fd) (n : ℕ) → n < 64 → meets (bit_of n) (spread added from s fds) ≡ true → (meets (bit_of n) s ≡ true) ⊎ LeadsTo added from fds n
  in-spread [] n lt h = inl h
  in-spread (w ∷ fds) n lt h = go (in-spread fds n lt) (cases_Bool (within w.from.bits from)) (cases_Bool (meets (bit_of n) (added w)))
    where
      go : (meets (bit_of n) (spread added from s fds) ≡ true → (meets (bit_of n) s ≡ true) ⊎ LeadsTo added from fds n) → (within w.from.bits from ≡ true) ⊎ (within w.from.bits from ≡ false) → (meets (bit_of n) (added w) ≡ true) ⊎ (meets (bit_of n) (added w) ≡ false) → (meets (bit_of n) s ≡ true) ⊎ LeadsTo added from (w ∷ fds) n
      go rest (inl f) (inl t) = inr (record { fd = w; stands = inl refl; fires = f; there = t })
      go rest (inl f) (inr t) = later w fds n (rest (let either : (meets (bit_of n) (added w) || meets (bit_of n) (spread added from s fds)) ≡ true = sym (in-or n (added w) (spread added from s fds) lt) ∙ rw f at h in rw t at either))
      go rest (inr f) t = later w fds n (rest (let either : (meets (bit_of n) 0 || meets (bit_of n) (spread added from s fds)) ≡ true = sym (in-or n 0 (spread added from s fds) lt) ∙ rw f at h in rw (in-empty n) at either))

-- who is in a closure is in the start, or a dependency that starts within the closure leads to it

abbrev pub to_of : Fd → ℕ
to_of fd = fd.to.bits

module _ (start : ℕ) (fds : List Fd) (s : ℕ) (closed_set : IsLeastClosed start fds s) where
  spread-below : (part : List Fd) → ((fd : Fd) → Has fd part → Has fd fds) → within (spread to_of s start part) s ≡ true
  spread-below [] are = closed_set.contains
  spread-below (w ∷ part) are = or-within (if within w.from.bits s then to_of w else 0) (spread to_of s start part) s (one (cases_Bool (within w.from.bits s))) (spread-below part (λ fd n. are fd (inr n)))
    where
      one : (within w.from.bits s ≡ true) ⊎ (within w.from.bits s ≡ false) → within (if within w.from.bits s then to_of w else 0) s ≡ true
      one (inl f) = rw f (closed_set.closed w (are w (inl refl)) f)
      one (inr f) = rw f (within-empty s)

  pub reached : (n : ℕ) → n < 64 → meets (bit_of n) s ≡ true → (meets (bit_of n) start ≡ true) ⊎ LeadsTo to_of s fds n
  reached n lt h =
      let below : within (spread to_of s start fds) s ≡ true = spread-below fds (λ fd n. n) in
      let above : within s (spread to_of s start fds) ≡ true = closed_set.least _ (spread-start to_of s start fds) (λ w stands f. spread-added to_of s start fds w stands (within-trans w.from.bits _ s f below)) in
      in-spread to_of s start fds n lt (in-within n s _ lt h above)

-- where each dependency starts at one number, who is in a closure is in the start, or in the closure of what a dependency that starts within the start leads to

pub record IsSingle (fd : Fd) : Type 0 where
  pub number : ℕ
  pub small : number < 64
  pub is : fd.from.bits ≡ bit_of number

module _ (fds : List Fd) where
  abbrev pub cone_of : Fd → ℕ
  cone_of fd = closure fd.to.bits fds

module _ (fds : List Fd) (single : (fd : Fd) → Has fd fds → IsSingle fd) (s : ℕ) where
  spread-closed : IsClosed fds (spread (cone_of fds) s s fds)
  spread-closed = go
    where
      go : (fd : Fd) → Has fd fds → within fd.from.bits (spread (cone_of fds) s s fds) ≡ true → within fd.to.bits (spread (cone_of fds) s s fds) ≡ true
      go fd stands f =
          let one = single fd stands in
          let here : within (bit_of one.number) (spread (cone_of fds) s s fds) ≡ true = rw one.is at f in
          fired one (in-spread (cone_of fds) s s fds one.number one.small (within-meets one.number _ one.small here))
        where
          fired : (one : IsSingle fd) → (meets (bit_of one.number) s ≡ true) ⊎ LeadsTo (cone_of fds) s fds one.number → within fd.to.bits (spread (cone_of fds) s s fds) ≡ true
          fired one (inl t) =
              let own : IsLeastClosed fd.to.bits fds (closure fd.to.bits fds) = closure-least fd.to.bits fds in
              let fires : within fd.from.bits s ≡ true = rw one.is (meets-within one.number s t) in
              within-trans fd.to.bits (closure fd.to.bits fds) _ own.contains (spread-added (cone_of fds) s s fds fd stands fires)
          fired one (inr l) =
              let own : IsLeastClosed l.fd.to.bits fds (closure l.fd.to.bits fds) = closure-least l.fd.to.bits fds in
              let fires : within fd.from.bits (closure l.fd.to.bits fds) ≡ true = rw one.is (meets-within one.number _ l.there) in
              within-trans fd.to.bits (closure l.fd.to.bits fds) _ (own.closed fd stands fires) (spread-added (cone_of fds) s s fds l.fd l.stands l.fires)

  pub unfolds : (n : ℕ) → n < 64 → meets (bit_of n) (closure s fds) ≡ true → (meets (bit_of n) s ≡ true) ⊎ LeadsTo (cone_of fds) s fds n
  unfolds n lt h =
      let all : IsLeastClosed s fds (closure s fds) = closure-least s fds in
      let inside : within (closure s fds) (spread (cone_of fds) s s fds) ≡ true = all.least _ (spread-start (cone_of fds) s s fds) spread-closed in
      in-spread (cone_of fds) s s fds n lt (in-within n (closure s fds) _ lt h inside)

-- the other way round, whatever the dependencies start at
pub folds : (fds : List Fd) (s n : ℕ) → n < 64 → (meets (bit_of n) s ≡ true) ⊎ LeadsTo (cone_of fds) s fds n → meets (bit_of n) (closure s fds) ≡ true
folds fds s n lt (inl t) = let all : IsLeastClosed s fds (closure s fds) = closure-least s fds in in-within n s (closure s fds) lt t all.contains
folds fds s n lt (inr l) =
    let all : IsLeastClosed s fds (closure s fds) = closure-least s fds in
    let own : IsLeastClosed l.fd.to.bits fds (closure l.fd.to.bits fds) = closure-least l.fd.to.bits fds in
    let to : within l.fd.to.bits (closure s fds) ≡ true = all.closed l.fd l.stands (within-trans l.fd.from.bits s _ l.fires all.contains) in
    in-within n (closure l.fd.to.bits fds) (closure s fds) lt l.there (own.least (closure s fds) to all.closed)
