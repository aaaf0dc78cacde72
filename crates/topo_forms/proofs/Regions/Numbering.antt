-- Each node gets a region, and regions come after those that feed them.
use Rattle.std.proofs.Common.{◌≡◌, ◌≢◌, ◌≤◌, ◌<◌, ◌+◌, ◌⊎◌, inl, inr, ℕ, zero, suc, not, ◌&&◌, ◌||◌, Bool, true, false, Option, None, Some, List, [], ◌∷◌, refl, arith, sym, subst, ◌∙◌, bit_or}
use Rattle.std.specs.List.{list_any, find}
use Rattle.std.proofs.lemmas.Bool.{cases_Bool, true≢false}
use Rattle.blz_value.specs.declared.attrs.Fd.{Fd}
use Rattle.blz_value.specs.Bits.{bit_of}
use Rattle.blz_value.proofs.Within.{within-le}
use Rattle.blz_value.proofs.Members.{in-or, in-empty}
use Rattle.blz_value.proofs.Reached.{closure-self, closure-within, closure-trans}
use Rattle.blz_value.specs.Members.{Has}
use Rattle.blz_value.proofs.Membership.{Has-from_any}
use Rattle.blz_value.specs.Graph.{Edge, arrows, is_in, up, together, region, is_blocked, is_next, next, regions_from, SomeHas, AreRegions, InOrder, IsNumbered}
use Rattle.topo_forms.specs.Laws.{RegionsLaw}
use Rattle.blz_value.specs.NumberSets.{below}
use Rattle.blz_value.proofs.Booleans.{not_true, both_true}
use Rattle.blz_value.proofs.Ranges.{Has-below as from_below}
use Rattle.topo_forms.proofs.Regions.Spreading.{in_below}
use Rattle.topo_forms.proofs.Regions.Classes.{are-together, together-up, together-self, same-class, region-is, fed-up}

-- ---- tests of lists

pub any-none : {X : Type 0} (p : X → Bool) (xs : List X) → list_any p xs ≡ false → (x : X) → Has x xs → p x ≡ false
any-none p [] e x h = absurd h
any-none p (y ∷ xs) e x h = elim (cases_Bool (p y)) [
  | inl t ↦ absurd (let bad : true ≡ false = rw t at e in true≢false bad)
  | inr f ↦ elim h [ inl same ↦ subst (λ z. p z ≡ false) same f | inr later ↦ any-none p xs (rw f at e) x later ]
]

pub find-none : {X : Type 0} (p : X → Bool) (xs : List X) → find p xs ≡ None → (x : X) → Has x xs → p x ≡ false
find-none p [] e x h = absurd h
find-none p (y ∷ xs) e x h = elim (cases_Bool (p y)) [
  | inl t ↦ absurd (let bad : Some y ≡ None = rw t at e in cc)
  | inr f ↦ elim h [ inl same ↦ subst (λ z. p z ≡ false) same f | inr later ↦ find-none p xs (rw f at e) x later ]
]

pub find-some : {X : Type 0} (p : X → Bool) (xs : List X) (x : X) → find p xs ≡ Some x → Has x xs × (p x ≡ true)
find-some p [] x e = absurd (let bad : None ≡ Some x = e in cc)
find-some p (y ∷ xs) x e = elim (cases_Bool (p y)) [
  | inl t ↦ let same : Some y ≡ Some x = rw t at e in let one : y ≡ x = cc in (inl one, subst (λ z. p z ≡ true) one t)
  | inr f ↦ let later = find-some p xs x (rw f at e) in (inr later.0, later.1)
]

-- ---- blocked regions

record Block (es : List Edge) (set done : ℕ) : Type 0 where
  edge : Edge
  stands : Has edge es
  into : is_in edge.1 set ≡ true
  fresh : is_in edge.0 done ≡ false
  outside : is_in edge.0 set ≡ false

block : (es : List Edge) (set done : ℕ) → is_blocked es set done ≡ true → Block es set done
block es set done h =
    let found = Has-from_any (λ (e : Edge). is_in e.1 set && (not (is_in e.0 done) && not (is_in e.0 set))) es h in
    let first = both_true (is_in found.0.1 set) (not (is_in found.0.0 done) && not (is_in found.0.0 set)) found.2 in
    let last = both_true (not (is_in found.0.0 done)) (not (is_in found.0.0 set)) first.1 in
    record { edge = found.0; stands = found.1; into = first.0; fresh = not_true (is_in found.0.0 done) last.0; outside = not_true (is_in found.0.0 set) last.1 }

open_edge : (es : List Edge) (set done : ℕ) → is_blocked es set done ≡ false → (e : Edge) → Has e es → is_in e.1 set ≡ true → (is_in e.0 done ≡ true) ⊎ (is_in e.0 set ≡ true)
open_edge es set done h e n i =
    let none = any-none (λ (e : Edge). is_in e.1 set && (not (is_in e.0 done) && not (is_in e.0 set))) es h e n in
    elim (cases_Bool (is_in e.0 done)) [
      | inl d ↦ inl d
      | inr d ↦ elim (cases_Bool (is_in e.0 set)) [
        | inl o ↦ inr o
        | inr o ↦ absurd (let no : true ≡ false = rw (i, d, o) at none in true≢false no)
      ]
    ]

casesB : {P : Type 0} (b : Bool) → (b ≡ true → P) → (b ≡ false → P) → P
casesB true f g = f refl
casesB false f g = g refl

-- ---- how many numbers a set lacks

one_if : Bool → ℕ
one_if true = 0
one_if false = 1

lacking : ℕ → ℕ → ℕ → ℕ
lacking done at zero = 0
lacking done at (suc left) = one_if (is_in at done) + lacking done (at + 1) left

lacking-le : (done at left : ℕ) → lacking done at left ≤ left
unfolding lacking one_if
lacking-le done at zero = omega arith
lacking-le done at (suc left) = casesB (is_in at done) (λ t. rw t (omega (arith, lacking-le done (at + 1) left))) (λ f. rw f (omega (arith, lacking-le done (at + 1) left)))

one_if-or : (x y : Bool) → one_if (x || y) ≤ one_if x
unfolding one_if
one_if-or true y = omega arith
one_if-or false true = omega arith
one_if-or false false = omega arith

lacking-anti : (done set at left : ℕ) → at + left ≤ 64 → lacking (bit_or done set) at left ≤ lacking done at left
unfolding lacking
lacking-anti done set at zero few = omega arith
lacking-anti done set at (suc left) few =
    let h : one_if (is_in at (bit_or done set)) ≤ one_if (is_in at done) = rw (in-or at done set (omega arith)) (one_if-or (is_in at done) (is_in at set)) in
    omega (arith, lacking-anti done set (at + 1) left (omega arith))

lacking-falls : (done set at left j : ℕ) → at + left ≤ 64 → j < left → is_in (at + j) done ≡ false → is_in (at + j) set ≡ true → lacking (bit_or done set) at left < lacking done at left
unfolding lacking one_if
lacking-falls done set at zero j few lt f t = absurd (omega arith)
lacking-falls done set at (suc left) zero few lt f t =
    let z : at + 0 ≡ at = omega arith in
    let f' : is_in at done ≡ false = subst (λ (q : ℕ). is_in q done ≡ false) z f in
    let t' : is_in at set ≡ true = subst (λ (q : ℕ). is_in q set ≡ true) z t in
    let o : is_in at (bit_or done set) ≡ true = in-or at done set (omega arith) ∙ rw (f', t') refl in
    rw (o, f') (omega (arith, lacking-anti done set (at + 1) left (omega arith)))
lacking-falls done set at (suc left) (suc j) few lt f t =
    let z : at + suc j ≡ at + 1 + j = omega arith in
    let h : one_if (is_in at (bit_or done set)) ≤ one_if (is_in at done) = rw (in-or at done set (omega arith)) (one_if-or (is_in at done) (is_in at set)) in
    omega (arith, lacking-falls done set (at + 1) left j (omega arith) (omega arith) (subst (λ (q : ℕ). is_in q done ≡ false) z f) (subst (λ (q : ℕ). is_in q set ≡ true) z t))

lacking-none : (done at left : ℕ) → lacking done at left ≤ 0 → (j : ℕ) → j < left → is_in (at + j) done ≡ true
unfolding lacking one_if
lacking-none done at zero none j lt = absurd (omega arith)
lacking-none done at (suc left) none zero lt = let z : at + 0 ≡ at = omega arith in rw z (casesB (is_in at done) (λ t. t) (λ f. let no : 1 + lacking done (at + 1) left ≤ 0 = rw f at none in absurd (omega arith)))
lacking-none done at (suc left) none (suc j) lt = let z : at + 1 + j ≡ at + suc j = omega arith in subst (λ (q : ℕ). is_in q done ≡ true) z (lacking-none done (at + 1) left (omega arith) j (omega arith))

-- ---- the walk

both-true : (x y : Bool) → not x && not y ≡ true → (x ≡ false) × (y ≡ false)
both-true true y e = absurd cc
both-true false true e = absurd cc
both-true false false e = (refl, refl)

module _ (count : ℕ) (edges : List Edge) (few : count ≤ 64) (fits : (e : Edge) → Has e edges → (e.0 < count) × (e.1 < count)) where
  abbrev ar : List Fd
  ar = arrows edges

  -- who blocks has a smaller set of those that reach it
  smaller : (c done : ℕ) → c < count → (b : Block edges (region ar count c) done) → up ar b.edge.0 < up ar c
  smaller c done lt b =
      let f = fits b.edge b.stands in
      let into : together ar c b.edge.1 ≡ true = sym (region-is ar count c b.edge.1 few f.1) ∙ b.into in
      let out : together ar c b.edge.0 ≡ false = sym (region-is ar count c b.edge.0 few f.0) ∙ b.outside in
      let one : is_in b.edge.0 (up ar b.edge.1) ≡ true = fed-up edges b.edge (omega arith) (omega arith) b.stands in
      let there : is_in b.edge.0 (up ar c) ≡ true = closure-trans ar (bit_of c) b.edge.1 b.edge.0 (omega arith) (together-up ar c b.edge.1 into) one in
      let apart : up ar b.edge.0 ≢ up ar c = (λ e.
      let back : is_in c (up ar b.edge.0) ≡ true = rw e (closure-self ar c (omega arith)) in
      let no : together ar c b.edge.0 ≡ true = are-together ar c b.edge.0 there back in cc) in
      omega (arith, within-le _ _ (closure-within ar (bit_of c) b.edge.0 there), apart)

  -- where a node has no number, some region may be next
  exists : (k c done : ℕ) → up ar c < k → c < count → is_in c done ≡ false → (d : ℕ) × (d < count) × (is_next edges ar count done d ≡ true)
  exists zero c done le lt f = absurd (omega arith)
  exists (suc k) c done le lt f = casesB (is_blocked edges (region ar count c) done)
      (λ t. let b = block edges (region ar count c) done t in exists k b.edge.0 done (let s : up ar b.edge.0 < up ar c = smaller c done lt b in omega arith) (fits b.edge b.stands).0 b.fresh)
      (λ o. (c, lt, rw (f, o) refl))

  found : (done c : ℕ) → next edges ar count done ≡ Some c → (c < count) × (is_in c done ≡ false) × (is_blocked edges (region ar count c) done ≡ false)
  found done c e =
      let p = find-some (is_next edges ar count done) (below count) c e in
      let q = both-true (is_in c done) (is_blocked edges (region ar count c) done) p.1 in
      (from_below count c p.0, q.0, q.1)

  none_left : (done : ℕ) → next edges ar count done ≡ None → (c : ℕ) → c < count → is_in c done ≡ true
  none_left done e c lt = casesB (is_in c done) (λ t. t) (λ f.
      let x = exists (suc (up ar c)) c done (omega arith) lt f in
      let no : is_next edges ar count done x.0 ≡ false = find-none (is_next edges ar count done) (below count) e x.0 (in_below count x.0 x.1) in
      let yes : is_next edges ar count done x.0 ≡ true = x.2 in absurd cc)

  own : (c : ℕ) → c < count → is_in c (region ar count c) ≡ true
  own c lt = region-is ar count c c few lt ∙ together-self ar c (omega arith)

  fewer : (done c : ℕ) → c < count → is_in c done ≡ false → lacking (bit_or done (region ar count c)) 0 count < lacking done 0 count
  fewer done c lt f =
      let z : c ≡ 0 + c = omega arith in
      lacking-falls done (region ar count c) 0 count c (omega arith) lt (subst (λ (q : ℕ). is_in q done ≡ false) z f) (subst (λ (q : ℕ). is_in q (region ar count c) ≡ true) z (own c lt))

  -- the regions from here on, by the next node
  abbrev continued : ℕ → ℕ → Option ℕ → List ℕ
  continued left done None = []
  continued left done (Some c) = region ar count c ∷ regions_from edges ar count left (bit_or done (region ar count c))

  abbrev Covers : ℕ → ℕ → List ℕ → Type 0
  Covers c done sets = (is_in c done ≡ true) ⊎ SomeHas c sets

  covers : (left done : ℕ) → lacking done 0 count ≤ left → (c : ℕ) → c < count → Covers c done (regions_from edges ar count left done)
  covers zero done le c lt = let z : 0 + c ≡ c = omega arith in inl (subst (λ (q : ℕ). is_in q done ≡ true) z (lacking-none done 0 count le c lt))
  covers (suc left) done le c lt = by (next edges ar count done) refl (λ d l. covers left d l c lt)
    where
      split : (set : ℕ) (sets : List ℕ) → Covers c (bit_or done set) sets → Covers c done (set ∷ sets)
      split set sets (inr h) = inr (inr h)
      split set sets (inl t) = casesB (is_in c done) (λ d. inl d) (λ d. inr (inl (let e : (is_in c done || is_in c set) ≡ true = sym (in-or c done set (omega arith)) ∙ t in rw d at e)))

      by : (o : Option ℕ) → next edges ar count done ≡ o → ((d : ℕ) → lacking d 0 count ≤ left → Covers c d (regions_from edges ar count left d)) → Covers c done (regions_from edges ar count (suc left) done)
      by None e more = inl (none_left done e c lt)
      by (Some n) e more = let f = found done n e in subst (λ (v : Option ℕ). Covers c done (continued left done v)) (sym e) (split (region ar count n) (regions_from edges ar count left (bit_or done (region ar count n))) (more (bit_or done (region ar count n)) (omega (arith, fewer done n f.0 f.1))))

  classes : (left done : ℕ) → AreRegions edges count (regions_from edges ar count left done)
  classes zero done = tt
  classes (suc left) done = by (next edges ar count done) refl (λ d. classes left d)
    where
      by : (o : Option ℕ) → next edges ar count done ≡ o → ((d : ℕ) → AreRegions edges count (regions_from edges ar count left d)) → AreRegions edges count (regions_from edges ar count (suc left) done)
      by None e more = subst (λ (v : Option ℕ). AreRegions edges count (continued left done v)) (sym e) tt
      by (Some n) e more = subst (λ (v : Option ℕ). AreRegions edges count (continued left done v)) (sym e) (one n (found done n e).0, more (bit_or done (region ar count n)))
        where
          one : (n : ℕ) → n < count → (c d : ℕ) → c < count → d < count → is_in c (region ar count n) ≡ true → is_in d (region ar count n) ≡ together ar c d
          one n ln c d lc ld h =
              let t : together ar n c ≡ true = sym (region-is ar count n c few lc) ∙ h in
              region-is ar count n d few ld ∙ same-class ar n c d (omega arith) (omega arith) (omega arith) t

  order : (left done : ℕ) → InOrder edges done (regions_from edges ar count left done)
  order zero done = tt
  order (suc left) done = by (next edges ar count done) refl (λ d. order left d)
    where
      by : (o : Option ℕ) → next edges ar count done ≡ o → ((d : ℕ) → InOrder edges d (regions_from edges ar count left d)) → InOrder edges done (regions_from edges ar count (suc left) done)
      by None e more = subst (λ (v : Option ℕ). InOrder edges done (continued left done v)) (sym e) tt
      by (Some n) e more = subst (λ (v : Option ℕ). InOrder edges done (continued left done v)) (sym e) (open_edge edges (region ar count n) done (found done n e).2, more (bit_or done (region ar count n)))

  pub numbered : IsNumbered count edges (regions_from edges ar count count 0)
  numbered = record {
    cover = λ c lt. only c (covers count 0 (lacking-le 0 0 count) c lt);
    classes = classes count 0;
    order = order count 0;
  }
    where
      only : (c : ℕ) → Covers c 0 (regions_from edges ar count count 0) → SomeHas c (regions_from edges ar count count 0)
      only c (inl t) = let f : is_in c 0 ≡ false = in-empty c in absurd cc
      only c (inr h) = h

pub regions_law : RegionsLaw
regions_law count edges few fits = numbered count edges (omega (arith, few)) fits
