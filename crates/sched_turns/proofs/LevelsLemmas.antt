-- What stands in a level above some sizes.
use Rattle.std.proofs.Common.{◌≡◌, ◌<◌, ◌≤◌, ◌+◌, ◌-◌, ◌*◌, ◌/◌, ◌^◌, ℕ, zero, suc, List, [], ◌∷◌, length, take, set, get_or, ◌++◌, refl, ap, sym, subst, ◌∙◌, ◌≢◌, add-one, inl, inr, length-append, arith}
use Rattle.std.specs.List.{sum}
use Rattle.std.proofs.lemmas.List.{take_more, get_or_default, get_or-set_other, get_or-set_same, length-set}
use Rattle.std.proofs.Math.ListN.{get_or-append}
use Rattle.std.proofs.Math.Seq.{get_or-append_seam}
use Rattle.std.proofs.lemmas.Bool.{cases_lt}
use Rattle.blz_value.proofs.Lists.{sum-cons}
use Rattle.sched_turns.specs.Sizes.{IsPlaceOf}
use Rattle.sched_turns.specs.Code.Levels.{halved, level_of, lowest, AreLevels, GoesDown}

-- a size above is that of a pair
pub at_pair : (xs : List ℕ) (k m : ℕ) → m ≡ 2 * k → get_or (halved xs) k 0 ≡ get_or xs m 0 + get_or xs (suc m) 0
at_pair [] k m e = refl
at_pair (x ∷ []) zero zero e = omega arith
at_pair (x ∷ []) zero (suc m) e = absurd (omega (arith, e))
at_pair (x ∷ []) (suc k) zero e = absurd (omega (arith, e))
at_pair (x ∷ []) (suc k) (suc m) e = refl
at_pair (x ∷ y ∷ xs) zero zero e = refl
at_pair (x ∷ y ∷ xs) zero (suc m) e = absurd (omega (arith, e))
at_pair (x ∷ y ∷ xs) (suc k) zero e = absurd (omega (arith, e))
at_pair (x ∷ y ∷ xs) (suc k) (suc zero) e = absurd (omega (arith, e))
at_pair (x ∷ y ∷ xs) (suc k) (suc (suc m)) e = at_pair xs k m (omega (arith, e))

-- as many are above as there are pairs, with a last one alone
pub length-halved : (xs : List ℕ) → (length xs ≤ 2 * length (halved xs)) × (2 * length (halved xs) ≤ length xs + 1)
length-halved [] = (omega arith, omega arith)
length-halved (x ∷ []) = (omega arith, omega arith)
length-halved (x ∷ y ∷ xs) = let more = length-halved xs in (omega (arith, more.0), omega (arith, more.1))

-- the sums are equal
pub sum-halved : (xs : List ℕ) → sum (halved xs) ≡ sum xs
sum-halved [] = refl
sum-halved (x ∷ []) = refl
sum-halved (x ∷ y ∷ xs) = omega (arith, sum-cons (x + y) (halved xs), sum-halved xs, sum-cons x (y ∷ xs), sum-cons y xs)

take_none : (k : ℕ) → take {A = ℕ} k [] ≡ []
take_none zero = refl
take_none (suc k) = refl

-- so are those of what stands before a pair
pub sum-take-halved : (xs : List ℕ) (k m : ℕ) → m ≡ 2 * k → sum (take k (halved xs)) ≡ sum (take m xs)
sum-take-halved [] zero zero e = refl
sum-take-halved [] zero (suc m) e = refl
sum-take-halved [] (suc k) zero e = refl
sum-take-halved [] (suc k) (suc m) e = refl
sum-take-halved (x ∷ []) zero zero e = refl
sum-take-halved (x ∷ []) zero (suc m) e = absurd (omega (arith, e))
sum-take-halved (x ∷ []) (suc k) zero e = absurd (omega (arith, e))
sum-take-halved (x ∷ []) (suc k) (suc m) e = ap (λ (zs : List ℕ). sum (x ∷ zs)) (take_none k ∙ sym (take_none m))
sum-take-halved (x ∷ y ∷ xs) zero zero e = refl
sum-take-halved (x ∷ y ∷ xs) zero (suc m) e = absurd (omega (arith, e))
sum-take-halved (x ∷ y ∷ xs) (suc k) zero e = absurd (omega (arith, e))
sum-take-halved (x ∷ y ∷ xs) (suc k) (suc zero) e = absurd (omega (arith, e))
sum-take-halved (x ∷ y ∷ xs) (suc k) (suc (suc m)) e = omega (arith, sum-cons (x + y) (take k (halved xs)), sum-take-halved xs k m (omega (arith, e)), sum-cons x (y ∷ take m xs), sum-cons y (take m xs))

-- one size more
pub sum-take-more : (xs : List ℕ) (k : ℕ) → sum (take (k + 1) xs) ≡ sum (take k xs) + get_or xs k 0
sum-take-more [] k = ap (λ (zs : List ℕ). sum zs) (take_none (k + 1)) ∙ sym (omega (arith, ap (λ (zs : List ℕ). sum zs) (take_none k)))
sum-take-more (x ∷ xs) zero = omega (arith, sum-cons x [])
sum-take-more (x ∷ xs) (suc k) =
    ap (λ n. sum (take n (x ∷ xs))) (let e : suc k + 1 ≡ suc (k + 1) = omega arith in e)
    ∙ omega (arith, sum-cons x (take (k + 1) xs), sum-cons x (take k xs), sum-take-more xs k)

-- a size that is set changes the one above
pub halved-set : (xs : List ℕ) (k m v : ℕ) → k / 2 ≡ m → k < length xs → halved (set xs k v) ≡ set (halved xs) m (get_or (halved (set xs k v)) m 0)
halved-set [] k m v e within = absurd (omega (arith, within))
halved-set (x ∷ []) zero zero v e within = refl
halved-set (x ∷ []) zero (suc m) v e within = absurd (omega (arith, e))
halved-set (x ∷ []) (suc k) m v e within = absurd (omega (arith, within))
halved-set (x ∷ y ∷ xs) zero zero v e within = refl
halved-set (x ∷ y ∷ xs) zero (suc m) v e within = absurd (omega (arith, e))
halved-set (x ∷ y ∷ xs) (suc zero) zero v e within = refl
halved-set (x ∷ y ∷ xs) (suc zero) (suc m) v e within = absurd (omega (arith, e))
halved-set (x ∷ y ∷ xs) (suc (suc k)) zero v e within = absurd (omega (arith, e))
halved-set (x ∷ y ∷ xs) (suc (suc k)) (suc m) v e within = ap (λ zs. (x + y) ∷ zs) (halved-set xs k m v (omega (arith, e)) (omega (arith, within)))

-- ---- levels

-- the level above is that of sums
pub level-more : (xs : List ℕ) (k : ℕ) → level_of xs (k + 1) ≡ halved (level_of xs k)
level-more xs k = ap (level_of xs) (add-one k)

-- each has the same sum
pub sum-level : (xs : List ℕ) (k : ℕ) → sum (level_of xs k) ≡ sum xs
sum-level xs zero = refl
sum-level xs (suc k) = sum-halved (level_of xs k) ∙ sum-level xs k

-- a size is at most the sum
pub size-le-sum : (xs : List ℕ) (k : ℕ) → get_or xs k 0 ≤ sum xs
size-le-sum [] k = omega arith
size-le-sum (x ∷ xs) zero = omega (arith, sum-cons x xs)
size-le-sum (x ∷ xs) (suc k) = omega (arith, sum-cons x xs, size-le-sum xs k)

-- a place before which a number stands is inside
pub inside : (xs : List ℕ) (k n : ℕ) → n < get_or xs k 0 → k < length xs
inside [] k n h = absurd (omega (arith, h))
inside (x ∷ xs) zero n h = omega arith
inside (x ∷ xs) (suc k) n h = omega (arith, inside xs k n h)

-- as a number stands in a pair, it does in one of its sizes
pub stands-down : (xs : List ℕ) (number pair rest place left : ℕ) → IsPlaceOf (halved xs) number pair rest → GoesDown xs pair rest place left → IsPlaceOf xs number place left
stands-down xs number pair rest place left at down = record { before = down.before ∙ at.before; within = down.within }

-- on the left
pub goes-left : (xs : List ℕ) (pair n : ℕ) → n < get_or xs (2 * pair) 0 → GoesDown xs pair n (2 * pair) n
goes-left xs pair n h = record { before = ap (λ s. s + n) (sym (sum-take-halved xs pair (2 * pair) refl)); within = h }

-- on the right
pub goes-right : (xs : List ℕ) (pair n left : ℕ) → n < get_or (halved xs) pair 0 → left ≡ get_or xs (2 * pair) 0 → left ≤ n → GoesDown xs pair n (2 * pair + 1) (n - left)
goes-right xs pair n left h is over =
    let at = at_pair xs pair (2 * pair) refl in
    record {
      before = (let more = sum-take-more xs (2 * pair) in omega (arith, more, sum-take-halved xs pair (2 * pair) refl, is, over));
      within = subst (λ k. n - left < get_or xs k 0) (sym (add-one (2 * pair))) (omega (arith, at, h, is, over));
    }

-- the only size of a level of one at most
pub stands_at_top : (xs : List ℕ) (number : ℕ) → length xs ≤ 1 → number < sum xs → IsPlaceOf xs number 0 number
stands_at_top [] number one h = absurd (omega (arith, h))
stands_at_top (x ∷ []) number one h = record { before = omega arith; within = omega (arith, h, sum-cons x []) }
stands_at_top (x ∷ y ∷ xs) number one h = absurd (omega (arith, one))

-- it is the sum
pub only_size : (xs : List ℕ) → length xs ≤ 1 → get_or xs 0 0 ≡ sum xs
only_size [] one = refl
only_size (x ∷ []) one = omega (arith, sum-cons x [])
only_size (x ∷ y ∷ xs) one = absurd (omega (arith, one))

-- levels of as many sizes are as long
pub level-length : (xs ys : List ℕ) (k : ℕ) → length xs ≡ length ys → length (level_of xs k) ≡ length (level_of ys k)
level-length xs ys zero e = e
level-length xs ys (suc k) e =
    let below = level-length xs ys k e in
    omega (arith, below, length-halved (level_of xs k), length-halved (level_of ys k))

-- ---- a level that is made, or in which a size is set

-- a pair more
pub pairs-more : (xs : List ℕ) (k : ℕ) → 2 * k < length xs → take k (halved xs) ++ get_or (halved xs) k 0 ∷ [] ≡ take (k + 1) (halved xs)
pairs-more xs k some = sym (take_more (halved xs) k 0 (omega (arith, some, (length-halved xs).0)))

-- the next size, as far up as the levels are set
pub set-next : (xs ys : List ℕ) (k place size above : ℕ) → set (level_of xs k) place size ≡ level_of ys k → place < length (level_of xs k)
    → above ≡ get_or (halved (level_of ys k)) (place / 2) 0 → set (level_of xs (k + 1)) (place / 2) above ≡ level_of ys (k + 1)
set-next xs ys k place size above is within e =
    ap (λ (l : List ℕ). set l (place / 2) above) (level-more xs k)
    ∙ ap (set (halved (level_of xs k)) (place / 2)) (e ∙ ap (λ (l : List ℕ). get_or (halved l) (place / 2) 0) (sym is))
    ∙ sym (halved-set (level_of xs k) place (place / 2) size refl within)
    ∙ ap halved is
    ∙ sym (level-more ys k)

pub within-next : (xs : List ℕ) (k place : ℕ) → place < length (level_of xs k) → place / 2 < length (level_of xs (k + 1))
within-next xs k place within =
    omega (arith, (length-halved (level_of xs k)).0, ap (λ (l : List ℕ). length l) (level-more xs k), within)

-- ---- the levels of a tree

module _ (levels : List (List ℕ)) (are : AreLevels levels) where
  -- the last one
  pub last_level : (n : ℕ) → n ≡ length levels → get_or levels (n - 1) [] ≡ level_of (lowest levels) are.last
  last_level n is =
      let e : n - 1 ≡ are.last = omega (arith, is, are.count) in
      ap (λ k. get_or levels k []) e ∙ are.each are.last (omega (arith, are.count))

  pub total_is : (n size : ℕ) (level : List ℕ) → n ≡ length levels → level ≡ get_or levels (n - 1) level → size ≡ get_or level 0 0 → size ≡ sum (lowest levels)
  total_is n size level is at e =
      let l : level ≡ level_of (lowest levels) are.last = at ∙ get_or_default levels (n - 1) level [] (omega (arith, is, are.count)) ∙ last_level n is in
      e
      ∙ ap (λ (xs : List ℕ). get_or xs 0 0) l
      ∙ only_size (level_of (lowest levels) are.last) are.top
      ∙ sum-level (lowest levels) are.last

  -- above all levels
  pub stands_above : (n number : ℕ) → n ≡ length levels → number < sum (lowest levels) → IsPlaceOf (level_of (lowest levels) n) number 0 number
  stands_above n number is below =
      let e : n ≡ are.last + 1 = omega (arith, is, are.count) in
      let level : level_of (lowest levels) n ≡ halved (level_of (lowest levels) are.last) = ap (level_of (lowest levels)) e ∙ level-more (lowest levels) are.last in
      subst (λ (xs : List ℕ). IsPlaceOf xs number 0 number) (sym level)
      (stands_at_top (halved (level_of (lowest levels) are.last)) number
      (omega (arith, (length-halved (level_of (lowest levels) are.last)).1, are.top))
      (omega (arith, below, sum-halved (level_of (lowest levels) are.last), sum-level (lowest levels) are.last)))

  -- a level by its number, counted from 1
  level_at : (k : ℕ) (level : List ℕ) → 0 < k → k ≤ length levels → level ≡ get_or levels (k - 1) level → level ≡ level_of (lowest levels) (k - 1)
  level_at k level some within at = at ∙ get_or_default levels (k - 1) level [] (omega (arith, some, within)) ∙ are.each (k - 1) (omega (arith, some, within))

  -- and so in the next level below
  pub stands_below : (k number pair rest place left : ℕ) (level : List ℕ) → 0 < k → k ≤ length levels → level ≡ get_or levels (k - 1) level
      → IsPlaceOf (level_of (lowest levels) k) number pair rest → GoesDown level pair rest place left → IsPlaceOf (level_of (lowest levels) (k - 1)) number place left
  stands_below k number pair rest place left level some within at stands down =
      let e : k ≡ (k - 1) + 1 = omega (arith, some) in
      let above : level_of (lowest levels) k ≡ halved (level_of (lowest levels) (k - 1)) = ap (level_of (lowest levels)) e ∙ level-more (lowest levels) (k - 1) in
      stands-down (level_of (lowest levels) (k - 1)) number pair rest place left
      (subst (λ (xs : List ℕ). IsPlaceOf xs number pair rest) above stands)
      (subst (λ (xs : List ℕ). GoesDown xs pair rest place left) (level_at k level some within at) down)

  pub rest_below : (k number pair rest : ℕ) (level : List ℕ) → 0 < k → k ≤ length levels → level ≡ get_or levels (k - 1) level
      → IsPlaceOf (level_of (lowest levels) k) number pair rest → rest < get_or (halved level) pair 0
  rest_below k number pair rest level some within at stands =
      let e : k ≡ (k - 1) + 1 = omega (arith, some) in
      let above : level_of (lowest levels) k ≡ halved level = ap (level_of (lowest levels)) e ∙ level-more (lowest levels) (k - 1) ∙ ap halved (sym (level_at k level some within at)) in
      subst (λ (xs : List ℕ). rest < get_or xs pair 0) above stands.within

-- ---- levels that are made one after another

-- the levels so far are those of some sizes
pub record Leads (sizes : List ℕ) (levels : List (List ℕ)) : Type 0 where
  pub each : (k : ℕ) → k < length levels → get_or levels k [] ≡ level_of sizes k

pub leads_none : (sizes : List ℕ) → Leads sizes []
leads_none sizes = record { each = λ k h. absurd (omega (arith, h)) }

pub leads_more : (sizes : List ℕ) (levels more : List (List ℕ)) (level : List ℕ) → Leads sizes levels → level ≡ level_of sizes (length levels) → more ≡ levels ++ level ∷ [] → Leads sizes more
leads_more sizes levels more level leads next is = record {
  each = λ k h.
      subst (λ (ls : List (List ℕ)). get_or ls k [] ≡ level_of sizes k) (sym is)
      (elim (cases_lt k (length levels)) [
        | inl before ↦ get_or-append levels (level ∷ []) [] k before ∙ leads.each k before
        | inr past ↦ (
            let e : k ≡ length levels = omega (arith, past, h, ap (λ (l : List (List ℕ)). length l) is, length-append levels (level ∷ [])) in
            ap (λ n. get_or (levels ++ level ∷ []) n []) e ∙ get_or-append_seam levels level [] [] ∙ next ∙ ap (level_of sizes) (sym e))
      ]);
}

-- all levels
pub levels_made : (sizes : List ℕ) (levels more : List (List ℕ)) (level : List ℕ) → Leads sizes levels → level ≡ level_of sizes (length levels) → more ≡ levels ++ level ∷ [] → length level ≤ 1 → sum sizes < 2 ^ 64
    → AreLevels more × (lowest more ≡ sizes)
levels_made sizes levels more level leads next is one fits =
    let all = leads_more sizes levels more level leads next is in
    let count : length more ≡ length levels + 1 = omega (arith, ap (λ (l : List (List ℕ)). length l) is, length-append levels (level ∷ [])) in
    let low : lowest more ≡ sizes = all.each 0 (omega (arith, count)) in (
      record {
        last = length levels;
        count = count;
        each = λ k h. all.each k h ∙ ap (λ (l : List ℕ). level_of l k) (sym low);
        top = subst (λ (l : List ℕ). length l ≤ 1) (next ∙ ap (λ (l : List ℕ). level_of l (length levels)) (sym low)) one;
        fits = subst (λ (l : List ℕ). sum l < 2 ^ 64) (sym low) fits;
      },
      low,
    )

-- ---- levels in which a size is set

-- the first levels are those of the changed sizes, and those behind them aren't changed yet
pub record SetsOn (old new : List ℕ) (levels : List (List ℕ)) (many k place size : ℕ) : Type 0 where
  pub count : length levels ≡ many
  pub done : (j : ℕ) → j < k → get_or levels j [] ≡ level_of new j
  pub left : (j : ℕ) → k ≤ j → j < length levels → get_or levels j [] ≡ level_of old j
  pub next : set (level_of old k) place size ≡ level_of new k
  pub within : place < length (level_of old k)

module _ (old new : List ℕ) (levels : List (List ℕ)) (many k place size : ℕ) (on : SetsOn old new levels many k place size) where
  pub found_left : (level : List ℕ) → k < many → level ≡ get_or levels k level → level ≡ level_of old k
  found_left level within at = at ∙ get_or_default levels k level [] (omega (arith, within, on.count)) ∙ on.left k (omega arith) (omega (arith, within, on.count))

  pub found_set : (level changed : List ℕ) → k < many → level ≡ get_or levels k level → changed ≡ set level place size → changed ≡ level_of new k
  found_set level changed within at is = is ∙ ap (λ (l : List ℕ). set l place size) (found_left level within at) ∙ on.next

  pub sets_more : (changed : List ℕ) (above : ℕ) → k < many → changed ≡ level_of new k → above ≡ get_or (halved changed) (place / 2) 0
      → SetsOn old new (set levels k changed) many (k + 1) (place / 2) above
  sets_more changed above within is e = record {
    count = length-set levels k changed ∙ on.count;
    done = λ j h. elim (cases_lt j k) [
      | inl before ↦ (let other : j ≢ k = omega (arith, before) in get_or-set_other levels k j changed [] other ∙ on.done j before)
      | inr past ↦ (
          let same : j ≡ k = omega (arith, past, h) in
          ap (λ n. get_or (set levels k changed) n []) same ∙ get_or-set_same levels k changed [] (omega (arith, within, on.count)) ∙ is ∙ ap (level_of new) (sym same))
    ];
    left = λ j past h. (
        let other : j ≢ k = omega (arith, past) in
        get_or-set_other levels k j changed [] other ∙ on.left j (omega (arith, past)) (omega (arith, h, length-set levels k changed)));
    next = set-next old new k place size above on.next on.within (e ∙ ap (λ (l : List ℕ). get_or (halved l) (place / 2) 0) is);
    within = within-next old k place on.within;
  }

-- all are
pub all_set : (levels before : List (List ℕ)) (old new : List ℕ) (k place size : ℕ) (are : AreLevels before) → lowest before ≡ old → SetsOn old new levels (length before) k place size → length before ≤ k → sum new < 2 ^ 64
    → (length new ≡ length old) → AreLevels levels × (lowest levels ≡ new)
all_set levels before old new k place size are low on past fits long =
    let count : length levels ≡ are.last + 1 = omega (arith, on.count, are.count) in
    let lowest_is : lowest levels ≡ new = on.done 0 (omega (arith, past, are.count)) in (
      record {
        last = are.last;
        count = count;
        each = λ j h. on.done j (omega (arith, h, on.count, past)) ∙ ap (λ (l : List ℕ). level_of l j) (sym lowest_is);
        top = subst (λ (l : List ℕ). length (level_of l are.last) ≤ 1) (sym lowest_is) (omega (arith, level-length new old are.last long, subst (λ (l : List ℕ). length (level_of l are.last) ≤ 1) low are.top));
        fits = subst (λ (l : List ℕ). sum l < 2 ^ 64) (sym lowest_is) fits;
      },
      lowest_is,
    )

-- none is, at first
pub sets_first : (levels : List (List ℕ)) (are : AreLevels levels) (old : List ℕ) (place size : ℕ) → lowest levels ≡ old → place < length old → SetsOn old (set old place size) levels (length levels) 0 place size
sets_first levels are old place size low within = record {
  count = refl;
  done = λ j h. absurd (omega (arith, h));
  left = λ j past h. are.each j h ∙ ap (λ (l : List ℕ). level_of l j) low;
  next = refl;
  within = within;
}
