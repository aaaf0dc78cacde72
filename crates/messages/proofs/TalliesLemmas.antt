-- The count of the feeds that lack something of a partition: a partition is whole where it is 0, and a feed that hears changes it by what it lacked and lacks.
use Rattle.std.proofs.Common.{◌≡◌, ◌≢◌, refl, ap, sym, subst, set, ◌∙◌, ℕ, zero, suc, ◌+◌, ◌<◌, ◌≤◌, ◌==◌, ◌&&◌, ◌||◌, ◌++◌, nat_eq, nat_le, nat_lt, Bool, true, false, not, cond, Option, None, Some, List, [], ◌∷◌, length, length-append, map, get_or, arith, inl, inr}
use Rattle.std.specs.List.{list_any, list_all, count_by}
use Rattle.std.specs.Option.{option_map_or, option_and_then, is_some}
use Rattle.std.proofs.Math.ListN.{get_or-append, length-set}
use Rattle.std.proofs.Math.Seq.{get_or-append_seam}
use Rattle.std.proofs.lemmas.Bool.{cases_Bool, cases_lt, cases_eq, ne_eqb, lt-ltb}
use Rattle.std.proofs.lemmas.List.{get_or_read, get_or-set_same, get_or-set_other}
use Rattle.std.proofs.lemmas.List.Sums.{sum_by-cons}
use Rattle.std.proofs.lemmas.Option.{slice_get_past}
use Rattle.blz_pool.specs.Pool.{number_of}
use Rattle.blz_pool.proofs.Positions.{position_from-last}
use Rattle.blz_value.specs.Record.{Row}
use Rattle.blz_value.specs.Message.{is_same_row}
use Rattle.blz_value.proofs.Booleans.{or_false}
use Rattle.messages.specs.PartitionCounts.{have_in, need_in, have_at, need_at, is_met}
use Rattle.messages.specs.Feeds.{FeedView, is_enough, is_whole_in}
use Rattle.messages.specs.Views.{have_of, need_of, feed_view, views_of}
use Rattle.messages.specs.Code.Tallies.{lacks_at, IsTallied, IsAdded}
use Rattle.messages.specs.declared.counter.Counter.{Counter}
use Rattle.messages.specs.declared.feed.Feed.{Feed}
use Rattle.messages.specs.declared.port.Port.{Port}
use Rattle.messages.proofs.FeedsLemmas.{views-all}

-- ---- counts of a list

abbrev bit : Bool → ℕ
bit b = cond b 1 0

module _ {X : Type 0} (p : X → Bool) where
  count-cons : (x : X) (xs : List X) → count_by p (x ∷ xs) ≡ bit (p x) + count_by p xs
  count-cons x xs = sum_by-cons (λ y. cond (p y) 1 0) x xs

  -- one element in the place of another
  pub count-set : (xs : List X) (k : ℕ) (x d : X) → k < length xs → count_by p (set xs k x) + bit (p (get_or xs k d)) ≡ count_by p xs + bit (p x)
  count-set [] k x d below = absurd (omega arith)
  count-set (y ∷ xs) zero x d below =
      let new = count-cons x xs in
      let old = count-cons y xs in
      omega (arith, new, old)
  count-set (y ∷ xs) (suc k) x d below =
      let new = count-cons y (set xs k x) in
      let old = count-cons y xs in
      let rest = count-set xs k x d (omega (arith, below)) in
      omega (arith, new, old, rest)

  pub one-counted : (xs : List X) (k : ℕ) (d : X) → k < length xs → bit (p (get_or xs k d)) ≤ count_by p xs
  one-counted [] k d below = absurd (omega arith)
  one-counted (y ∷ xs) zero d below = (let cons = count-cons y xs in omega (arith, cons))
  one-counted (y ∷ xs) (suc k) d below =
      let cons = count-cons y xs in
      let rest = one-counted xs k d (omega (arith, below)) in
      omega (arith, cons, rest)

  -- the count has room for what is read of one
  pub least-counted : (xs : List X) (k : ℕ) (x : X) (b : Bool) (n : ℕ) → k < length xs → x ≡ get_or xs k x → b ≡ p x → n ≡ count_by p xs → cond b 1 0 ≤ n
  least-counted xs k x b n below at is counted =
      let own = one-counted xs k x below in
      let same : bit b ≡ bit (p (get_or xs k x)) = ap bit (is ∙ ap p at) in
      omega (arith, own, same, counted)

  -- all fail where the count is 0
  pub all-fail : (xs : List X) → list_all (λ x. not (p x)) xs ≡ nat_eq (count_by p xs) 0
  all-fail [] = refl
  all-fail (x ∷ xs) = elim (cases_Bool (p x)) [
    | inl t ↦
        let cons = count-cons x xs in
        let one = ap bit t in
        ap (λ b. not b && list_all (λ y. not (p y)) xs) t ∙ sym (ne_eqb (count_by p (x ∷ xs)) 0 (λ none. omega (arith, cons, one, none)))
    | inr f ↦
        let cons = count-cons x xs in
        let none = ap bit f in
        let same : count_by p (x ∷ xs) ≡ count_by p xs = omega (arith, cons, none) in
        ap (λ b. not b && list_all (λ y. not (p y)) xs) f ∙ all-fail xs ∙ sym (ap (λ n. nat_eq n 0) same)
  ]

  -- one passes where it isn't
  pub any-passes : (xs : List X) → list_any p xs ≡ nat_lt 0 (count_by p xs)
  any-passes [] = refl
  any-passes (x ∷ xs) = elim (cases_Bool (p x)) [
    | inl t ↦
        let cons = count-cons x xs in
        let one = ap bit t in
        ap (λ b. b || list_any p xs) t ∙ sym (lt-ltb 0 (count_by p (x ∷ xs)) (omega (arith, cons, one)))
    | inr f ↦
        let cons = count-cons x xs in
        let none = ap bit f in
        let same : count_by p (x ∷ xs) ≡ count_by p xs = omega (arith, cons, none) in
        ap (λ b. b || list_any p xs) f ∙ any-passes xs ∙ sym (ap (λ n. nat_lt 0 n) same)
  ]

-- tests that agree, place by place
module _ {X : Type 0} where
  pub count-places : (p q : X → Bool) (xs ys : List X) → length ys ≡ length xs → ((k : ℕ) (d : X) → k < length xs → q (get_or ys k d) ≡ p (get_or xs k d)) → count_by q ys ≡ count_by p xs
  count-places p q [] [] as_long same = refl
  count-places p q [] (y ∷ ys) as_long same = absurd (omega (arith, as_long))
  count-places p q (x ∷ xs) [] as_long same = absurd (omega (arith, as_long))
  count-places p q (x ∷ xs) (y ∷ ys) as_long same =
      let first : q y ≡ p x = same 0 x (let below : 0 < suc (length xs) = omega arith in below) in
      let rest : count_by q ys ≡ count_by p xs = count-places p q xs ys (omega (arith, as_long)) (λ k d below. same (suc k) d (let more : suc k < suc (length xs) = omega (arith, below) in more)) in
      count-cons q y ys ∙ ap (λ b. bit b + count_by q ys) first ∙ ap (λ n. bit (p x) + n) rest ∙ sym (count-cons p x xs)

  pub all-places : (p q : X → Bool) (xs : List X) → ((k : ℕ) (d : X) → k < length xs → q (get_or xs k d) ≡ p (get_or xs k d)) → list_all q xs ≡ list_all p xs
  all-places p q [] same = refl
  all-places p q (x ∷ xs) same =
      ap (λ b. b && list_all q xs) (same 0 x (let below : 0 < suc (length xs) = omega arith in below))
      ∙ ap (λ b. p x && b) (all-places p q xs (λ k d below. same (suc k) d (let more : suc k < suc (length xs) = omega (arith, below) in more)))

  pub map-places : {Y : Type 0} (f g : X → Y) (xs : List X) → ((k : ℕ) (d : X) → k < length xs → g (get_or xs k d) ≡ f (get_or xs k d)) → map g xs ≡ map f xs
  map-places f g [] same = refl
  map-places f g (x ∷ xs) same =
      ap (λ y. y ∷ map g xs) (same 0 x (let below : 0 < suc (length xs) = omega arith in below))
      ∙ ap (λ l. f x ∷ l) (map-places f g xs (λ k d below. same (suc k) d (let more : suc k < suc (length xs) = omega (arith, below) in more)))

-- ---- whether a partition is whole

passes-lacks : (c e : Bool) → (not c || e) ≡ not (c && not e)
passes-lacks true true = refl
passes-lacks true false = refl
passes-lacks false e = refl

none_lacks : (c : Bool) → (not c || false) ≡ not c
none_lacks true = refl
none_lacks false = refl

none_and_some : (n : ℕ) → (nat_lt 0 n && nat_eq n 0) ≡ false
none_and_some zero = refl
none_and_some (suc n) = ap (λ b. nat_lt 0 (suc n) && b) (ne_eqb (suc n) 0 (λ none. omega (arith, none))) ∙ and_false (nat_lt 0 (suc n))
  where
    and_false : (b : Bool) → (b && false) ≡ false
    and_false true = refl
    and_false false = refl

module _ (ports : List Port) (feeds : List Feed) (keys : List Row) (carrying : ℕ) (lacking : List ℕ) (t : IsTallied (length keys) carrying feeds lacking) (key : Row) where
  pub whole_known : (number : ℕ) → number_of keys key ≡ Some number → number < length keys → is_whole_in (views_of ports feeds keys carrying) key ≡ (nat_lt 0 carrying && nat_eq (get_or lacking number 0) 0)
  whole_known number found within =
      let enough : Option ℕ → Feed → Bool = λ at f. is_met (option_and_then (need_at f.counts.items) at) (option_map_or (have_at f.counts.items) at 0) in
      ap (λ b. nat_lt 0 carrying && b) (
      views-all (feed_view keys) (λ x. not x.carries || is_enough x key) feeds
      ∙ ap (λ (at : Option ℕ). list_all (λ f. not f.carries || enough at f) feeds) found
      ∙ all-places (λ f. not (lacks_at number f)) (λ f. not f.carries || enough (Some number) f) feeds (λ k d below. passes-lacks (get_or feeds k d).carries (enough (Some number) (get_or feeds k d)))
      ∙ all-fail (lacks_at number) feeds
      ∙ ap (λ n. nat_eq n 0) (sym (t.each number within)))

  pub whole_unknown : number_of keys key ≡ None → is_whole_in (views_of ports feeds keys carrying) key ≡ false
  whole_unknown found =
      let enough : Option ℕ → Feed → Bool = λ at f. is_met (option_and_then (need_at f.counts.items) at) (option_map_or (have_at f.counts.items) at 0) in
      ap (λ b. nat_lt 0 carrying && b) (
      views-all (feed_view keys) (λ x. not x.carries || is_enough x key) feeds
      ∙ ap (λ (at : Option ℕ). list_all (λ f. not f.carries || enough at f) feeds) found
      ∙ all-places (λ f. not f.carries) (λ f. not f.carries || enough None f) feeds (λ k d below. none_lacks (get_or feeds k d).carries)
      ∙ all-fail (λ f. f.carries) feeds
      ∙ ap (λ n. nat_eq n 0) (sym t.all))
      ∙ none_and_some carrying

-- ---- a partition gets a number

nothing_there : (counts : List Counter) (number : ℕ) → length counts ≤ number → (have_at counts number ≡ 0) × (need_at counts number ≡ None)
nothing_there counts number past = (ap have_in (slice_get_past counts number past), ap need_in (slice_get_past counts number past))

module _ (keys : List Row) (key : Row) where
  -- the others keep theirs
  number-more : (k : Row) → number_of (keys ++ key ∷ []) k ≡ cond (is_some (number_of keys k)) (number_of keys k) (cond (is_same_row key k) (Some (0 + length keys)) None)
  number-more k = position_from-last (λ held. is_same_row held k) 0 keys key

  module _ (counts : List Counter) (few : length counts ≤ length keys) where
    have-by : (at : Option ℕ) (b : Bool) → option_map_or (have_at counts) (cond (is_some at) at (cond b (Some (0 + length keys)) None)) 0 ≡ option_map_or (have_at counts) at 0
    have-by (Some n) b = refl
    have-by None true = (nothing_there counts (0 + length keys) (omega (arith, few))).0
    have-by None false = refl

    have-more : (k : Row) → have_of (keys ++ key ∷ []) counts k ≡ have_of keys counts k
    have-more k = ap (λ (at : Option ℕ). option_map_or (have_at counts) at 0) (number-more k) ∙ have-by (number_of keys k) (is_same_row key k)

    need-by : (at : Option ℕ) (b : Bool) → option_and_then (need_at counts) (cond (is_some at) at (cond b (Some (0 + length keys)) None)) ≡ option_and_then (need_at counts) at
    need-by (Some n) b = refl
    need-by None true = (nothing_there counts (0 + length keys) (omega (arith, few))).1
    need-by None false = refl

    need-more : (k : Row) → need_of (keys ++ key ∷ []) counts k ≡ need_of keys counts k
    need-more k = ap (λ (at : Option ℕ). option_and_then (need_at counts) at) (number-more k) ∙ need-by (number_of keys k) (is_same_row key k)

  view-more : (f : Feed) → length f.counts.items ≤ length keys → feed_view (keys ++ key ∷ []) f ≡ feed_view keys f
  view-more f few =
      let with_both : (Row → ℕ) → (Row → Option ℕ) → FeedView = λ have need. record { port = f.port; carries = f.carries; known = (feed_view keys f).known; have = have; need = need } in
      let have : (λ k. have_of (keys ++ key ∷ []) f.counts.items k) ≡ (λ k. have_of keys f.counts.items k) = λ i k. have-more f.counts.items few k i in
      let need : (λ k. need_of (keys ++ key ∷ []) f.counts.items k) ≡ (λ k. need_of keys f.counts.items k) = λ i k. need-more f.counts.items few k i in
      ap (λ h. with_both h (λ k. need_of (keys ++ key ∷ []) f.counts.items k)) have ∙ ap (with_both (λ k. have_of keys f.counts.items k)) need

module _ (carrying : ℕ) (old new : List Row) (was now : List ℕ) (key : Row) (number : ℕ) (h : IsAdded carrying old new was now key number) (feeds : List Feed) (t : IsTallied (length old) carrying feeds was) where
  -- what is seen stays
  pub seen-same : (ports : List Port) → views_of ports feeds new carrying ≡ views_of ports feeds old carrying
  seen-same ports = elim h.grown [
    | inl same ↦ ap (λ keys. views_of ports feeds keys carrying) same.0
    | inr more ↦
        ap (λ keys. views_of ports feeds keys carrying) more.1
        ∙ ap (λ views. record { ports = (views_of ports feeds old carrying).ports; feeds = views; some = nat_lt 0 carrying })
        (map-places (feed_view old) (feed_view (old ++ key ∷ [])) feeds (λ k d below. view-more old key (get_or feeds k d) (t.few k d below)))
  ]

  lacks_new : (f : Feed) → length f.counts.items ≤ length old → lacks_at (length old) f ≡ f.carries
  lacks_new f few =
      let nothing = nothing_there f.counts.items (length old) few in
      ap (λ o. f.carries && not (is_met o (have_at f.counts.items (length old)))) nothing.1 ∙ and_true f.carries
    where
      and_true : (b : Bool) → (b && true) ≡ b
      and_true true = refl
      and_true false = refl

  pub numbered : IsTallied (length new) carrying feeds now
  numbered = elim h.grown [
    | inl same ↦ subst (λ keys. IsTallied (length keys) carrying feeds now) (sym same.0) (subst (λ l. IsTallied (length old) carrying feeds l) (sym same.1) t)
    | inr more ↦
        let long : length new ≡ length old + 1 = ap (length {A = Row}) more.1 ∙ length-append old (key ∷ []) in
        let as_long = t.as_long in
        record {
          as_long = ap (length {A = ℕ}) more.2 ∙ length-append was (carrying ∷ []) ∙ (let one : length was + 1 ≡ length new = omega (arith, long, as_long) in one);
          all = t.all;
          each = λ n below. ap (λ (l : List ℕ). get_or l n 0) more.2 ∙ elim (cases_lt n (length old)) [
            | inl less ↦ get_or-append was (carrying ∷ []) 0 n (omega (arith, less, as_long)) ∙ t.each n less
            | inr past ↦
                let last : n ≡ length was = omega (arith, below, long, past, as_long) in
                let at : n ≡ length old = omega (arith, below, long, past) in
                ap (λ k. get_or (was ++ carrying ∷ []) k 0) last ∙ get_or-append_seam was carrying [] 0
                ∙ t.all
                ∙ sym (ap (λ k. count_by (lacks_at k) feeds) at ∙ count-places (λ f. f.carries) (lacks_at (length old)) feeds feeds refl (λ k d inside. lacks_new (get_or feeds k d) (t.few k d inside)))
          ];
          few = λ k d inside. (let own = t.few k d inside in omega (arith, own, long));
        }
  ]

-- ---- a feed hears

module _ (count carrying : ℕ) (feeds : List Feed) (lacking : List ℕ) (t : IsTallied count carrying feeds lacking) (feed : ℕ) (was now : Feed) (below : feed < length feeds) (is : was ≡ get_or feeds feed was) (carries : now.carries ≡ was.carries) (few : length now.counts.items ≤ count) where
  same_carrying : carrying ≡ count_by (λ f. f.carries) (set feeds feed now)
  same_carrying =
      let changed = count-set (λ (f : Feed). f.carries) feeds feed now was below in
      let first : (get_or feeds feed was).carries ≡ now.carries = ap (λ (f : Feed). f.carries) (sym is) ∙ sym carries in
      let bits = ap bit first in
      let all = t.all in
      omega (arith, changed, bits, all)

  each_few : (k : ℕ) (d : Feed) → k < length (set feeds feed now) → length (get_or (set feeds feed now) k d).counts.items ≤ count
  each_few k d inside = elim (cases_eq k feed) [
    | inl same ↦ subst (λ (f : Feed). length f.counts.items ≤ count) (sym (ap (λ j. get_or (set feeds feed now) j d) same ∙ get_or-set_same feeds feed now d below)) few
    | inr other ↦ subst (λ (f : Feed). length f.counts.items ≤ count) (sym (get_or-set_other feeds feed k now d other)) (t.few k d (subst (λ n. k < n) (length-set feeds feed now) inside))
  ]

  -- it lacks what it lacked
  pub heard_nothing : ((n : ℕ) → lacks_at n now ≡ lacks_at n was) → IsTallied count carrying (set feeds feed now) lacking
  heard_nothing same = record {
    as_long = t.as_long;
    all = same_carrying;
    each = λ n within.
        let changed = count-set (lacks_at n) feeds feed now was below in
        let bits = ap bit (ap (lacks_at n) (sym is) ∙ sym (same n)) in
        let own = t.each n within in
        omega (arith, changed, bits, own);
    few = each_few;
  }

  -- of one partition it may lack something else
  pub heard_one : (number left : ℕ) → number < count → ((n : ℕ) → n ≢ number → lacks_at n now ≡ lacks_at n was) → left + bit (lacks_at number was) ≡ get_or lacking number 0 + bit (lacks_at number now) → IsTallied count carrying (set feeds feed now) (set lacking number left)
  heard_one number left inside others moved = record {
    as_long = length-set lacking number left ∙ t.as_long;
    all = same_carrying;
    each = λ n within. elim (cases_eq n number) [
      | inl same ↦
          let as_long = t.as_long in
          let changed = count-set (lacks_at number) feeds feed now was below in
          let bits = ap (λ (f : Feed). bit (lacks_at number f)) is in
          let own = t.each number inside in
          ap (λ j. get_or (set lacking number left) j 0) same ∙ get_or-set_same lacking number left 0 (omega (arith, inside, as_long))
          ∙ (let counted : left ≡ count_by (lacks_at number) (set feeds feed now) = omega (arith, changed, bits, own, moved) in counted)
          ∙ ap (λ j. count_by (lacks_at j) (set feeds feed now)) (sym same)
      | inr other ↦
          let changed = count-set (lacks_at n) feeds feed now was below in
          let bits = ap bit (ap (lacks_at n) (sym is) ∙ sym (others n other)) in
          let own = t.each n within in
          get_or-set_other lacking number n left 0 other ∙ (let counted : get_or lacking n 0 ≡ count_by (lacks_at n) (set feeds feed now) = omega (arith, changed, bits, own) in counted)
    ];
    few = each_few;
  }

-- as the code says it
module _ (count carrying : ℕ) (feeds : List Feed) (lacking : List ℕ) (t : IsTallied count carrying feeds lacking) (feed : ℕ) (was now : Feed) (below : feed < length feeds) (is : was ≡ get_or feeds feed was) (carries : now.carries ≡ was.carries)
    (few : length was.counts.items ≤ count → length now.counts.items ≤ count) where
  own_few : length now.counts.items ≤ count
  own_few = few (subst (λ (f : Feed). length f.counts.items ≤ count) (sym is) (t.few feed was below))

  lacks_same : (n : ℕ) → is_met (need_at now.counts.items n) (have_at now.counts.items n) ≡ is_met (need_at was.counts.items n) (have_at was.counts.items n) → lacks_at n now ≡ lacks_at n was
  lacks_same n met = ap (λ b. b && not (is_met (need_at now.counts.items n) (have_at now.counts.items n))) carries ∙ ap (λ b. was.carries && not b) met

  pub nothing_tallied : ((n : ℕ) → have_at now.counts.items n ≡ have_at was.counts.items n) → ((n : ℕ) → need_at now.counts.items n ≡ need_at was.counts.items n) → IsTallied count carrying (set feeds feed now) lacking
  nothing_tallied have need = heard_nothing count carrying feeds lacking t feed was now below is carries own_few (λ n. lacks_same n (ap (λ o. is_met o (have_at now.counts.items n)) (need n) ∙ ap (is_met (need_at was.counts.items n)) (have n)))

  module _ (number left : ℕ) (inside : number < count) (moved : left + bit (lacks_at number was) ≡ get_or lacking number 0 + bit (lacks_at number now)) where
    pub row_tallied : (known : Bool) → ((n : ℕ) → have_at now.counts.items n ≡ cond (n == number && not known) (have_at was.counts.items n + 1) (have_at was.counts.items n)) → ((n : ℕ) → need_at now.counts.items n ≡ need_at was.counts.items n)
        → IsTallied count carrying (set feeds feed now) (set lacking number left)
    row_tallied known have need = heard_one count carrying feeds lacking t feed was now below is carries own_few number left inside (λ n other. lacks_same n (met n other)) moved
      where
        met : (n : ℕ) → n ≢ number → is_met (need_at now.counts.items n) (have_at now.counts.items n) ≡ is_met (need_at was.counts.items n) (have_at was.counts.items n)
        met n other =
            ap (λ o. is_met o (have_at now.counts.items n)) (need n)
            ∙ ap (is_met (need_at was.counts.items n)) (have n ∙ ap (λ b. cond (b && not known) (have_at was.counts.items n + 1) (have_at was.counts.items n)) (ne_eqb n number other))

    pub seal_tallied : (sealed : ℕ) → ((n : ℕ) → have_at now.counts.items n ≡ have_at was.counts.items n) → ((n m : ℕ) → is_met (need_at now.counts.items n) m ≡ (is_met (need_at was.counts.items n) m || (n == number && nat_le sealed m)))
        → IsTallied count carrying (set feeds feed now) (set lacking number left)
    seal_tallied sealed have need = heard_one count carrying feeds lacking t feed was now below is carries own_few number left inside (λ n other. lacks_same n (met n other)) moved
      where
        met : (n : ℕ) → n ≢ number → is_met (need_at now.counts.items n) (have_at now.counts.items n) ≡ is_met (need_at was.counts.items n) (have_at was.counts.items n)
        met n other =
            need n (have_at now.counts.items n)
            ∙ ap (λ b. is_met (need_at was.counts.items n) (have_at now.counts.items n) || (b && nat_le sealed (have_at now.counts.items n))) (ne_eqb n number other)
            ∙ or_false (is_met (need_at was.counts.items n) (have_at now.counts.items n))
            ∙ ap (is_met (need_at was.counts.items n)) (have n)

-- what is read before and after
pub moved_reads : (feeds : List Feed) (lacking : List ℕ) (feed number left count : ℕ) (was now first last : Feed) (b e : Bool) → feed < length feeds → number < length lacking
    → was ≡ get_or feeds feed was → first ≡ get_or feeds feed first → last ≡ get_or (set feeds feed now) feed last → b ≡ lacks_at number first → e ≡ lacks_at number last → count ≡ get_or lacking number count
    → left + cond b 1 0 ≡ count + cond e 1 0 → left + bit (lacks_at number was) ≡ get_or lacking number 0 + bit (lacks_at number now)
moved_reads feeds lacking feed number left count was now first last b e below inside was_at first_at last_at b_is e_is count_at moved =
    let first_is : first ≡ was = get_or_read feeds feed first below first_at was ∙ sym was_at in
    let within : feed < length (set feeds feed now) = (let long = length-set feeds feed now in omega (arith, below, long)) in
    let last_is : last ≡ now = get_or_read (set feeds feed now) feed last within last_at now ∙ get_or-set_same feeds feed now now below in
    let own : bit b ≡ bit (lacks_at number was) = ap bit (b_is ∙ ap (lacks_at number) first_is) in
    let new : bit e ≡ bit (lacks_at number now) = ap bit (e_is ∙ ap (lacks_at number) last_is) in
    let read : count ≡ get_or lacking number 0 = get_or_read lacking number count inside count_at 0 in
    omega (arith, own, new, read, moved)

-- ---- nothing came

pub fresh_tallied : (carrying : ℕ) (feeds : List Feed) → carrying ≡ count_by (λ f. f.carries) feeds → ((k : ℕ) (d : Feed) → k < length feeds → length (get_or feeds k d).counts.items ≤ 0) → IsTallied 0 carrying feeds []
fresh_tallied carrying feeds all few = record { as_long = refl; all = all; each = λ n none. absurd (omega (arith, none)); few = few }
