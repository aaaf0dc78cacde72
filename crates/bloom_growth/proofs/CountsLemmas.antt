-- How often keys are given, with one more and with one less.
use Rattle.std.proofs.Common.{◌≡◌, ℕ, zero, suc, ◌+◌, ◌<◌, Bool, true, false, cond, List, [], ◌∷◌, ◌++◌, length, map, filter, Option, Some, None, IsSome, refl, ap, ◌∙◌, sym, subst, inl, inr, arith}
use Rattle.std.specs.BTreeMap.{BTreeMap, get, is_at}
use Rattle.std.specs.BTreeSet.{insert_key}
use Rattle.std.specs.List.Sorted.{IsStrictlySortedBy}
use Rattle.std.specs.Map.{lookup}
use Rattle.std.specs.Cmp.{IsTotalOrder, Equal-is, eq_by_cmp_equiv, tied_itself}
use Rattle.std.specs.Ordering.{eq_by_cmp, is_eq}
use Rattle.std.specs.declared.cmp.Ordering.{Ordering}
use Rattle.std.specs.declared.cmp.Ordering.TheVariants.{Equal}
use Rattle.blz_value.specs.Members.{Has}
use Rattle.blz_value.specs.Record.{Row, record_cmp}
use Rattle.blz_value.specs.RecordOrder.{record_cmp_total, record_cmp_exact}
use Rattle.blz_value.specs.Sets.{set_of, IsRowSet}
use Rattle.blz_value.proofs.Membership.{Has-append_cases, Has-filter, Has-from_filter}
use Rattle.blz_value.proofs.RowSets.{set_of-sorted}
use Rattle.blz_value.proofs.SetLaws.{Has-from_set_of}
use Rattle.blz_value.proofs.SetLemmas.{at_order, below_not_in}
use Rattle.bloom_growth.specs.Counts.{times, given, AreCounted}

pub given_is : (count n : ℕ) → given count ≡ Some n → n ≡ count
given_is zero n e = cc
given_is (suc count) n e = cc

pub given_none : (count : ℕ) → given count ≡ None → count ≡ 0
given_none zero e = refl
given_none (suc count) e = cc

pub given_some : (count : ℕ) → IsSome (given count) → 0 < count
given_some zero some = cc
given_some (suc count) some = omega arith

pub some_given : (count : ℕ) → 0 < count → IsSome (given count)
some_given zero some = absurd (omega arith)
some_given (suc count) some = refl

given_more : (count : ℕ) → Some (count + 1) ≡ given (suc count)
given_more count = let same : count + 1 ≡ suc count = omega arith in ap (λ (n : ℕ). Some n) same

given_at : (count n : ℕ) → 0 < count → n ≡ count → given count ≡ Some n
given_at zero n some e = absurd (omega arith)
given_at (suc count) n some e = ap (λ (m : ℕ). Some m) (sym e)

pub not_some : {X : Type 0} (o : Option X) → o ≡ None → IsSome o → ⊥
not_some None e some = cc
not_some (Some x) e some = cc

pub no_entries : {X : Type 0} (xs : List X) → (0 < length xs → ⊥) → xs ≡ []
no_entries [] none = refl
no_entries (x ∷ xs) none = absurd (none (omega arith))

pub has_some : {K : Type 0} (q : K) (run : List K) → Has q run → 0 < length run
has_some q [] h = absurd h
has_some q (x ∷ run) h = omega arith

module _ {K : Type 0} {cmp : K → K → Ordering} (total : IsTotalOrder cmp) where
  own : (key : K) → eq_by_cmp cmp key key ≡ true
  own key = ap is_eq (tied_itself total key)

  -- equal keys are given equally often
  same_times : (x q : K) (keys : List K) → eq_by_cmp cmp x q ≡ true → times cmp keys x ≡ times cmp keys q
  same_times x q keys e =
      let equal = eq_by_cmp_equiv total in
      let same : (other : K) → eq_by_cmp cmp other x ≡ eq_by_cmp cmp other q = λ other. equal.symm other x ∙ equal.congr x q other e ∙ equal.symm q other in
      λ i. length (filter (λ other. same other i) keys)

  pub times_same : (x q : K) (keys : List K) → eq_by_cmp cmp x q ≡ true → times cmp (x ∷ keys) q ≡ suc (times cmp keys q)
  times_same x q keys e = ap (λ (b : Bool). length (cond b (x ∷ filter (λ other. eq_by_cmp cmp other q) keys) (filter (λ other. eq_by_cmp cmp other q) keys))) e

  pub times_other : (x q : K) (keys : List K) → eq_by_cmp cmp x q ≡ false → times cmp (x ∷ keys) q ≡ times cmp keys q
  times_other x q keys e = ap (λ (b : Bool). length (cond b (x ∷ filter (λ other. eq_by_cmp cmp other q) keys) (filter (λ other. eq_by_cmp cmp other q) keys))) e

  module _ (keys : List K) (key : K) (old new : BTreeMap K ℕ) where
    -- one more than before at the key
    pub counted_more : (n next : ℕ) → n ≡ times cmp keys key → next ≡ n + 1 → ((q : K) → get cmp new q ≡ cond (is_at (cmp key) q) (Some next) (get cmp old q))
        → AreCounted cmp keys old → AreCounted cmp (key ∷ keys) new
    counted_more n next is more updates are q = by_case (eq_by_cmp cmp key q) refl
      where
        by_case : (b : Bool) → eq_by_cmp cmp key q ≡ b → get cmp new q ≡ given (times cmp (key ∷ keys) q)
        by_case true e =
            let count : next ≡ times cmp keys q + 1 = more ∙ ap (λ (m : ℕ). m + 1) (is ∙ same_times key q keys e) in
            updates q ∙ ap (λ (b : Bool). cond b (Some next) (get cmp old q)) e ∙ ap (λ (m : ℕ). Some m) count ∙ given_more (times cmp keys q) ∙ ap given (sym (times_same key q keys e))
        by_case false e =
            updates q ∙ ap (λ (b : Bool). cond b (Some next) (get cmp old q)) e ∙ are q ∙ ap given (sym (times_other key q keys e))

    -- what is left at the key
    pub counted_less : (w : Option ℕ) → w ≡ given (times cmp keys key) → ((q : K) → get cmp new q ≡ cond (is_at (cmp key) q) w (get cmp old q))
        → AreCounted cmp (key ∷ keys) old → AreCounted cmp keys new
    counted_less w is updates are q = by_case (eq_by_cmp cmp key q) refl
      where
        by_case : (b : Bool) → eq_by_cmp cmp key q ≡ b → get cmp new q ≡ given (times cmp keys q)
        by_case true e = updates q ∙ ap (λ (b : Bool). cond b w (get cmp old q)) e ∙ is ∙ ap given (same_times key q keys e)
        by_case false e = updates q ∙ ap (λ (b : Bool). cond b w (get cmp old q)) e ∙ are q ∙ ap given (times_other key q keys e)

  module _ (keys : List K) (key : K) (old : BTreeMap K ℕ) where
    -- what stands at a key
    pub stands_at : (n : ℕ) → Some n ≡ get cmp old key → AreCounted cmp keys old → n ≡ times cmp keys key
    stands_at n found are = given_is (times cmp keys key) n (sym (found ∙ are key))

    -- what stands at a key that is given once more than the others say
    pub stands_more : (n : ℕ) → Some n ≡ get cmp old key → AreCounted cmp (key ∷ keys) old → n ≡ suc (times cmp keys key)
    stands_more n found are = given_is (times cmp (key ∷ keys) key) n (sym (found ∙ are key)) ∙ times_same key key keys (own key)

    -- one less than stands there
    pub one_less : (n next : ℕ) → 1 < n → n ≡ next + 1 → Some n ≡ get cmp old key → AreCounted cmp (key ∷ keys) old → Some next ≡ given (times cmp keys key)
    one_less n next some less found are =
        let more = stands_more n found are in
        sym (given_at (times cmp keys key) next (omega (arith, more)) (omega (arith, more)))

    -- nothing is left of one
    pub none_left : times cmp keys key ≡ 0 → None ≡ given (times cmp keys key)
    none_left e = ap given (sym e)

-- ---- what is given, where the order tells keys apart

module _ {K : Type 0} {cmp : K → K → Ordering} (total : IsTotalOrder cmp) (exact : (x y : K) → cmp x y ≡ Equal → x ≡ y) where
  same_key : (x y : K) → eq_by_cmp cmp x y ≡ true → x ≡ y
  same_key x y e = exact x y ((Equal-is (cmp x y)).0 e)

  pub times_has : (keys : List K) (key : K) → 0 < times cmp keys key → Has key keys
  times_has keys key some = first (filter (λ (o : K). eq_by_cmp cmp o key) keys) some (λ q h. h)
    where
      first : (run : List K) → 0 < length run → ((q : K) → Has q run → Has q (filter (λ (o : K). eq_by_cmp cmp o key) keys)) → Has key keys
      first [] none within = absurd (omega arith)
      first (q ∷ run) more within =
          let m = Has-from_filter (λ (o : K). eq_by_cmp cmp o key) q keys (within q (inl refl)) in
          subst (λ (z : K). Has z keys) (same_key q key m.1) m.0

  pub has_times : (keys : List K) (key : K) → Has key keys → 0 < times cmp keys key
  has_times keys key h = has_some key (filter (λ (o : K). eq_by_cmp cmp o key) keys) (Has-filter (λ (o : K). eq_by_cmp cmp o key) key keys h (ap is_eq (tied_itself total key)))

  module _ (keys : List K) (counts : BTreeMap K ℕ) (are : AreCounted cmp keys counts) where
    -- a key is found exactly where it is given
    pub found_has : (key : K) → IsSome (get cmp counts key) → Has key keys
    found_has key some = times_has keys key (given_some (times cmp keys key) (subst (λ (o : Option ℕ). IsSome o) (are key) some))

    pub has_found : (key : K) → Has key keys → IsSome (get cmp counts key)
    has_found key h = subst (λ (o : Option ℕ). IsSome o) (sym (are key)) (some_given (times cmp keys key) (has_times keys key h))

    -- nothing is given where nothing stands
    pub none_given : counts.entries ≡ [] → keys ≡ []
    none_given none = by_case keys (λ q h. h)
      where
        by_case : (ks : List K) → ((q : K) → Has q ks → Has q keys) → ks ≡ []
        by_case [] within = refl
        by_case (k ∷ ks) within =
            let nothing : get cmp counts k ≡ None = ap (λ (es : List (K × ℕ)). lookup (is_at (cmp k)) es) none in
            absurd (not_some (get cmp counts k) nothing (has_found k (within k (inl refl))))

-- ---- how often a set's rows pass a test

count_cons : {X : Type 0} (test : X → Bool) (x : X) (xs : List X) → length (filter test (x ∷ xs)) ≡ cond (test x) 1 0 + length (filter test xs)
count_cons test x xs = by_test (test x)
  where
    by_test : (b : Bool) → length (cond b (x ∷ filter test xs) (filter test xs)) ≡ cond b 1 0 + length (filter test xs)
    by_test true = omega arith
    by_test false = omega arith

module _ {X : Type 0} (f : Row → X) (test : X → Bool) where
  -- what is made of a row that is put in its place passes as often as in front
  pub count_insert : (row : Row) (run : List Row) → ¬ Has row run → length (filter test (map f (insert_key record_cmp run row))) ≡ length (filter test (map f (row ∷ run)))
  count_insert row [] lacks = refl
  count_insert row (x ∷ run) lacks =
      let all = length (filter test (map f (row ∷ x ∷ run))) in
      at_order record_cmp (λ (l : List Row). length (filter test (map f l)) ≡ all) (record_cmp row x) (row ∷ x ∷ run) (x ∷ run) (x ∷ insert_key record_cmp run row)
      (λ _. refl) (λ e. absurd (lacks (inl (sym (record_cmp_exact row x e)))))
      (λ _.
      let more = count_insert row run (λ h. lacks (inr h)) in
      let a = count_cons test (f x) (map f (insert_key record_cmp run row)) in
      let b = count_cons test (f row) (map f run) in
      let c = count_cons test (f row) (f x ∷ map f run) in
      let d = count_cons test (f x) (map f run) in
      omega (arith, more, a, b, c, d))

  -- and what is made of two sets that share no row passes as often as in both
  pub count_union : (xs ys : List Row) → IsRowSet xs → IsRowSet ys → ((q : Row) → Has q xs → ¬ Has q ys) → length (filter test (map f (set_of (xs ++ ys)))) ≡ length (filter test (map f xs)) + length (filter test (map f ys))
  unfolding IsStrictlySortedBy
  count_union [] ys s t apart =
      let same = ap (λ (l : List Row). length (filter test (map f l))) (set_of-sorted ys t) in omega (arith, same)
  count_union (x ∷ xs) ys s t apart =
      let lacks : ¬ Has x (set_of (xs ++ ys)) = λ h. elim (Has-append_cases x xs ys (Has-from_set_of x (xs ++ ys) h)) [
        | inl a ↦ below_not_in record_cmp record_cmp_total x xs s.0 a
        | inr b ↦ apart x (inl refl) b
      ] in
      let more = count_union xs ys s.1 t (λ q h. apart q (inr h)) in
      let put = count_insert x (set_of (xs ++ ys)) lacks in
      let a = count_cons test (f x) (map f (set_of (xs ++ ys))) in
      let b = count_cons test (f x) (map f xs) in
      omega (arith, more, put, a, b)
