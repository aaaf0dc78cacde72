-- The heads by their keys stand in order.
use Rattle.std.proofs.Common.{if◌then◌else◌, ◌≡◌, ◌≢◌, ◌≤◌, ◌<◌, ◌+◌, ◌||◌, ◌⊎◌, inl, inr, ℕ, zero, suc, Bool, true, false, None, Some, List, [], ◌∷◌, map, length, slice_index_or, nat_lt, refl, rules, arith, ap, sym, subst, ◌∙◌}
use Rattle.std.specs.List.{enumerate_from}
use Rattle.std.proofs.lemmas.Bool.{cases_Bool}
use Rattle.blz_value.specs.Members.{Has}
use Rattle.blz_value.proofs.Membership.{Has-append_cases}
use Rattle.blz_value.specs.declared.attrs.Fd.{Fd}
use Rattle.blz_value.specs.Bits.{bit_of, meets}
use Rattle.blz_value.specs.Closure.{within, closure, IsLeastClosed}
use Rattle.blz_value.proofs.Members.{in-within, in-or, own-in}
use Rattle.blz_value.proofs.Least.{closure-least}
use Rattle.blz_value.proofs.Reached.{closed-map, closure-trans, closure-lt}
use Rattle.bloom_forms.specs.declared.module.Kind.{Kind}
use Rattle.bloom_forms.specs.declared.module.Kind.TheVariants.{Input, Output, Table, Scratch}
use Rattle.bloom_forms.specs.declared.module.Collection.{Collection}
use Rattle.bloom_forms.specs.Faults.{recursive_rule}
use Rattle.bloom_forms.specs.Form.{RuleForm}
use Rattle.bloom_forms.specs.HeadOrder.{key_at, put_head, heads_on}
use Rattle.bloom_forms.specs.Heads.{names_of, HasRule, IsDerived, InOrder, IsOrdered}
use Rattle.bloom_forms.specs.Kinds.{is_input}
use Rattle.bloom_forms.specs.Lookup.{collection_number}
use Rattle.bloom_forms.specs.Query.{Name, Query}
use Rattle.bloom_forms.specs.Query.Query.{base, select, project, join, notin, group, at_least}
use Rattle.bloom_forms.specs.Reads.{set_of_name, named, arrow, arrows, keys_of}

-- a collection that stands in an expression is in its set

either : (b : Bool) → (b || true) ≡ true
either true = refl
either false = refl

pub in_named : (cs : List Collection) (q : Query) (name : Name) → Has name (names_of q) → collection_number cs name < 64 → meets (bit_of (collection_number cs name)) (named cs q) ≡ true
in_named cs (base n) name (inl e) lt = let same : collection_number cs n ≡ collection_number cs name = ap (collection_number cs) e in rw same (own-in (collection_number cs name) lt)
in_named cs (base n) name (inr m) lt = absurd m
in_named cs (select q f) name m lt = in_named cs q name m lt
in_named cs (project q items) name m lt = in_named cs q name m lt
in_named cs (join a b pairs) name m lt = elim (Has-append_cases name (names_of a) (names_of b) m) [
  | inl l ↦ in-or (collection_number cs name) (named cs a) (named cs b) lt ∙ rw (in_named cs a name l lt) refl
  | inr r ↦ in-or (collection_number cs name) (named cs a) (named cs b) lt ∙ rw (in_named cs b name r lt) (either (meets (bit_of (collection_number cs name)) (named cs a)))
]
in_named cs (notin a b pairs) name m lt = elim (Has-append_cases name (names_of a) (names_of b) m) [
  | inl l ↦ in-or (collection_number cs name) (named cs a) (named cs b) lt ∙ rw (in_named cs a name l lt) refl
  | inr r ↦ in-or (collection_number cs name) (named cs a) (named cs b) lt ∙ rw (in_named cs b name r lt) (either (meets (bit_of (collection_number cs name)) (named cs a)))
]
in_named cs (group q keys agg n) name m lt = in_named cs q name m lt
in_named cs (at_least q keys bound) name m lt = in_named cs q name m lt

-- what a rule of h names has a smaller key

module _ (cs : List Collection) (rules : List RuleForm) (free : (r : RuleForm) → Has r rules → recursive_rule cs (arrows cs rules) r ≡ false) where
  pub smaller : (h m : ℕ) → h < 64 → m < 64 → HasRule cs rules h m → closure (bit_of m) (arrows cs rules) < closure (bit_of h) (arrows cs rules)
  smaller h m small_h small_m reads =
      let all = arrows cs rules in
      let body = named cs reads.rule.1 in
      let own : IsLeastClosed (bit_of h) all (closure (bit_of h) all) = closure-least (bit_of h) all in
      let read : IsLeastClosed body all (closure body all) = closure-least body all in
      let m_in : meets (bit_of m) body ≡ true = subst (λ (k : ℕ). k < 64 → meets (bit_of k) body ≡ true) reads.is (in_named cs reads.rule.1 reads.name reads.read) small_m in
      let fires : within (set_of_name cs reads.rule.0) (closure (bit_of h) all) ≡ true = rw reads.head own.contains in
      let whole : within body (closure (bit_of h) all) ≡ true = closed-map (arrow cs) rules (closure (bit_of h) all) own.closed reads.rule reads.stands fires in
      let there : meets (bit_of m) (closure (bit_of h) all) ≡ true = in-within m body (closure (bit_of h) all) small_m m_in whole in
      let inside : meets (bit_of m) (closure body all) ≡ true = in-within m body (closure body all) small_m m_in read.contains in
      let back : meets (bit_of h) (closure (bit_of m) all) ≡ false = none (cases_Bool (meets (bit_of h) (closure (bit_of m) all))) (λ yes.
      let met : meets (bit_of h) (closure body all) ≡ true = closure-trans all body m h small_h inside yes in
      let not_met : meets (bit_of h) (closure body all) ≡ false = rw reads.head at (free reads.rule reads.stands) in
      let bad : true ≡ false = sym met ∙ not_met in cc) in
      closure-lt all h m small_h there back
    where
      none : {b : Bool} → (b ≡ true) ⊎ (b ≡ false) → (b ≡ true → ⊥) → b ≡ false
      none (inl t) never = absurd (never t)
      none (inr f) never = f

-- lists of heads

-- no head twice
abbrev pub Apart : List ℕ → Type 0
Apart [] = Unit {0}
Apart (h ∷ heads) = (Has h heads → ⊥) × Apart heads

-- keys go up
abbrev pub Up : (ℕ → ℕ) → List ℕ → Type 0
Up key_of [] = Unit {0}
Up key_of (h ∷ heads) = ((g : ℕ) → Has g heads → key_of h ≤ key_of g) × Up key_of heads

not_input : (k : Kind) → k ≢ Input → is_input k ≡ false
not_input Input n = absurd (n refl)
not_input Output n = refl
not_input Table n = refl
not_input Scratch n = refl

is_not_input : (k : Kind) → is_input k ≡ false → k ≢ Input
is_not_input k e same = let yes : is_input k ≡ true = rw same refl in let bad : true ≡ false = sym yes ∙ e in cc

module _ (key : ℕ → ℕ) where
  -- who is in after a head was put in
  from_put : (h q : ℕ) (heads : List ℕ) → Has q (put_head key h heads) → (h ≡ q) ⊎ Has q heads
  from_put h q [] (inl e) = inl e
  from_put h q [] (inr n) = absurd n
  from_put h q (g ∷ heads) p = elim (cases_Bool (nat_lt (key h) (key g))) [
    | inl t ↦ let p' : Has q (h ∷ g ∷ heads) = rw t at p in p'
    | inr f ↦ later (from_put h q heads) (rw f at p)
  ]
    where
      later : (Has q (put_head key h heads) → (h ≡ q) ⊎ Has q heads) → Has q (g ∷ put_head key h heads) → (h ≡ q) ⊎ Has q (g ∷ heads)
      later from (inl e) = inr (inl e)
      later from (inr p) = elim (from p) [ inl e ↦ inl e | inr n ↦ inr (inr n) ]

  put_same : (h : ℕ) (heads : List ℕ) → Has h (put_head key h heads)
  put_same h [] = inl refl
  put_same h (g ∷ heads) = elim (cases_Bool (nat_lt (key h) (key g))) [ inl t ↦ rw t (inl refl) | inr f ↦ rw f (inr (put_same h heads)) ]

  put_keeps : (h q : ℕ) (heads : List ℕ) → Has q heads → Has q (put_head key h heads)
  put_keeps h q [] n = absurd n
  put_keeps h q (g ∷ heads) n = elim (cases_Bool (nat_lt (key h) (key g))) [ inl t ↦ rw t (inr n) | inr f ↦ rw f (later (put_keeps h q heads) n) ]
    where
      later : (Has q heads → Has q (put_head key h heads)) → Has q (g ∷ heads) → Has q (g ∷ put_head key h heads)
      later keeps (inl e) = inl e
      later keeps (inr n) = inr (keeps n)

  put_apart : (h : ℕ) (heads : List ℕ) → (Has h heads → ⊥) → Apart heads → Apart (put_head key h heads)
  put_apart h [] new apart = ((λ n. n), tt)
  put_apart h (g ∷ heads) new apart = elim (cases_Bool (nat_lt (key h) (key g))) [
    | inl t ↦ rw t (new, apart)
    | inr f ↦ rw f ((λ n. elim (from_put h g heads n) [ inl e ↦ new (inl (sym e)) | inr m ↦ apart.0 m ]), put_apart h heads (λ n. new (inr n)) apart.1)
  ]

  put_up : (h : ℕ) (heads : List ℕ) → Up key heads → Up key (put_head key h heads)
  put_up h [] up = ((λ g n. absurd n), tt)
  put_up h (g ∷ heads) up = elim (cases_Bool (nat_lt (key h) (key g))) [
    | inl t ↦ rw t (before (let lt : key h < key g = search rules in omega arith), up)
    | inr f ↦ rw f (behind (let ge : key g ≤ key h = search rules in ge), put_up h heads up.1)
  ]
    where
      before : key h ≤ key g → (q : ℕ) → Has q (g ∷ heads) → key h ≤ key q
      before le q (inl e) = rw (← e) le
      before le q (inr n) = omega (arith, up.0 q n, le)

      behind : key g ≤ key h → (q : ℕ) → Has q (put_head key h heads) → key g ≤ key q
      behind le q n = elim (from_put h q heads n) [ inl e ↦ rw (← e) le | inr m ↦ up.0 q m ]

  -- the heads with a collection whose turn it is
  abbrev step : ℕ → Collection → List ℕ → List ℕ
  step at c heads = if is_input c.kind then heads else put_head key at heads

  step_keeps : (at : ℕ) (c : Collection) (heads : List ℕ) (q : ℕ) → Has q heads → Has q (step at c heads)
  step_keeps at c heads q n = elim (cases_Bool (is_input c.kind)) [ inl t ↦ rw t n | inr f ↦ rw f (put_keeps at q heads n) ]

  on_keeps : (at : ℕ) (cs : List Collection) (heads : List ℕ) (q : ℕ) → Has q heads → Has q (heads_on key at cs heads)
  on_keeps at [] heads q n = n
  on_keeps at (c ∷ cs) heads q n = on_keeps (at + 1) cs (step at c heads) q (step_keeps at c heads q n)

  on_derived : (at : ℕ) (cs : List Collection) (heads : List ℕ) (j : ℕ) → IsDerived cs j → Has (at + j) (heads_on key at cs heads)
  on_derived at [] heads j d = absurd (let bad : None ≡ Some d.collection = d.stands in cc)
  on_derived at (c ∷ cs) heads zero d =
      let none : is_input c.kind ≡ false = (let same : Some c ≡ Some d.collection = d.stands in let e : c ≡ d.collection = cc in rw e (not_input d.collection.kind d.none_arrives)) in
      let z : at ≡ at + 0 = omega arith in
      on_keeps (at + 1) cs (step at c heads) (at + 0) (rw none (subst (λ (q : ℕ). Has q (put_head key at heads)) z (put_same at heads)))
  on_derived at (c ∷ cs) heads (suc j) d =
      let z : at + 1 + j ≡ at + suc j = omega arith in
      subst (λ (q : ℕ). Has q (heads_on key (at + 1) cs (step at c heads))) z (on_derived (at + 1) cs (step at c heads) j (record { collection = d.collection; stands = d.stands; none_arrives = d.none_arrives }))

  from_on : (at : ℕ) (cs : List Collection) (heads : List ℕ) (q : ℕ) → Has q (heads_on key at cs heads) → Has q heads ⊎ ((j : ℕ) × (at + j ≡ q) × IsDerived cs j)
  from_on at [] heads q n = inl n
  from_on at (c ∷ cs) heads q n = elim (from_on (at + 1) cs (step at c heads) q n) [
    | inl m ↦ first m
    | inr s ↦ inr (suc s.0, (let e : at + 1 + s.0 ≡ q = s.1 in omega arith), record { collection = s.2.collection; stands = s.2.stands; none_arrives = s.2.none_arrives })
  ]
    where
      put : is_input c.kind ≡ false → (at ≡ q) ⊎ Has q heads → Has q heads ⊎ ((j : ℕ) × (at + j ≡ q) × IsDerived (c ∷ cs) j)
      put f (inl e) = inr (zero, (omega arith), record { collection = c; stands = refl; none_arrives = is_not_input c.kind f })
      put f (inr m) = inl m

      first : Has q (step at c heads) → Has q heads ⊎ ((j : ℕ) × (at + j ≡ q) × IsDerived (c ∷ cs) j)
      first m = elim (cases_Bool (is_input c.kind)) [ inl t ↦ inl (rw t at m) | inr f ↦ put f (from_put at q heads (rw f at m)) ]

  on_apart : (at : ℕ) (cs : List Collection) (heads : List ℕ) → ((q : ℕ) → Has q heads → q < at) → Apart heads → Apart (heads_on key at cs heads)
  on_apart at [] heads below apart = apart
  on_apart at (c ∷ cs) heads below apart = elim (cases_Bool (is_input c.kind)) [
    | inl t ↦ rw t (on_apart (at + 1) cs heads (λ q n. omega (arith, below q n)) apart)
    | inr f ↦ rw f (on_apart (at + 1) cs (put_head key at heads) (λ q n. put_below q (from_put at q heads n)) (put_apart at heads (λ n. omega (arith, below at n)) apart))
  ]
    where
      put_below : (q : ℕ) → (at ≡ q) ⊎ Has q heads → q < at + 1
      put_below q (inl e) = omega arith
      put_below q (inr n) = omega (arith, below q n)

  on_up : (at : ℕ) (cs : List Collection) (heads : List ℕ) → Up key heads → Up key (heads_on key at cs heads)
  on_up at [] heads up = up
  on_up at (c ∷ cs) heads up = elim (cases_Bool (is_input c.kind)) [
    | inl t ↦ rw t (on_up (at + 1) cs heads up)
    | inr f ↦ rw f (on_up (at + 1) cs (put_head key at heads) (put_up at heads up))
  ]

derived-below : (cs : List Collection) (j : ℕ) → IsDerived cs j → j < length cs
derived-below [] j d = absurd (let bad : None ≡ Some d.collection = d.stands in cc)
derived-below (c ∷ cs) zero d = omega arith
derived-below (c ∷ cs) (suc j) d = omega (arith, derived-below cs j (record { collection = d.collection; stands = d.stands; none_arrives = d.none_arrives }))

-- the key of a collection is what it reads

key_from : (cs : List Collection) (all : List Fd) (at n : ℕ) → n < length cs → slice_index_or (map (λ place. closure (bit_of place.0) all) (enumerate_from at cs)) n 0 ≡ closure (bit_of (at + n)) all
key_from [] all at n lt = absurd (omega arith)
key_from (c ∷ cs) all at zero lt = let z : at ≡ at + 0 = omega arith in ap (λ (k : ℕ). closure (bit_of k) all) z
key_from (c ∷ cs) all at (suc n) lt = let z : at + 1 + n ≡ at + suc n = omega arith in key_from cs all (at + 1) n (omega arith) ∙ ap (λ (k : ℕ). closure (bit_of k) all) z

key_is : (cs : List Collection) (all : List Fd) (n : ℕ) → n < length cs → key_at (keys_of cs all) n ≡ closure (bit_of n) all
key_is cs all n lt = key_from cs all 0 n lt ∙ (let z : 0 + n ≡ n = omega arith in ap (λ (k : ℕ). closure (bit_of k) all) z)

-- the order

module _ (cs : List Collection) (rules : List RuleForm) (few : length cs ≤ 32) (free : (r : RuleForm) → Has r rules → recursive_rule cs (arrows cs rules) r ≡ false) where
  abbrev key : ℕ → ℕ
  key = key_at (keys_of cs (arrows cs rules))

  in_order : (heads : List ℕ) → Apart heads → Up key heads → ((h : ℕ) → Has h heads → h < length cs) → InOrder cs rules heads
  in_order [] apart up small = tt
  in_order (h ∷ heads) apart up small = (apart.0, (λ m n reads. after m n (lower m (small h (inl refl)) (small m n) reads)), in_order heads apart.1 up.1 (λ q n. small q (inr n)))
    where
      lower : (m : ℕ) → h < length cs → m < length cs → HasRule cs rules h m → key m < key h
      lower m lh lm reads =
          let less : closure (bit_of m) (arrows cs rules) < closure (bit_of h) (arrows cs rules) = smaller cs rules free h m (omega (arith, few)) (omega (arith, few)) reads in
          omega (arith, less, key_is cs (arrows cs rules) m lm, key_is cs (arrows cs rules) h lh)

      after : (m : ℕ) → Has m (h ∷ heads) → key m < key h → ⊥
      after m (inl e) lt = let same : key h ≡ key m = ap key e in omega (arith, same, lt)
      after m (inr n) lt = omega (arith, up.0 m n, lt)

  pub ordered : IsOrdered cs rules (heads_on key 0 cs [])
  ordered = record {
    all = λ h d. let z : 0 + h ≡ h = omega arith in subst (λ (q : ℕ). Has q (heads_on key 0 cs [])) z (on_derived key 0 cs [] h d);
    none_else = none_else;
    order = in_order (heads_on key 0 cs []) (on_apart key 0 cs [] (λ q n. absurd n) tt) (on_up key 0 cs [] tt) (λ h n. derived-below cs h (none_else h n));
  }
    where
      there : (h : ℕ) → Has h [] ⊎ ((j : ℕ) × (0 + j ≡ h) × IsDerived cs j) → IsDerived cs h
      there h (inl n) = absurd n
      there h (inr s) = let z : s.0 ≡ h = omega (arith, s.1) in subst (λ (q : ℕ). IsDerived cs q) z s.2

      none_else : (h : ℕ) → Has h (heads_on key 0 cs []) → IsDerived cs h
      none_else h n = there h (from_on key 0 cs [] h n)
