-- The key that a port carries, by its first stream and a walk over all of them.
use Rattle.std.proofs.Common.{◌≡◌, ◌<◌, ◌&&◌, inl, inr, ℕ, Bool, true, false, cond, if◌then◌else◌, Option, None, Some, List, [], ◌∷◌, length, filter, refl, arith, ap, sym, subst, ◌∙◌}
use Rattle.std.specs.List.{find, list_all}
use Rattle.std.specs.Option.{option_and_then}
use Rattle.std.proofs.lemmas.Bool.{eqb-true, eq-eqb, or_cases, true≢false}
use Rattle.blz_value.specs.declared.attrs.Attrs.{Attrs}
use Rattle.topo_forms.specs.Carried.{may_carry, streams_towards, carries_key, key_before, carries, common_key, port_key}
use Rattle.blz_value.specs.Arrows.{is_key}
use Rattle.blz_value.proofs.Booleans.{same_truth, both_true}
use Rattle.topo_forms.specs.Laws.{carries_next}
use Rattle.topo_forms.specs.Valid.{IsValid}
use Rattle.topo_forms.specs.View.{View, End, stream_at, origin_of, mode_of, mode_key, goes_to, has_body, stream_numbers, streams_to}
use Rattle.topo_forms.proofs.Found.OneLevel.{carries_law}
use Rattle.coord_modes.proofs.KeysFound.{carries-from, carried_by}

-- ---- lists

find_none : {X : Type 0} (p : X → Bool) (xs : List X) → find p xs ≡ None → filter p xs ≡ []
find_none p [] e = refl
find_none p (x ∷ xs) e = by (p x) (λ more. find_none p xs more) e
  where
    by : (b : Bool) → (find p xs ≡ None → filter p xs ≡ []) → (if b then Some x else find p xs) ≡ None → cond b (x ∷ filter p xs) (filter p xs) ≡ []
    by true more e = let bad : Some x ≡ None = e in cc
    by false more e = more e

find_head : {X : Type 0} (p : X → Bool) (xs : List X) (first : X) → find p xs ≡ Some first → (rest : List X) × (filter p xs ≡ first ∷ rest)
find_head p [] first e = let bad : None ≡ Some first = e in cc
find_head {X = X} p (x ∷ xs) first e = by (p x) (λ more. find_head p xs first more) e
  where
    by : (b : Bool) → (find p xs ≡ Some first → (rest : List X) × (filter p xs ≡ first ∷ rest)) → (if b then Some x else find p xs) ≡ Some first → (rest : List X) × (cond b (x ∷ filter p xs) (filter p xs) ≡ first ∷ rest)
    by true more e = (filter p xs, (let same : x ≡ first = cc in ap (λ y. y ∷ filter p xs) same))
    by false more e = more e

-- ---- one stream

module _ (v : View) (valid : IsValid v) where
  is_key-is : (key : ℕ) (o : Option Attrs) → is_key key o ≡ true → (own : Attrs) × (o ≡ Some own) × (own.bits ≡ key)
  is_key-is key None e = absurd (true≢false (sym e))
  is_key-is key (Some own) e = (own, refl, eqb-true own.bits key e)

  -- a stream that carries a key has that key before it
  before : (key s : ℕ) → s < length v.streams → carries_key v key s ≡ true → is_key key (key_before v s (origin_of v s)) ≡ true
  before key s lt e = by (origin_of v s) refl (sym (carries_law v (let few = valid.numbered.few_streams in omega (arith, few)) key s lt) ∙ e)
    where
      by : (o : Option End) → origin_of v s ≡ o → carries_next v key (carries_key v key) s o ≡ true → is_key key (key_before v s o) ≡ true
      by None is h = h
      by (Some output) is h = elim (or_cases (is_key key (stream_at v s).key) (may_carry v key (Some output) && list_all (carries_key v key) (streams_towards v output.0 output.1)) h) [
        | inl declared ↦ absurd (
            let own = is_key-is key (stream_at v s).key declared in
            let bad : None ≡ Some output = sym ((valid.columns s lt).of_source own.0 own.1) ∙ is in cc)
        | inr handed ↦
            let may = (both_true (may_carry v key (Some output)) _ handed).0 in
            (both_true (is_key key (mode_key (mode_of v output.0))) _ (both_true (has_body v output.0) _ may).1).0
      ]

  pub carries_key_is : (key s : ℕ) → s < length v.streams → is_key key (carries v s) ≡ carries_key v key s
  carries_key_is key s lt = same_truth (is_key key (carries v s)) (carries_key v key s) there back
    where
      there : is_key key (carries v s) ≡ true → carries_key v key s ≡ true
      there e =
          let own = is_key-is key (carries v s) e in
          subst (λ (k : ℕ). carries_key v k s ≡ true) own.2 (carries-from v s own.0 own.1).1

      back : carries_key v key s ≡ true → is_key key (carries v s) ≡ true
      back e =
          let own = is_key-is key (key_before v s (origin_of v s)) (before key s lt e) in
          let does : carries_key v own.0.bits s ≡ true = subst (λ (k : ℕ). carries_key v k s ≡ true) (sym own.2) e in
          ap (is_key key) (carried_by v s own.0 own.1 does) ∙ eq-eqb own.0.bits key own.2

-- ---- a port

module _ (v : View) (c p : ℕ) where
  abbrev into : List ℕ
  into = streams_to v c p

  -- without a stream there is none
  pub no_stream_key : find (goes_to v c p) (stream_numbers v) ≡ None → port_key v c p ≡ None
  no_stream_key e = ap (common_key v) (find_none (goes_to v c p) (stream_numbers v) e)

  module _ (first : ℕ) (is : find (goes_to v c p) (stream_numbers v) ≡ Some first) where
    head : (rest : List ℕ) × (into ≡ first ∷ rest)
    head = find_head (goes_to v c p) (stream_numbers v) first is

    pub no_carried_key : carries v first ≡ None → port_key v c p ≡ None
    no_carried_key none = ap (common_key v) head.1 ∙ ap (option_and_then (λ key. if list_all (carries_key v key.bits) head.0 then Some key else None)) none

    pub carried_port_key : (key : Attrs) → carries v first ≡ Some key → port_key v c p ≡ (if list_all (carries_key v key.bits) into then Some key else None)
    carried_port_key key some =
        let own : carries_key v key.bits first ≡ true = (carries-from v first key some).1 in
        let all : list_all (carries_key v key.bits) into ≡ list_all (carries_key v key.bits) head.0 = ap (list_all (carries_key v key.bits)) head.1 ∙ ap (λ (b : Bool). b && list_all (carries_key v key.bits) head.0) own in
        ap (common_key v) head.1
        ∙ ap (option_and_then (λ key. if list_all (carries_key v key.bits) head.0 then Some key else None)) some
        ∙ ap (λ (b : Bool). if b then Some key else None) (sym all)
