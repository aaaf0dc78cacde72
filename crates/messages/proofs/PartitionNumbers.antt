-- The numbers of partitions: each is that of one key value, and a partition keeps its number.
use Rattle.std.proofs.Common.{◌≡◌, refl, ap, sym, subst, ◌∙◌, ℕ, zero, suc, ◌+◌, ◌<◌, Bool, true, false, cond, Option, None, Some, List, [], ◌∷◌, ◌++◌, length, get_or, slice_get, arith, inl, inr}
use Rattle.std.specs.Prelude.{Result, Ok, Err, IfOk, OnErr}
use Rattle.std.specs.List.{AllByRecursion, IsDistinct, position_from}
use Rattle.std.specs.Ordering.{eq_by_cmp}
use Rattle.std.proofs.lemmas.Map.Keys.{IsDistinct-head, IsDistinct-tail}
use Rattle.std.proofs.lemmas.Option.{slice_get-get_or}
use Rattle.blz_pool.specs.Pool.{number_of}
use Rattle.blz_pool.proofs.Records.{number_of-get}
use Rattle.blz_value.specs.Record.{Row, record_cmp}
use Rattle.blz_value.specs.Message.{is_same_row}
use Rattle.messages.proofs.MessagesLemmas.{is_same_row-itself}
use Rattle.messages.specs.Feeds.{FeedsView, is_whole_in, is_due_in}
use Rattle.messages.specs.Whole.{HasNumber, KeepNumbers}
use Rattle.messages.specs.Code.Tallies.{IsAdded, AreAsBefore}

-- ---- one number is that of one key value

all_at : {X : Type 0} (P : X → Type 0) (xs : List X) (n : ℕ) (x : X) → AllByRecursion P xs → slice_get xs n ≡ Some x → P x
all_at P [] n x all at = cc
all_at P (y ∷ ys) zero x all at = subst P (let some : Some y ≡ Some x = at in let is : y ≡ x = cc in is) all.0
all_at P (y ∷ ys) (suc n) x all at = all_at P ys n x all.1 at

number_from : (i : ℕ) (key : Row) (keys : List Row) (n : ℕ) → IsDistinct (eq_by_cmp record_cmp) keys → slice_get keys n ≡ Some key → position_from (λ held. eq_by_cmp record_cmp held key) i keys ≡ Some (i + n)
number_from i key [] n d at = cc
number_from i key (k ∷ keys) zero d at =
    let some : Some k ≡ Some key = at in
    let is : k ≡ key = cc in
    let same : eq_by_cmp record_cmp k key ≡ true = ap (λ (q : Row). is_same_row q key) is ∙ is_same_row-itself key in
    let first : i ≡ i + 0 = omega arith in
    ap (λ b. cond b (Some i) (position_from (λ held. eq_by_cmp record_cmp held key) (i + 1) keys)) same ∙ ap Some first
number_from i key (k ∷ keys) (suc n) d at =
    let apart : eq_by_cmp record_cmp k key ≡ false = all_at (λ y. eq_by_cmp record_cmp k y ≡ false) keys n key (IsDistinct-head (eq_by_cmp record_cmp) k keys d) at in
    let next : i + 1 + n ≡ i + suc n = omega arith in
    ap (λ b. cond b (Some i) (position_from (λ held. eq_by_cmp record_cmp held key) (i + 1) keys)) apart
    ∙ number_from (i + 1) key keys n (IsDistinct-tail (eq_by_cmp record_cmp) k keys d) at ∙ ap Some next

pub number_at : (keys : List Row) (key : Row) (number : ℕ) → IsDistinct (eq_by_cmp record_cmp) keys → HasNumber keys key number → number_of keys key ≡ Some number
number_at keys key number d at = number_from 0 key keys number d at ∙ ap Some (let none : 0 + number ≡ number = omega arith in none)

-- ---- partitions keep their numbers

get_more : (keys more : List Row) (n : ℕ) (key : Row) → slice_get keys n ≡ Some key → slice_get (keys ++ more) n ≡ Some key
get_more [] more n key at = cc
get_more (k ∷ keys) more zero key at = at
get_more (k ∷ keys) more (suc n) key at = get_more keys more n key at

pub kept_numbers : (carrying : ℕ) (old new : List Row) (was now : List ℕ) (key : Row) (number : ℕ) → IsAdded carrying old new was now key number → KeepNumbers old new
kept_numbers carrying old new was now key number h k n has = elim h.grown [
  | inl same ↦ subst (λ keys. slice_get keys n ≡ Some k) (sym same.0) has
  | inr more ↦ subst (λ keys. slice_get keys n ≡ Some k) (sym more.1) (get_more old (key ∷ []) n k has)
]

pub same_numbers : (old new : List Row) (was now : List ℕ) → AreAsBefore old new was now → KeepNumbers old new
same_numbers old new was now h k n has = subst (λ keys. slice_get keys n ≡ Some k) (sym h.keys) has

-- what both outcomes give
pub on_both : {A E P R : Type 0} (Q : A → Type 0) (r : Result A E) → IfOk r Q → OnErr r R → ((x : A) → Q x → P) → (R → P) → P
on_both Q (Ok x) ok err f g = f x ok
on_both Q (Err e) ok err f g = g err

pub found_number : {E : Type 0} (carrying : ℕ) (old new : List Row) (was now : List ℕ) (key : Row) (r : Result ℕ E) → IfOk r (λ number. IsAdded carrying old new was now key number) → IfOk r (λ number. HasNumber new key number)
found_number carrying old new was now key (Ok number) h = number_of-get new key number h.found
found_number carrying old new was now key (Err e) h = tt

-- ---- what waits for nothing

pub due_at : (f : FeedsView) (keys : List Row) (number : ℕ) (b : Bool) → number < length keys → ((k : Row) → HasNumber keys k number → b ≡ is_whole_in f k) → b ≡ is_due_in f (slice_get keys number)
due_at f keys number b within is = by (slice_get keys number) refl
  where
    by : (o : Option Row) → slice_get keys number ≡ o → b ≡ is_due_in f o
    by (Some k) at = is k at
    by None at = (let none : None ≡ Some (get_or keys number []) = sym at ∙ slice_get-get_or keys number [] within in cc)
