-- A window that is full, or looked at all, shows the first open places.
use Rattle.std.proofs.Common.{◌≡◌, ◌+◌, ◌-◌, ◌++◌, ◌∷◌, ◌==◌, ◌||◌, not, cond, ℕ, zero, suc, Bool, true, false, List, [], length, take, filter, refl, ◌∙◌, ap, sym, inl, inr, add-zero, append-nil, arith}
use Rattle.std.specs.List.{range_with_len}
use Rattle.std.proofs.lemmas.List.{take_all}
use Rattle.std.proofs.lemmas.List.Elements.{filter-append}
use Rattle.std.proofs.Math.Seq.{take-append_seam}
use Rattle.blz_value.specs.Members.{Has}
use Rattle.sched_turns.specs.Windows.{window_size, open_below, first_open, Looked, IsWindow, OthersAreOpen}
use Rattle.sched_turns.specs.declared.windows.Stale.TheVariants.{Nothing, Place}

-- numbers after numbers
range-append : (a n m : ℕ) → range_with_len a (n + m) ≡ range_with_len a n ++ range_with_len (a + n) m
range-append a zero m =
    ap (range_with_len a) (let e : 0 + m ≡ m = omega arith in e)
    ∙ ap (λ k. range_with_len k m) (sym (add-zero a))
range-append a (suc n) m =
    ap (range_with_len a) (let e : suc n + m ≡ suc (n + m) = omega arith in e)
    ∙ ap (λ (l : List ℕ). a ∷ l)
    (range-append (a + 1) n m
    ∙ ap (λ k. range_with_len (a + 1) n ++ range_with_len k m) (let e : (a + 1) + n ≡ a + suc n = omega arith in e))

-- the open places of a list that is longer
open-append : (p : ℕ → Bool) (n m : ℕ) → open_below p (n + m) ≡ open_below p n ++ filter p (range_with_len n m)
open-append p n m =
    ap (filter p) (range-append 0 n m ∙ ap (λ k. range_with_len 0 n ++ range_with_len k m) (let e : 0 + n ≡ n = omega arith in e))
    ∙ filter-append p (range_with_len 0 n) (range_with_len n m)

-- a place more, which is open
pub open-more : (p : ℕ → Bool) (n : ℕ) → p n ≡ true → open_below p n ++ n ∷ [] ≡ open_below p (n + 1)
open-more p n is = sym (open-append p n 1 ∙ ap (λ (l : List ℕ). open_below p n ++ l) (one n is))
  where
    one : (n : ℕ) → p n ≡ true → filter p (n ∷ []) ≡ n ∷ []
    one n is = rw is

-- or isn't
pub open_stays : (p : ℕ → Bool) (n : ℕ) → p n ≡ false → open_below p n ≡ open_below p (n + 1)
open_stays p n is = sym (open-append p n 1 ∙ ap (λ (l : List ℕ). open_below p n ++ l) (none n is) ∙ append-nil (open_below p n))
  where
    none : (n : ℕ) → p n ≡ false → filter p (n ∷ []) ≡ []
    none n is = rw is

pub window_shows : (p : ℕ → Bool) (count : ℕ) (w : Looked) → IsWindow p count w → w.places ≡ first_open p count
window_shows p count w is = elim is.enough [
  | inl full ↦
      sym (ap (take window_size) whole
      ∙ ap (λ n. take n (open_below p w.next ++ filter p (range_with_len w.next (count - w.next)))) (sym full ∙ ap (λ (l : List ℕ). length l) is.below)
      ∙ take-append_seam (open_below p w.next) (filter p (range_with_len w.next (count - w.next)))
      ∙ sym is.below)
  | inr all ↦
      is.below ∙ ap (open_below p) all
      ∙ sym (take_all window_size (open_below p count) (omega (arith, is.few, ap (λ (l : List ℕ). length l) is.below, ap (λ n. length (open_below p n)) all)))
]
  where
    whole : open_below p count ≡ open_below p w.next ++ filter p (range_with_len w.next (count - w.next))
    whole = ap (open_below p) (let e : count ≡ w.next + (count - w.next) = omega (arith, is.inside) in e) ∙ open-append p w.next (count - w.next)

-- ---- places that aren't stale

-- of places a test keeps those that another keeps where the two agree on them
filter_agrees : (p q : ℕ → Bool) (places : List ℕ) → ((k : ℕ) → Has k places → p k ≡ q k) → filter p places ≡ filter q places
filter_agrees p q [] same = refl
filter_agrees p q (k ∷ places) same =
    ap (λ b. cond b (k ∷ filter p places) (filter p places)) (same k (inl refl))
    ∙ ap (λ (l : List ℕ). cond (q k) (k ∷ l) l) (filter_agrees p q places (λ n h. same n (inr h)))

all_kept : (places : List ℕ) → filter (λ k. true) places ≡ places
all_kept [] = refl
all_kept (k ∷ places) = ap (λ (l : List ℕ). k ∷ l) (all_kept places)

-- where nothing is stale all are open
pub none_stale : (is_open : ℕ → Bool) (places : List ℕ) → OthersAreOpen is_open Nothing places → places ≡ filter is_open places
none_stale is_open places open_others = sym (all_kept places) ∙ filter_agrees (λ k. true) is_open places (λ k h. sym (open_others k h refl))

-- where one place may be, it alone is looked at
pub one_stale : (is_open : ℕ → Bool) (one : ℕ) (places : List ℕ) → OthersAreOpen is_open (Place one) places → filter (λ k. not (k == one) || is_open k) places ≡ filter is_open places
one_stale is_open one places open_others = filter_agrees (λ k. not (k == one) || is_open k) is_open places (λ k h. by_test k (k == one) refl h)
  where
    by_test : (k : ℕ) (b : Bool) → (k == one) ≡ b → Has k places → (not (k == one) || is_open k) ≡ is_open k
    by_test k true e h = ap (λ b. not b || is_open k) e
    by_test k false e h = ap (λ b. not b || is_open k) e ∙ sym (open_others k h e)
