-- Lists: what passes a test, what is at a place, and what maps make of them.
use Rattle.std.proofs.Common.{Bool, List, false, sym, ◌≡◌, ◌∙◌, [], ap, inl, inr, ℕ, ◌+◌, ◌∷◌, Some, arith, cond, refl, suc, true, filter, map, ◌&&◌, ◌<◌, length, ◌≤◌, nat_eq, rules, bit_or, add-one, drop, drop-cons, get_or, subst, take, nat_cmp, None, zero, nat_lt}
use Rattle.blz_value.specs.Members.{Has}
use Rattle.blz_value.proofs.Membership.{Has-from_any, Has-append_left, any_from_Has}
use Rattle.std.proofs.lemmas.Bool.{false_from_ne_true, true≢false}
use Rattle.std.specs.List.{list_any, enumerate_from, position_from, AllByRecursion, list_all, sum}
use Rattle.std.specs.Option.{option_map}
use Rattle.blz_value.specs.Record.{Row, record_cmp}
use Rattle.std.specs.Ordering.{eq_by_cmp, is_eq, ordering_reverse, ordering_then}
use Rattle.std.specs.Cmp.{eq_by_cmp_equiv, first_so, second_so}
use Rattle.blz_value.specs.RecordOrder.{record_cmp_total}
use Rattle.std.specs.declared.cmp.Ordering.TheVariants.{Equal, Greater, Less}
use Rattle.std.specs.declared.cmp.Ordering.{Ordering}
use Rattle.std.proofs.lemmas.List.Elements.{All-from_recursion}
use Rattle.std.proofs.lemmas.Str.Ascii.{IsAscii-from_all}
use Rattle.std.specs.Str.{IsUtf8}
use Rattle.std.proofs.lemmas.Str.{IsUtf8-from_ascii}
use Rattle.blz_value.specs.Name.{is_name_byte}
use Rattle.std.proofs.lemmas.Bool.Decides.{nat_tests}
use Rattle.std.proofs.lemmas.List.Sums.{sum_by-cons}
use Rattle.blz_value.proofs.Maps.{same_map}
use Rattle.blz_value.specs.Arrows.{with_all}
use Rattle.blz_value.specs.Closure.{within}
use Rattle.blz_value.proofs.Within.{within-or_l, within-refl, within-trans}
use Rattle.std.proofs.lemmas.List.{take-append-drop}
use Rattle.std.proofs.lemmas.Slice.Eq.{bytes_eq-Decides}
use Rattle.std.proofs.lemmas.Map.Text.{is_eq-slice_cmp}
use Rattle.std.specs.Cmp.Lexicographic.{slice_cmp}
use Rattle.std.specs.Prelude.{slice_get}

pub none_any : {X : Type 0} (p : X → Bool) (xs : List X) → ((x : X) → Has x xs → p x ≡ false) → list_any p xs ≡ false
none_any p xs each = false_from_ne_true (list_any p xs) (λ some. let found = Has-from_any p xs some in true≢false (sym found.2 ∙ each found.0 found.1))

-- a record that is enumerated is one of the records
pub from_numbers : {X : Type 0} (from : ℕ) (xs : List X) (place : ℕ × X) → Has place (enumerate_from from xs) → Has place.1 xs
from_numbers from [] place h = absurd h
from_numbers from (x ∷ xs) place (inl e) = inl (ap (λ (p : ℕ × _). p.1) e)
from_numbers from (x ∷ xs) place (inr h) = inr (from_numbers (from + 1) xs place h)

pub position_from-suc : {X : Type 0} (t : X → Bool) (i : ℕ) (xs : List X) → position_from t (i + 1) xs ≡ option_map suc (position_from t i xs)
position_from-suc t i [] = refl
position_from-suc {X = X} t i (x ∷ xs) = go (t x) (position_from-suc t (i + 1) xs)
  where
    go : (b : Bool) → position_from t ((i + 1) + 1) xs ≡ option_map suc (position_from t (i + 1) xs) → cond b (Some (i + 1)) (position_from t ((i + 1) + 1) xs) ≡ option_map suc (cond b (Some i) (position_from t (i + 1) xs))
    go true e = ap Some (omega arith)
    go false e = e

pub same-self : (row : Row) → eq_by_cmp record_cmp row row ≡ true
same-self row = (eq_by_cmp_equiv record_cmp_total).refl row

pub filter-map : {X Y : Type 0} (f : X → Y) (p : Y → Bool) (xs : List X) → filter p (map f xs) ≡ map f (filter (λ x. p (f x)) xs)
filter-map f p [] = refl
filter-map f p (x ∷ xs) =
    elim (p (f x)) as (λ b. cond b (f x ∷ filter p (map f xs)) (filter p (map f xs)) ≡ map f (cond b (x ∷ filter (λ y. p (f y)) xs) (filter (λ y. p (f y)) xs))) [
      | true ↦ ap (λ l. f x ∷ l) (filter-map f p xs)
      | false ↦ filter-map f p xs
    ]

pub eq_turned : (o r : Ordering) → o ≡ ordering_reverse r → is_eq o ≡ is_eq r
eq_turned o Less e = ap is_eq e
eq_turned o Equal e = ap is_eq e
eq_turned o Greater e = ap is_eq e

pub eq_first : (o r : Ordering) → is_eq (ordering_then o r) ≡ is_eq o && is_eq r
eq_first Less r = refl
eq_first Equal r = refl
eq_first Greater r = refl

pub all_below : (p : ℕ → Bool) → ((b : ℕ) → p b ≡ true → b < 128) → (bs : List ℕ) → list_all p bs ≡ true → AllByRecursion (λ b. b < 128) bs
all_below p h [] e = tt
all_below p h (b ∷ bs) e = (h b (first_so (p b) (list_all p bs) e), all_below p h bs (second_so (p b) (list_all p bs) e))

pub utf8_of_all : (p : ℕ → Bool) → ((b : ℕ) → p b ≡ true → b < 128) → (bs : List ℕ) → list_all p bs ≡ true → IsUtf8 bs
utf8_of_all p h bs e = IsUtf8-from_ascii bs (IsAscii-from_all bs (All-from_recursion (λ b. b < 128) bs (all_below p h bs e)))

pub name_byte_small : (b : ℕ) → is_name_byte b ≡ true → b < 128
name_byte_small b h = grind (arith, nat_tests)

pub sum-cons : (x : ℕ) (xs : List ℕ) → sum (x ∷ xs) ≡ x + sum xs
sum-cons x xs = sum_by-cons (λ n. n) x xs

pub map_itself : {X : Type 0} (xs : List X) → map (λ x. x) xs ≡ xs
map_itself [] = refl
map_itself (x ∷ xs) = ap (λ ys. x ∷ ys) (map_itself xs)

pub all_on : {X : Type 0} (f g : X → Bool) (xs : List X) → ((x : X) → Has x xs → f x ≡ g x) → list_all f xs ≡ list_all g xs
all_on f g [] same = refl
all_on f g (x ∷ xs) same = let one : f x ≡ g x = same x (inl refl) in let more = all_on f g xs (λ y has. same y (inr has)) in λ i. one i && more i

pub map_twice : {X Y Z : Type 0} (g : Y → Z) (f : X → Y) (xs : List X) → map g (map f xs) ≡ map (λ x. g (f x)) xs
map_twice g f [] = refl
map_twice g f (x ∷ xs) = let more = map_twice g f xs in λ i. g (f x) ∷ more i

-- what is the same everywhere is the same of all
pub map_same : {X Y : Type 0} (f g : X → Y) → ((x : X) → f x ≡ g x) → (xs : List X) → map f xs ≡ map g xs
map_same f g same xs = same_map f g xs (λ x has. same x)

pub same_count : (n m : ℕ) → nat_eq n m ≡ true → n ≡ m
same_count n m e = search rules

pub all_keeps : (s : ℕ) (sets : List ℕ) → within s (with_all s sets) ≡ true
all_keeps s [] = within-refl s
all_keeps s (m ∷ sets) = within-trans s (bit_or s m) _ (within-or_l s m) (all_keeps (bit_or s m) sets)

-- a test that each member passes
pub all_pass : {X : Type 0} (p : X → Bool) (xs : List X) → ((x : X) → Has x xs → p x ≡ true) → list_all p xs ≡ true
all_pass p [] h = refl
all_pass p (x ∷ xs) h = rw (h x (inl refl)) (all_pass p xs (λ y m. h y (inr m)))

pub rest_is : {X : Type 0} (xs : List X) (i : ℕ) (x : X) → i < length xs → x ≡ get_or xs i x → drop i xs ≡ x ∷ drop (i + 1) xs
rest_is xs i x below at = rw (drop-cons xs i x, add-one, ← at) refl

pub filter_same : {X : Type 0} (f g : X → Bool) (xs : List X) → ((x : X) → Has x xs → f x ≡ g x) → filter f xs ≡ filter g xs
filter_same f g [] same = refl
filter_same f g (x ∷ xs) same = let one : f x ≡ g x = same x (inl refl) in let more = filter_same f g xs (λ y has. same y (inr has)) in λ i. cond (one i) (x ∷ more i) (more i)

pub Has-take : {X : Type 0} (n : ℕ) (x : X) (xs : List X) → Has x (take n xs) → Has x xs
Has-take {X} n x xs h = subst (λ (l : List X). Has x l) (take-append-drop n xs) (Has-append_left x (take n xs) (drop n xs) h)

pub any-none : {X : Type 0} (p : X → Bool) (xs : List X) → list_any p xs ≡ false → (x : X) → Has x xs → p x ≡ false
any-none p xs e x has = false_from_ne_true (p x) (λ here. true≢false (sym (any_from_Has p x xs has here) ∙ e))

pub equal_keys : (k l : List ℕ) → slice_cmp nat_cmp k l ≡ Equal → k ≡ l
equal_keys k l e = (bytes_eq-Decides k l).0 (sym (is_eq-slice_cmp k l) ∙ ap is_eq e)

pub past_none : {X : Type 0} (xs : List X) (k : ℕ) → slice_get xs k ≡ None → length xs ≤ k
past_none [] k e = omega arith
past_none (x ∷ xs) zero e = absurd (let bad : Some x ≡ None = e in cc)
past_none (x ∷ xs) (suc k) e = omega (arith, past_none xs k e)

pub is_eq-then : (o p : Ordering) → is_eq (ordering_then o p) ≡ (is_eq o && is_eq p)
is_eq-then Less p = refl
is_eq-then Equal p = refl
is_eq-then Greater p = refl

pub lt-is : (n m : ℕ) → n < m → nat_lt n m ≡ true
lt-is n m lt = grind (arith, nat_tests)

pub lt-not : (n m : ℕ) → m ≤ n → nat_lt n m ≡ false
lt-not n m le = grind (arith, nat_tests)
