-- Fields without blanks and line ends, divided by single spaces, are the fields of their text.
use Rattle.std.proofs.Common.{◌≡◌, ℕ, zero, suc, ◌-◌, Bool, true, false, not, ◌||◌, List, [], ◌∷◌, ◌++◌, length, get_or, filter, refl, ap, ◌∙◌, arith}
use Rattle.std.specs.Prelude.{◌==◌}
use Rattle.std.specs.Cmp.{first_so, second_so}
use Rattle.std.specs.List.{All, AllByRecursion, flat_map, list_all}
use Rattle.std.proofs.lemmas.Bool.Decides.{nat_tests}
use Rattle.std.proofs.lemmas.Bool.{and_from}
use Rattle.std.proofs.lemmas.List.{append-nil}
use Rattle.std.proofs.lemmas.List.Elements.{All-from_recursion}
use Rattle.std.proofs.lemmas.List.Folds.{list_all-append}
use Rattle.std.proofs.lemmas.List.Splits.{slice_split_at, slice_split_none}
use Rattle.sched_text.specs.Lines.{has_bytes, is_line_feed, without_return}
use Rattle.sched_text.specs.Fields.{Field, is_blank, fields_of}

-- a byte of a line that ends neither the line nor a field
abbrev pub is_plain : ℕ → Bool
is_plain byte = not (is_blank byte || (byte == 10 || byte == 13))

-- a field of such bytes
pub record IsPlainField (field : Field) : Type 0 where
  pub plain : list_all is_plain field ≡ true
  pub some : has_bytes field ≡ true

-- ---- what plain bytes aren't

each_false : {X : Type 0} (p q : X → Bool) → ((x : X) → p x ≡ true → q x ≡ false) → (xs : List X) → list_all p xs ≡ true → AllByRecursion (λ x. q x ≡ false) xs
each_false p q h [] e = tt
each_false p q h (x ∷ xs) e = (h x (first_so (p x) (list_all p xs) e), each_false p q h xs (second_so (p x) (list_all p xs) e))

plain_no_blank : (byte : ℕ) → is_plain byte ≡ true → is_blank byte ≡ false
plain_no_blank byte e = grind (arith, nat_tests)

no_blanks : (field : Field) → list_all is_plain field ≡ true → All (λ b. is_blank b ≡ false) field
no_blanks field e = All-from_recursion (λ b. is_blank b ≡ false) field (each_false is_plain is_blank plain_no_blank field e)

-- ---- fields one after another

fields_of-end : (field : Field) → IsPlainField field → fields_of field ≡ field ∷ []
fields_of-end field h = ap (filter has_bytes) (slice_split_none is_blank field (no_blanks field h.plain)) ∙ rw (h.some) refl

fields_of-more : (field : Field) (rest : List ℕ) → IsPlainField field → fields_of (field ++ 32 ∷ rest) ≡ field ∷ fields_of rest
fields_of-more field rest h = ap (filter has_bytes) (slice_split_at is_blank field 32 rest (no_blanks field h.plain) refl) ∙ rw (h.some) refl

-- the fields behind others, each after a space
abbrev pub spaced : List Field → List ℕ
spaced fields = flat_map (λ field. 32 ∷ field) fields

abbrev pub ArePlain : List Field → Type 0
ArePlain fields = AllByRecursion IsPlainField fields

pub fields_of-spaced : (first : Field) (others : List Field) → IsPlainField first → ArePlain others → fields_of (first ++ spaced others) ≡ first ∷ others
fields_of-spaced first [] h hs = ap fields_of (append-nil first) ∙ fields_of-end first h
fields_of-spaced first (next ∷ others) h hs = fields_of-more first (next ++ spaced others) h ∙ ap (λ (fields : List Field). first ∷ fields) (fields_of-spaced next others hs.0 hs.1)

-- ---- no line end stands in them

-- a byte that doesn't end a line
abbrev pub is_inner : ℕ → Bool
is_inner byte = not (byte == 10 || byte == 13)

plain_inner : (byte : ℕ) → is_plain byte ≡ true → is_inner byte ≡ true
plain_inner byte e = grind (arith, nat_tests)

all_inner : (field : List ℕ) → list_all is_plain field ≡ true → list_all is_inner field ≡ true
all_inner [] e = refl
all_inner (byte ∷ field) e = and_from (is_inner byte) (list_all is_inner field) (plain_inner byte (first_so (is_plain byte) (list_all is_plain field) e)) (all_inner field (second_so (is_plain byte) (list_all is_plain field) e))

pub inner-append : (xs ys : List ℕ) → list_all is_inner xs ≡ true → list_all is_inner ys ≡ true → list_all is_inner (xs ++ ys) ≡ true
inner-append xs ys h g = list_all-append is_inner xs ys ∙ rw (h, g) refl

spaced_inner : (fields : List Field) → ArePlain fields → list_all is_inner (spaced fields) ≡ true
spaced_inner [] hs = refl
spaced_inner (field ∷ fields) hs = inner-append field (spaced fields) (all_inner field hs.0.plain) (spaced_inner fields hs.1)

pub fields_inner : (first : Field) (others : List Field) → IsPlainField first → ArePlain others → list_all is_inner (first ++ spaced others) ≡ true
fields_inner first others h hs = inner-append first (spaced others) (all_inner first h.plain) (spaced_inner others hs)

inner_no_feed : (byte : ℕ) → is_inner byte ≡ true → is_line_feed byte ≡ false
inner_no_feed byte e = grind (arith, nat_tests)

-- no LF stands in a text of such bytes
pub no_feeds : (text : List ℕ) → list_all is_inner text ≡ true → All (λ b. is_line_feed b ≡ false) text
no_feeds text e = All-from_recursion (λ b. is_line_feed b ≡ false) text (each_false is_inner is_line_feed inner_no_feed text e)

inner_no_return : (byte : ℕ) → is_inner byte ≡ true → (byte == 13) ≡ false
inner_no_return byte e = grind (arith, nat_tests)

last_inner : (text : List ℕ) (i : ℕ) → list_all is_inner text ≡ true → (get_or text i 0 == 13) ≡ false
last_inner [] i e = refl
last_inner (byte ∷ text) zero e = inner_no_return byte (first_so (is_inner byte) (list_all is_inner text) e)
last_inner (byte ∷ text) (suc i) e = last_inner text i (second_so (is_inner byte) (list_all is_inner text) e)

-- and no CR at its end
pub no_return : (text : List ℕ) → list_all is_inner text ≡ true → without_return text ≡ text
no_return text e = rw (last_inner text (length text - 1) e) refl
