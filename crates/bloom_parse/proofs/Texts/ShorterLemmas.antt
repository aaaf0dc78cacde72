-- Each token takes a byte at least.
use Rattle.std.proofs.Common.{◌≡◌, ℕ, zero, suc, ◌+◌, ◌<◌, ◌≤◌, Bool, true, false, cond, ◌||◌, ◌==◌, List, [], ◌∷◌, Option, Some, None, length, drop, take, refl, arith, subst, not, ◌*◌}
use Rattle.std.proofs.lemmas.List.{length-drop}
use Rattle.std.specs.Str.{is_utf8}
use Rattle.blz_value.specs.declared.test.Op.{Op}
use Rattle.blz_value.specs.declared.test.Op.TheVariants.{Eq, Ne, Lt, Le, Gt, Ge}
use Rattle.bloom_parse.specs.declared.lexing.terminal.Mark.{Mark}
use Rattle.std.proofs.lemmas.Bool.Decides.{nat_tests}
use Rattle.std.specs.Char.{is_ascii_digit}
use Rattle.std.specs.List.{prefix_len}
use Rattle.std.specs.Option.{option_map, option_map_or, option_and_then}
use Rattle.blz_value.specs.Name.{is_name_start, is_name_byte}
use Rattle.bloom_parse.specs.declared.lexing.terminal.Terminal.{Terminal}
use Rattle.bloom_parse.specs.declared.lexing.terminal.Terminal.TheVariants as terminals
use Rattle.bloom_parse.specs.Tokens.{behind_blanks, is_white, and_rest, named, numbered, name_front, number_size, number_front, hex_value, hex_front, escape_front, byte_front, closing_front, starts_with_quote, with_bytes, bytes_front, text_front, mark_of, starts_with_equals, sign_front, mark_front, front, is_control}

abbrev pub Shorter : {X : Type 0} → ℕ → Option (X × List ℕ) → Type 0
Shorter n None = Unit {0}
Shorter n (Some x) = length x.1 < n

by_test : {X : Type 0} (n : ℕ) (b : Bool) (x y : Option (X × List ℕ)) → (b ≡ true → Shorter n x) → (b ≡ false → Shorter n y) → Shorter n (cond b x y)
by_test n true x y h k = h refl
by_test n false x y h k = k refl

with_rest : (n : ℕ) (rest : List ℕ) (found : Option Terminal) → length rest < n → Shorter n (and_rest rest found)
with_rest n rest None h = tt
with_rest n rest (Some t) h = h

-- a run that isn't empty is cut off
cut : (size : ℕ) (b : ℕ) (rest : List ℕ) → 0 < size → length (drop size (b ∷ rest)) < length (b ∷ rest)
cut size b rest h = omega (arith, length-drop size (b ∷ rest))

run_takes : (p : ℕ → Bool) (b : ℕ) (rest : List ℕ) → p b ≡ true → 0 < prefix_len p (b ∷ rest)
run_takes p b rest h = rw h (omega arith)

name_shorter : (b : ℕ) (rest : List ℕ) → is_name_start b ≡ true → Shorter (length (b ∷ rest)) (name_front (b ∷ rest))
name_shorter b rest h =
    let size = prefix_len is_name_byte (b ∷ rest) in
    with_rest (length (b ∷ rest)) (drop size (b ∷ rest)) (named (take size (b ∷ rest))) (cut size b rest (run_takes is_name_byte b rest (rw h refl)))

number_takes : (b : ℕ) (rest : List ℕ) (minus : Bool) → b == 45 ≡ minus → is_ascii_digit b || minus ≡ true → 0 < cond minus (1 + prefix_len is_ascii_digit rest) (prefix_len is_ascii_digit (b ∷ rest))
number_takes b rest true e h = omega arith
number_takes b rest false e h = run_takes is_ascii_digit b rest (grind (arith, nat_tests))

number_shorter : (b : ℕ) (rest : List ℕ) → is_ascii_digit b || b == 45 ≡ true → Shorter (length (b ∷ rest)) (number_front (b ∷ rest))
number_shorter b rest h =
    let size = number_size (b ∷ rest) in
    with_rest (length (b ∷ rest)) (drop size (b ∷ rest)) (numbered (take size (b ∷ rest))) (cut size b rest (number_takes b rest (b == 45) refl h))

-- ---- text literals

both_some : {A X : Type 0} (n : ℕ) (f : A → Option (X × List ℕ)) (o : Option A) → ((a : A) → Shorter n (f a)) → Shorter n (option_and_then f o)
both_some n f None h = tt
both_some n f (Some a) h = h a

then_shorter : {X Y : Type 0} (n m : ℕ) (f : X × List ℕ → Option (Y × List ℕ)) (o : Option (X × List ℕ)) → Shorter m o → ((x : X × List ℕ) → length x.1 < m → Shorter n (f x)) → Shorter n (option_and_then f o)
then_shorter n m f None s h = tt
then_shorter n m f (Some x) s h = h x s

hex_shorter : (n : ℕ) (text : List ℕ) → length text < n → Shorter n (hex_front text)
hex_shorter n [] h = tt
hex_shorter n (high ∷ []) h = tt
hex_shorter n (high ∷ low ∷ rest) h =
    both_some n _ (hex_value high) (λ a. both_some n _ (hex_value low) (λ b. by_test n (is_control (16 * a + b)) (Some (16 * a + b, rest)) None (λ e. omega arith) (λ e. tt)))

escape_shorter : (n : ℕ) (text : List ℕ) → length text < n → Shorter n (escape_front text)
escape_shorter n [] h = tt
escape_shorter n (b ∷ rest) h =
    by_test n (b == 34 || b == 92) (Some (b, rest)) _ (λ e. omega arith) (λ e.
    by_test n (b == 120) (hex_front rest) None (λ f. hex_shorter n rest (omega arith)) (λ f. tt))

byte_shorter : (text : List ℕ) → Shorter (length text) (byte_front text)
byte_shorter [] = tt
byte_shorter (b ∷ rest) =
    by_test (length (b ∷ rest)) (b == 92) (escape_front rest) _ (λ e. escape_shorter (length (b ∷ rest)) rest (omega arith)) (λ e.
    by_test (length (b ∷ rest)) (is_control b || b == 34) None (Some (b, rest)) (λ f. tt) (λ f. omega arith))

closing_shorter : (n : ℕ) (text : List ℕ) → length text ≤ n → Shorter n (closing_front text)
closing_shorter n [] h = tt
closing_shorter n (b ∷ rest) h = by_test n (b == 34) (Some ([], rest)) None (λ e. omega arith) (λ e. tt)

bytes_first : (n : ℕ) (bytes : List ℕ) (found : Option (List ℕ × List ℕ)) → Shorter n found → Shorter n (with_bytes bytes found)
bytes_first n bytes None h = tt
bytes_first n bytes (Some x) h = h

bytes_shorter : (room n : ℕ) (text : List ℕ) → length text ≤ n → Shorter n (bytes_front room text)
unfolding bytes_front
bytes_shorter zero n text h = closing_shorter n text h
bytes_shorter (suc room) n text h =
    by_test n (starts_with_quote text) (closing_front text) _ (λ e. closing_shorter n text h) (λ e.
    then_shorter n (length text) _ (byte_front text) (byte_shorter text) (λ x k. bytes_first n (x.0 ∷ []) (bytes_front room x.1) (bytes_shorter room n x.1 (omega arith))))

literal_shorter : (n : ℕ) (b : Bool) (x : List ℕ × List ℕ) → length x.1 < n → Shorter n (cond b (Some (terminals.Text x.0, x.1)) None)
literal_shorter n true x h = h
literal_shorter n false x h = tt

text_shorter : (n : ℕ) (text : List ℕ) → length text ≤ n → Shorter n (text_front text)
text_shorter n text h = then_shorter n n _ (bytes_front 64 text) (bytes_shorter 64 n text h) (λ x k. literal_shorter n (is_utf8 x.0) x k)

-- ---- marks

behind_one : (n : ℕ) (rest : List ℕ) → length rest < n → length (drop 1 rest) < n
behind_one n rest h = omega (arith, length-drop 1 rest)

sign_shorter : (n b : ℕ) (rest : List ℕ) → length rest < n → Shorter n (sign_front b rest)
sign_shorter n b rest h =
    by_test n (b == 61) (Some (Eq, rest)) _ (λ e. h) (λ e.
    by_test n (b == 33) _ _ (λ e. by_test n (starts_with_equals rest) (Some (Ne, drop 1 rest)) None (λ f. behind_one n rest h) (λ f. tt)) (λ e.
    by_test n (b == 60) _ _ (λ e. by_test n (starts_with_equals rest) (Some (Le, drop 1 rest)) (Some (Lt, rest)) (λ f. behind_one n rest h) (λ f. h)) (λ e.
    by_test n (b == 62) _ None (λ e. by_test n (starts_with_equals rest) (Some (Ge, drop 1 rest)) (Some (Gt, rest)) (λ f. behind_one n rest h) (λ f. h)) (λ e. tt))))

as_terminal : (n : ℕ) (found : Option (Op × List ℕ)) → Shorter n found → Shorter n (option_map (λ x. (terminals.Sign x.0, x.1)) found)
as_terminal n None h = tt
as_terminal n (Some x) h = h

either_mark : (n b : ℕ) (rest : List ℕ) (found : Option Mark) → length rest < n → Shorter n (option_map_or (λ m. Some (terminals.Mark m, rest)) found (option_map (λ x. (terminals.Sign x.0, x.1)) (sign_front b rest)))
either_mark n b rest None h = as_terminal n (sign_front b rest) (sign_shorter n b rest h)
either_mark n b rest (Some m) h = h

mark_shorter : (n b : ℕ) (rest : List ℕ) → length rest < n → Shorter n (mark_front b rest)
mark_shorter n b rest h = either_mark n b rest (mark_of b) h

-- ---- all tokens

pub front_shorter : (text : List ℕ) → Shorter (length text) (front text)
unfolding front
front_shorter [] = tt
front_shorter (b ∷ rest) =
    let n = length (b ∷ rest) in
    by_test n (is_name_start b) (name_front (b ∷ rest)) _ (λ e. name_shorter b rest e) (λ e.
    by_test n (is_ascii_digit b || b == 45) (number_front (b ∷ rest)) _ (λ f. number_shorter b rest f) (λ f.
    by_test n (b == 34) (text_front rest) (mark_front b rest) (λ g. text_shorter n rest (omega arith)) (λ g. mark_shorter n b rest (omega arith))))

blank_turn : (n : ℕ) (b : Bool) (xs ys : List ℕ) → length xs ≤ n → length ys ≤ n → length (cond b xs ys) ≤ n
blank_turn n true xs ys h k = h
blank_turn n false xs ys h k = k

pub blanks_no_longer : (within : Bool) (text : List ℕ) → length (behind_blanks within text) ≤ length text
blanks_no_longer within [] = omega arith
blanks_no_longer within (b ∷ text) =
    let next = cond within (not (b == 10)) (b == 35) in
    let less = blanks_no_longer next text in
    blank_turn (length (b ∷ text)) (within || (is_white b || b == 35)) (behind_blanks next text) (b ∷ text) (omega arith) (omega arith)

shorter_by : {X : Type 0} (n : ℕ) (o : Option (X × List ℕ)) (x : X × List ℕ) → Shorter n o → o ≡ Some x → length x.1 < n
shorter_by n None x s e = cc
shorter_by {X} n (Some y) x s e = let same : y ≡ x = cc in subst (λ (z : X × List ℕ). length z.1 < n) same s

-- what is left gets shorter by each token
pub lex_shorter : (left after : List ℕ) (t : Terminal) → front left ≡ Some (t, after) → length (behind_blanks false after) < length left
lex_shorter left after t e =
    let less = shorter_by (length left) (front left) (t, after) (front_shorter left) e in
    let more = blanks_no_longer false after in omega arith
