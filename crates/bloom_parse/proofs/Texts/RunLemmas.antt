-- Longest runs at the front of a text, and what they are in UTF-8.
use Rattle.std.proofs.Common.{◌≡◌, ℕ, ◌+◌, ◌<◌, Bool, true, false, cond, ◌&&◌, List, [], ◌∷◌, take, refl, ap, ◌∙◌, sym, arith, length, get_or, not, ◌-◌, ◌==◌, ◌≤◌, ◌⊎◌, inl, inr, min}
use Rattle.std.proofs.lemmas.List.{take_all}
use Rattle.std.proofs.lemmas.Bool.{cases_lt}
use Rattle.std.proofs.lemmas.List.Sums.{suffix_len-take_no, suffix_len-take_yes}
use Rattle.std.proofs.Math.Numerals.{one-add}
use Rattle.std.specs.List.{prefix_len, suffix_len, list_all}
use Rattle.std.specs.Str.{IsUtf8}
use Rattle.blz_value.specs.Name.{is_name_byte}
use Rattle.blz_value.proofs.Lists.{utf8_of_all, name_byte_small}
use Rattle.bloom_parse.specs.Tokens.{column_behind}

run_step : {X : Type 0} (p : X → Bool) (x : X) (xs : List X) → list_all p (take (prefix_len p xs) xs) ≡ true → (b : Bool) → p x ≡ b → list_all p (take (cond b (1 + prefix_len p xs) 0) (x ∷ xs)) ≡ true
run_step p x xs h true e = rw (one-add, e) h
run_step p x xs h false e = refl

-- each of the run passes
pub run_passes : {X : Type 0} (p : X → Bool) (xs : List X) → list_all p (take (prefix_len p xs) xs) ≡ true
run_passes p [] = refl
run_passes p (x ∷ xs) = run_step p x xs (run_passes p xs) (p x) refl

pub and_true : (a b : Bool) → a && b ≡ true → (a ≡ true) × (b ≡ true)
and_true true b h = (refl, h)
and_true false b h = cc

pub utf8_of_name_bytes : (bs : List ℕ) → list_all is_name_byte bs ≡ true → IsUtf8 bs
utf8_of_name_bytes = utf8_of_all is_name_byte name_byte_small

column_test : (bytes : List ℕ) (i : ℕ) → i < length bytes → (b : Bool) → get_or bytes i 0 == 10 ≡ b → cond b 1 (column_behind (take i bytes) + 1) ≡ column_behind (take (i + 1) bytes)
column_test bytes i h true e =
    let p : ℕ → Bool = λ byte. not (byte == 10) in
    let back : i + 1 - 1 ≡ i = omega arith in
    ap (λ n. n + 1) (sym (suffix_len-take_no p bytes (i + 1) 0 (omega arith) (omega arith) (ap (λ k. p (get_or bytes k 0)) back ∙ ap not e)))
column_test bytes i h false e =
    let p : ℕ → Bool = λ byte. not (byte == 10) in
    let back : i + 1 - 1 ≡ i = omega arith in
    let one = suffix_len-take_yes p bytes (i + 1) 0 (omega arith) (omega arith) (ap (λ k. p (get_or bytes k 0)) back ∙ ap not e) in
    let same : suffix_len p (take (i + 1 - 1) bytes) ≡ suffix_len p (take i bytes) = ap (λ k. suffix_len p (take k bytes)) back in
    omega arith

-- the column behind one byte more
pub column_next : (bytes : List ℕ) (i : ℕ) → i < length bytes → cond (get_or bytes i 0 == 10) 1 (column_behind (take i bytes) + 1) ≡ column_behind (take (i + 1) bytes)
column_next bytes i h = column_test bytes i h (get_or bytes i 0 == 10) refl

within_by : (n : ℕ) (text : List ℕ) → (n < length text) ⊎ (length text ≤ n) → take (min n (length text)) text ≡ take n text
within_by n text (inl h) = let e : min n (length text) ≡ n = omega arith in ap (λ k. take k text) e
within_by n text (inr h) = let e : min n (length text) ≡ length text = omega arith in ap (λ k. take k text) e ∙ take_all (length text) text (omega arith) ∙ sym (take_all n text h)

-- a front that is cut at the end is the front
pub take_within : (n : ℕ) (text : List ℕ) → take (min n (length text)) text ≡ take n text
take_within n text = within_by n text (cases_lt n (length text))
