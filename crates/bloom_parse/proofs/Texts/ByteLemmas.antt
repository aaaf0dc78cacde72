-- The bytes of a text literal, one after another.
use Rattle.std.proofs.Common.{◌≡◌, ℕ, zero, suc, ◌-◌, ◌<◌, ◌≤◌, ◌+◌, Bool, true, false, cond, List, [], ◌∷◌, ◌++◌, Option, Some, None, drop, refl, ap, ◌∙◌, sym, append_assoc, arith}
use Rattle.std.proofs.lemmas.List.{append-nil}
use Rattle.std.specs.Option.{option_and_then}
use Rattle.std.specs.Str.{IsUtf8, is_utf8}
use Rattle.std.proofs.lemmas.Str.{IsUtf8-from_is_utf8, is_utf8-from_IsUtf8}
use Rattle.bloom_parse.specs.declared.lexing.terminal.Terminal.TheVariants as terminals
use Rattle.bloom_parse.specs.Tokens.{Front, literal, bytes_front, with_bytes, closing_front, byte_front, starts_with_quote}

abbrev quoted : Bool → List ℕ → Option (List ℕ × List ℕ)
quoted b rest = cond b (Some ([], rest)) None

closed : (b : Bool) (rest : List ℕ) (x : List ℕ × List ℕ) (other : Option (List ℕ × List ℕ)) → quoted b rest ≡ Some x → cond b (quoted b rest) other ≡ Some x
closed true rest x other h = h
closed false rest x other h = cc

-- where the closing quote stands, the bytes end
pub bytes_closed : (room : ℕ) (text : List ℕ) (x : List ℕ × List ℕ) → closing_front text ≡ Some x → bytes_front room text ≡ Some x
unfolding bytes_front
bytes_closed zero text x h = h
bytes_closed (suc room) text x h = closed (starts_with_quote text) (drop 1 text) x _ h

opened : (b : Bool) (rest : List ℕ) (other : Option (List ℕ × List ℕ)) → quoted b rest ≡ None → cond b (quoted b rest) other ≡ other
opened true rest other h = cc
opened false rest other h = refl

-- else one more byte is read
pub bytes_more : (room : ℕ) (text : List ℕ) → closing_front text ≡ None → bytes_front (suc room) text ≡ option_and_then (λ x. with_bytes (x.0 ∷ []) (bytes_front room x.1)) (byte_front text)
unfolding bytes_front
bytes_more room text h = opened (starts_with_quote text) (drop 1 text) _ h

-- where there is no room for more, the closing quote has to stand
pub bytes_full : (text : List ℕ) → bytes_front 0 text ≡ closing_front text
unfolding bytes_front
bytes_full text = refl

pub with_bytes_twice : (a b : List ℕ) (found : Option (List ℕ × List ℕ)) → with_bytes a (with_bytes b found) ≡ with_bytes (a ++ b) found
with_bytes_twice a b None = refl
with_bytes_twice a b (Some x) = ap (λ bytes. Some (bytes, x.1)) (sym (append_assoc a b x.0))

-- a turn of the loop: the next byte goes behind those so far
pub bytes_turn : (n : ℕ) (bytes text after : List ℕ) (b : ℕ) (whole : Option (List ℕ × List ℕ)) → n < 64 → closing_front text ≡ None → byte_front text ≡ Some (b, after) → with_bytes bytes (bytes_front (64 - n) text) ≡ whole → with_bytes (bytes ++ b ∷ []) (bytes_front (64 - (n + 1)) after) ≡ whole
bytes_turn n bytes text after b whole few unclosed next h =
    let left : 64 - n ≡ suc (64 - (n + 1)) = omega arith in
    let turned : bytes_front (64 - n) text ≡ with_bytes (b ∷ []) (bytes_front (64 - (n + 1)) after) =
    ap (λ room. bytes_front room text) left ∙ bytes_more (64 - (n + 1)) text unclosed ∙ ap (option_and_then (λ (x : ℕ × List ℕ). with_bytes (x.0 ∷ []) (bytes_front (64 - (n + 1)) x.1))) next in
    sym (with_bytes_twice bytes (b ∷ []) (bytes_front (64 - (n + 1)) after)) ∙ ap (with_bytes bytes) (sym turned) ∙ h

-- a byte that can't stand in a text ends it
pub bytes_bad : (n : ℕ) (bytes text : List ℕ) (whole : Option (List ℕ × List ℕ)) → n < 64 → closing_front text ≡ None → byte_front text ≡ None → with_bytes bytes (bytes_front (64 - n) text) ≡ whole → None ≡ whole
bytes_bad n bytes text whole few unclosed next h =
    let left : 64 - n ≡ suc (64 - (n + 1)) = omega arith in
    let turned : bytes_front (64 - n) text ≡ None =
    ap (λ room. bytes_front room text) left ∙ bytes_more (64 - (n + 1)) text unclosed ∙ ap (option_and_then (λ (x : ℕ × List ℕ). with_bytes (x.0 ∷ []) (bytes_front (64 - (n + 1)) x.1))) next in
    sym (sym h ∙ ap (with_bytes bytes) turned)

-- the closing quote ends it
pub bytes_done : (room : ℕ) (bytes text after : List ℕ) (whole : Option (List ℕ × List ℕ)) → closing_front text ≡ Some ([], after) → with_bytes bytes (bytes_front room text) ≡ whole → Some (bytes, after) ≡ whole
bytes_done room bytes text after whole e h = sym (sym h ∙ ap (with_bytes bytes) (bytes_closed room text ([], after) e) ∙ ap (λ b. Some (b, after)) (append-nil bytes))

-- behind the last byte there is room for, nothing but the closing quote may stand
pub bytes_over : (n : ℕ) (bytes text : List ℕ) (whole : Option (List ℕ × List ℕ)) → 64 ≤ n → closing_front text ≡ None → with_bytes bytes (bytes_front (64 - n) text) ≡ whole → None ≡ whole
bytes_over n bytes text whole full e h =
    let none : 64 - n ≡ 0 = omega arith in
    sym (sym h ∙ ap (with_bytes bytes) (ap (λ room. bytes_front room text) none ∙ bytes_full text ∙ e))

abbrev tested : Bool → List ℕ → List ℕ → Front
tested b bs rest = cond b (Some (terminals.Text bs, rest)) None

not_utf8 : (bs : List ℕ) → ¬ IsUtf8 bs → (b : Bool) → is_utf8 bs ≡ b → b ≡ false
not_utf8 bs h true e = absurd (h (IsUtf8-from_is_utf8 bs e))
not_utf8 bs h false e = refl

-- bytes in UTF-8 are a text
pub literal_read : (bs rest t : List ℕ) → IsUtf8 bs → t ≡ bs → Some (terminals.Text t, rest) ≡ literal bs rest
literal_read bs rest t u same = ap (λ x. Some (terminals.Text x, rest)) same ∙ sym (ap (λ b. tested b bs rest) (is_utf8-from_IsUtf8 bs u))

-- and others are none
pub literal_bad : (bs rest : List ℕ) → ¬ IsUtf8 bs → None ≡ literal bs rest
literal_bad bs rest u = sym (ap (λ b. tested b bs rest) (not_utf8 bs u (is_utf8 bs) refl))
