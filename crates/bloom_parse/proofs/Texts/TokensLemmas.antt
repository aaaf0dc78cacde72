-- Tokens, one after another.
use Rattle.std.proofs.Common.{◌≡◌, ℕ, List, [], ◌∷◌, ◌++◌, Some, None, length, refl, ap, ◌∙◌, sym, subst, false}
use Rattle.std.proofs.lemmas.List.{append-nil}
use Rattle.bloom_parse.specs.declared.lexing.terminal.Terminal.{Terminal}
use Rattle.bloom_parse.specs.declared.lexing.token.Token.{Token}
use Rattle.bloom_parse.specs.Tokens.{front, behind_blanks, token_at, last_of, Lexes, HasTokens}

-- with the tokens of what is left, those so far are the tokens of the text
abbrev pub GoesOn : List ℕ → List ℕ → List Token → List Terminal → Type 0
GoesOn text left sofar known = (tokens : List Token) (ts : List Terminal) (rest : List ℕ) → Lexes (length text) left tokens ts rest → HasTokens text (sofar ++ tokens) (known ++ ts) rest

pub lex_done : (text left : List ℕ) (sofar : List Token) (known : List Terminal) → front left ≡ None → GoesOn text left sofar known → HasTokens text sofar (known ++ last_of left ∷ []) left
lex_done text left sofar known e h =
    subst (λ (xs : List Token). HasTokens text xs (known ++ last_of left ∷ []) left) (append-nil sofar)
    (h [] (last_of left ∷ []) left (refl, e, refl))

-- what is found at the front is one
one_found : (left a b : List ℕ) (t u : Terminal) → front left ≡ Some (t, a) → front left ≡ Some (u, b) → (t ≡ u) × (a ≡ b)
one_found left a b t u e f = let same : (t, a) ≡ (u, b) = cc in (ap (λ (x : Terminal × List ℕ). x.0) same, ap (λ (x : Terminal × List ℕ). x.1) same)

-- what is left of a text has one list of tokens and terminals
pub one_list : (size : ℕ) (left : List ℕ) (ks ls : List Token) (ts us : List Terminal) (rest more : List ℕ) → Lexes size left ks ts rest → Lexes size left ls us more → (ks ≡ ls) × (ts ≡ us) × (rest ≡ more)
one_list size left [] [] ts us rest more a b = let same : rest ≡ more = sym a.0 ∙ b.0 in (refl, a.2 ∙ ap (λ (xs : List ℕ). last_of xs ∷ []) same ∙ sym b.2, same)
one_list size left [] (l ∷ ls) ts [] rest more a b = absurd b
one_list size left [] (l ∷ ls) ts (u ∷ us) rest more a b = let e = ap front a.0 ∙ a.1 in let f = b.1 in cc
one_list size left (k ∷ ks) [] [] us rest more a b = absurd a
one_list size left (k ∷ ks) [] (t ∷ ts) us rest more a b = let e = ap front b.0 ∙ b.1 in let f = a.1 in cc
one_list size left (k ∷ ks) (l ∷ ls) [] us rest more a b = absurd a
one_list size left (k ∷ ks) (l ∷ ls) (t ∷ ts) [] rest more a b = absurd b
one_list size left (k ∷ ks) (l ∷ ls) (t ∷ ts) (u ∷ us) rest more a b =
    let same = one_found left a.0 b.0 t u a.1 b.1 in
    let again = subst (λ (xs : List ℕ). Lexes size (behind_blanks false xs) ls us more) (sym same.1) b.3 in
    let others = one_list size (behind_blanks false a.0) ks ls ts us rest more a.3 again in
    let token : k ≡ l = a.2 ∙ ap (λ (x : Terminal). token_at size (length left) (length a.0) x) same.0 ∙ ap (λ (xs : List ℕ). token_at size (length left) (length xs) u) same.1 ∙ sym b.2 in
    (ap (λ (x : Token). x ∷ ks) token ∙ ap (λ (xs : List Token). l ∷ xs) others.0, ap (λ (x : Terminal). x ∷ ts) same.0 ∙ ap (λ (xs : List Terminal). u ∷ xs) others.1, others.2)
