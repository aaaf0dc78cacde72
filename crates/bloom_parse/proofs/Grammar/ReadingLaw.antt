-- A text is read as what the grammar says of it: its module, or the place of its first fault.
use Rattle.std.proofs.Common.{◌≡◌, ℕ, zero, suc, ◌+◌, ◌<◌, ◌≤◌, false, List, [], ◌∷◌, ◌++◌, length, length-append, Some, None, Result, Ok, Err, inl, inr, refl, sym, ap, subst, ◌∙◌, append_assoc, arith}
use Rattle.std.proofs.lemmas.Bool.{cases_lt}
use Rattle.std.proofs.lemmas.List.{append-nil}
use Rattle.bloom_forms.specs.Form.{Form}
use Rattle.bloom_parse.specs.declared.lexing.terminal.Terminal.{Terminal}
use Rattle.bloom_parse.specs.declared.lexing.token.Token.{Token}
use Rattle.bloom_parse.specs.declared.refusal.TextFault.{TextFault}
use Rattle.bloom_parse.specs.Code.ReadingModules.{module_at}
use Rattle.bloom_parse.specs.Laws.{ReadsTexts, ReadsFaults}
use Rattle.bloom_parse.specs.Parsing.{IsTextOf, IsFirstFault}
use Rattle.bloom_parse.specs.Places.{IsModuleText, Begins, NoneGoesOn, IsFault}
use Rattle.bloom_parse.specs.Reading.{Lexed, lexed_found, lexed_left, lexed_of, at_place, reading_of}
use Rattle.bloom_parse.specs.Tokens.{Front, front, behind_blanks, Lexes, HasTokens, place_of, start_of}
use Rattle.bloom_parse.proofs.Grammar.ModuleComplete.{text_again}
use Rattle.bloom_parse.proofs.Grammar.ParsingLemmas.{text_is}
use Rattle.bloom_parse.proofs.Machine.PlacesCorrect.{read_is_text, fault_is_first}
use Rattle.bloom_parse.proofs.Texts.ShorterLemmas.{blanks_no_longer, lex_shorter}
use Rattle.bloom_parse.proofs.Texts.TokensLemmas.{one_list}

-- ---- the tokens of a text

none_at_end : front [] ≡ None
unfolding front
none_at_end = refl

abbrev HasLexed : ℕ → List ℕ → Lexed → Type 0
HasLexed size left l = Lexes size left l.tokens l.terminals l.rest

found_has : (size turns : ℕ) (left : List ℕ) (o : Front) → front left ≡ o → ((after : List ℕ) → length after < length left → HasLexed size after (lexed_left size turns after)) → HasLexed size left (lexed_found size left (lexed_left size turns) o)
found_has size turns left None e later = (refl, e, refl)
found_has size turns left (Some f) e later = (f.1, e, refl, later (behind_blanks false f.1) (lex_shorter left f.1 f.0 e))

left_has : (turns size : ℕ) (left : List ℕ) → length left ≤ turns → HasLexed size left (lexed_left size turns left)
left_has zero size [] few = (refl, none_at_end, refl)
left_has zero size (b ∷ left) few = absurd (omega (arith, few))
left_has (suc turns) size left few = found_has size turns left (front left) refl (λ after less. left_has turns size after (omega (arith, less, few)))

pub text_has : (text : List ℕ) → HasTokens text (lexed_of text).tokens (lexed_of text).terminals (lexed_of text).rest
unfolding lexed_of
text_has text = left_has (length text) (length text) (behind_blanks false text) (blanks_no_longer false text)

-- ---- one first fault

-- of two ways to cut a list, the one with more behind the cut goes on into the other's front
record IsLater (a b c d : List Terminal) : Type 0 where
  next : Terminal
  between : List Terminal
  behind : b ≡ next ∷ (between ++ d)
  front : c ≡ a ++ next ∷ between

cut_later : (a b c d : List Terminal) → a ++ b ≡ c ++ d → length d < length b → IsLater a b c d
cut_later [] [] c d e less = absurd (omega (arith, less))
cut_later [] (t ∷ b) [] d e less = absurd (omega (arith, less, ap (λ (xs : List Terminal). length xs) e))
cut_later [] (t ∷ b) (u ∷ c) d e less =
    let same : t ≡ u = cc in
    let tails : b ≡ c ++ d = cc in
    record { next = t; between = c; behind = ap (λ (xs : List Terminal). t ∷ xs) tails; front = ap (λ (x : Terminal). x ∷ c) (sym same) }
cut_later (y ∷ a) b [] d e less = absurd (omega (arith, less, ap (λ (xs : List Terminal). length xs) e, length-append a b))
cut_later (y ∷ a) b (u ∷ c) d e less =
    let same : y ≡ u = cc in
    let tails : a ++ b ≡ c ++ d = cc in
    let r = cut_later a b c d tails less in
    record { next = r.next; between = r.between; behind = r.behind; front = ap (λ (xs : List Terminal). u ∷ xs) r.front ∙ ap (λ (x : Terminal). x ∷ (a ++ r.next ∷ r.between)) (sym same) }

-- no fault comes before another
none_earlier : (ts : List Terminal) (m n : ℕ) → IsFault ts m → IsFault ts n → n < m → ⊥
none_earlier ts m n f g less =
    let cut = cut_later f.front f.behind g.front g.behind (f.parts ∙ sym g.parts) (omega (arith, f.many, g.many, less)) in
    let bad : Begins (f.front ++ cut.next ∷ []) → ⊥ = subst (λ (b : List Terminal). NoneGoesOn f.front b) cut.behind f.bad in
    let more = g.good.0 in
    let same : g.front ++ more ≡ (f.front ++ cut.next ∷ []) ++ (cut.between ++ more) =
    ap (λ (xs : List Terminal). xs ++ more) cut.front ∙ append_assoc f.front (cut.next ∷ cut.between) more ∙ sym (append_assoc f.front (cut.next ∷ []) (cut.between ++ more)) in
    bad (cut.between ++ more, g.good.1, subst (λ (xs : List Terminal). IsModuleText xs g.good.1) same g.good.2)

one_fault : (ts : List Terminal) (m n : ℕ) → IsFault ts m → IsFault ts n → m ≡ n
one_fault ts m n f g = elim (cases_lt n m) [
  | inl less ↦ absurd (none_earlier ts m n f g less)
  | inr later ↦ elim (cases_lt m n) [
    | inl less ↦ absurd (none_earlier ts n m g f less)
    | inr other ↦ omega (arith, later, other)
  ]
]

no_text : (front behind : List Terminal) (m : Form) → NoneGoesOn front behind → IsModuleText (front ++ behind) m → ⊥
no_text front [] m none is = none m (subst (λ (xs : List Terminal). IsModuleText xs m) (append-nil front) is)
no_text front (t ∷ behind) m none is = none (behind, m, subst (λ (xs : List Terminal). IsModuleText xs m) (sym (append_assoc front (t ∷ []) behind)) is)

abbrev failed : ℕ → Result Form ℕ
failed left = Err left

-- the reader finds the first fault
fault_again : (ts : List Terminal) (left : ℕ) → IsFault ts left → module_at ts ≡ Err left
fault_again ts left f = go (module_at ts) refl
  where
    go : (r : Result Form ℕ) → module_at ts ≡ r → module_at ts ≡ Err left
    go (Ok m) e = absurd (no_text f.front f.behind m f.bad (subst (λ (xs : List Terminal). IsModuleText xs m) (sym f.parts) (read_is_text ts m e)))
    go (Err n) e = e ∙ ap failed (one_fault ts n left (fault_is_first ts n e) f)

-- ---- readings

ok_of : (text : List ℕ) (l : Lexed) (r : Result Form ℕ) (m : Form) → at_place text l r ≡ Ok m → r ≡ Ok m
ok_of text l (Ok n) m e = let same : n ≡ m = cc in ap (λ (x : Form). Ok x) same
ok_of text l (Err left) m e = cc

abbrev place : List ℕ → Lexed → ℕ → TextFault
place text l left = place_of text (start_of (length text) l.tokens l.rest left)

err_of : (text : List ℕ) (l : Lexed) (r : Result Form ℕ) (fault : TextFault) → at_place text l r ≡ Err fault → (left : ℕ) × (r ≡ Err left) × (fault ≡ place text l left)
err_of text l (Ok n) fault e = cc
err_of text l (Err left) fault e = let same : place text l left ≡ fault = cc in (left, refl, sym same)

text_of_reading : (text : List ℕ) (m : Form) → reading_of text ≡ Ok m → IsTextOf text m
unfolding reading_of
text_of_reading text m e =
    let l = lexed_of text in
    (l.terminals, (l.tokens, l.rest, text_has text), read_is_text l.terminals m (ok_of text l (module_at l.terminals) m e))

reading_of_text : (text : List ℕ) (m : Form) → IsTextOf text m → reading_of text ≡ Ok m
unfolding reading_of
reading_of_text text m is =
    let l = lexed_of text in
    ap (at_place text l) (text_again l.terminals m (text_is text l.tokens l.terminals l.rest m (text_has text) is))

pub reads_texts : ReadsTexts
reads_texts text m = (text_of_reading text m, reading_of_text text m)

fault_of_reading : (text : List ℕ) (fault : TextFault) → reading_of text ≡ Err fault → IsFirstFault text fault
unfolding reading_of
fault_of_reading text fault e =
    let l = lexed_of text in
    let at = err_of text l (module_at l.terminals) fault e in
    (l.tokens, l.terminals, l.rest, at.0, text_has text, fault_is_first l.terminals at.0 at.1, at.2)

abbrev refused : TextFault → Result Form TextFault
refused fault = Err fault

reading_of_fault : (text : List ℕ) (fault : TextFault) → IsFirstFault text fault → reading_of text ≡ Err fault
unfolding reading_of
reading_of_fault text fault is =
    let l = lexed_of text in
    let left = is.3 in
    let one = one_list _ _ is.0 l.tokens is.1 l.terminals is.2 l.rest is.4 (text_has text) in
    let first : IsFault l.terminals left = subst (λ (ts : List Terminal). IsFault ts left) one.1 is.5 in
    let here : fault ≡ place text l left = is.6
    ∙ ap (λ (tokens : List Token). place_of text (start_of (length text) tokens is.2 left)) one.0
    ∙ ap (λ (rest : List ℕ). place_of text (start_of (length text) l.tokens rest left)) one.2 in
    ap (at_place text l) (fault_again l.terminals left first) ∙ ap refused (sym here)

pub reads_faults : ReadsFaults
reads_faults text fault = (fault_of_reading text fault, reading_of_fault text fault)
