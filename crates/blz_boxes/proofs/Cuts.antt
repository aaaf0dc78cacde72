-- The words of a text, cut at its first space, and the parts of a record.
use Rattle.std.proofs.Common.{◌≡◌, ◌<◌, ◌≤◌, ◌+◌, ℕ, Bool, true, false, cond, not, List, [], ◌∷◌, ◌++◌, length, get_or, map, filter, take, drop, Some, None, refl, ap, ◌∙◌, sym, inl, inr, append_assoc, arith, pos}
use Rattle.std.specs.Prelude.{◌==◌}
use Rattle.std.specs.List.{enumerate_from, remove, position_from, position_or_len, slice_split}
use Rattle.std.proofs.Math.Dec.{ltb}
use Rattle.std.proofs.lemmas.Bool.{cases_eq, ne_eqb, ltb-true, ltb-false}
use Rattle.std.proofs.lemmas.Simd.{map-map}
use Rattle.std.proofs.lemmas.List.{map-append, take_more, length-take, length-map}
use Rattle.std.proofs.lemmas.List.Sums.{passes_at_first, fails_before_first}
use Rattle.std.proofs.lemmas.List.Splits.{slice_split_none, slice_split_first}
use Rattle.std.proofs.lemmas.Iterator.Adapters.{position_from-zero}
use Rattle.std.specs.Str.{IsUtf8, IsCharBoundary}
use Rattle.std.proofs.lemmas.Str.{IsCharBoundary-before_ascii, IsCharBoundary-after_ascii}
use denote.Ref.{Bor}
use Rattle.blz_value.specs.Record.{Row}
use Rattle.blz_value.specs.Test.{cell}
use Rattle.blz_value.specs.declared.value.Value.TheVariants.{Int, Text}
use Rattle.bloom_forms.specs.StockSteps.{is_space, words, parts_of, split_row}
use Rattle.blz_boxes.specs.Code.Texts.{texts}
use Rattle.blz_value.proofs.Enumerated.{enumerate_from-push}

-- a space is an ASCII byte
is_space_ascii : (b : ℕ) → is_space b ≡ true → b < 128
is_space_ascii b h = elim (cases_eq b 32) [
  | inl e ↦ omega (arith, e)
  | inr n32 ↦ elim (cases_eq b 9) [
    | inl e ↦ omega (arith, e)
    | inr n9 ↦ elim (cases_eq b 10) [
      | inl e ↦ omega (arith, e)
      | inr n10 ↦ elim (cases_eq b 13) [
        | inl e ↦ omega (arith, e)
        | inr n13 ↦ let none = rw (ne_eqb b 32 n32, ne_eqb b 9 n9, ne_eqb b 10 n10, ne_eqb b 13 n13) at h in cc
      ]
    ]
  ]
]

-- the first place is within, and passes
pub found_first : (test : ℕ → Bool) (text : List ℕ) (end : ℕ) → position_from test 0 text ≡ Some end → (position_or_len test text ≡ end) × (end < length text)
found_first test text end found = by_case (ltb (position_or_len test text) (length text)) refl (position_from-zero test text ∙ found)
  where
    by_case : (b : Bool) → b ≡ ltb (position_or_len test text) (length text) → cond b (Some (position_or_len test text)) None ≡ Some end → (position_or_len test text ≡ end) × (end < length text)
    by_case true is e = let same : position_or_len test text ≡ end = cc in (same, rw same at (ltb-true (position_or_len test text) (length text) (sym is)))
    by_case false is e = absurd cc

-- where a first space is
pub space_at : (text : List ℕ) (end : ℕ) → position_from is_space 0 text ≡ Some end → (end < length text) × (get_or text end 0 < 128)
space_at text end found =
    let first = found_first is_space text end found in
    (first.1, is_space_ascii (get_or text end 0) (rw first.0 at (passes_at_first is_space text 0 (rw first.0 first.1))))

pub before_space : (text : List ℕ) (end : ℕ) → position_from is_space 0 text ≡ Some end → IsCharBoundary text end
before_space text end found = let at = space_at text end found in IsCharBoundary-before_ascii text end at.0 at.1

pub after_space : (text : List ℕ) (end : ℕ) → position_from is_space 0 text ≡ Some end → IsUtf8 text → IsCharBoundary text (end + 1)
after_space text end found valid = let at = space_at text end found in IsCharBoundary-after_ascii text end valid at.0 at.1

-- the words among some runs
abbrev pub words_among : List (List ℕ) → List (List ℕ)
words_among runs = filter (λ part. not (length part == 0)) runs

-- the words of a text with a space
words_cut : (text : List ℕ) (end : ℕ) → position_from is_space 0 text ≡ Some end → words text ≡ words_among (take end text ∷ []) ++ words (drop (end + 1) text)
words_cut text end found =
    let first = found_first is_space text end found in
    let cut : slice_split is_space text ≡ take end text ∷ slice_split is_space (drop (end + 1) text) = rw first.0 at (slice_split_first is_space text 0 (rw first.0 first.1)) in
    ap words_among cut ∙ apart (not (length (take end text) == 0)) (take end text) (words (drop (end + 1) text))
  where
    apart : (b : Bool) (run : List ℕ) (others : List (List ℕ)) → cond b (run ∷ others) others ≡ cond b (run ∷ []) [] ++ others
    apart true run others = refl
    apart false run others = refl

pub words_step : (old new : List (List ℕ)) (all rest run tail : List ℕ) (end : ℕ) → position_from is_space 0 rest ≡ Some end → run ≡ take end rest → tail ≡ drop (end + 1) rest → new ≡ old ++ words_among (run ∷ []) → old ++ words rest ≡ words all → new ++ words tail ≡ words all
words_step old new all rest run tail end found is_run is_tail is_new was =
    rw (is_new, is_tail, is_run) (append_assoc old (words_among (take end rest ∷ [])) (words (drop (end + 1) rest)) ∙ ap (λ ws. old ++ ws) (sym (words_cut rest end found)) ∙ was)

-- the words of a text without a space
pub words_end : (old new : List (List ℕ)) (all rest : List ℕ) → position_from is_space 0 rest ≡ None → new ≡ old ++ words_among (rest ∷ []) → old ++ words rest ≡ words all → new ≡ words all
words_end old new all rest none is_new was =
    rw is_new (ap (λ runs. old ++ words_among runs) (sym (slice_split_none is_space rest (λ k d lt. fails_before_first is_space rest k d (omega (arith, lt, past none))))) ∙ was)
  where
    past_case : (b : Bool) → b ≡ ltb (position_or_len is_space rest) (length rest) → cond b (Some (position_or_len is_space rest)) None ≡ None → length rest ≤ position_or_len is_space rest
    past_case true is e = absurd cc
    past_case false is e = ltb-false (position_or_len is_space rest) (length rest) (sym is)

    past : position_from is_space 0 rest ≡ None → length rest ≤ position_or_len is_space rest
    past none = past_case (ltb (position_or_len is_space rest) (length rest)) refl (position_from-zero is_space rest ∙ none)

-- the rows of a record with these words in the split column
abbrev pub word_rows : Row → ℕ → List (List ℕ) → List Row
word_rows row split found = map (λ word. remove row split ++ Int (pos word.0) ∷ Text word.1 ∷ []) (enumerate_from 1 found)

pub word_rows_more : (row : Row) (split : ℕ) (refs : List (Bor (List ℕ))) (i : ℕ) (d : Bor (List ℕ)) → i < length refs → word_rows row split (texts (take (i + 1) refs)) ≡ word_rows row split (texts (take i refs)) ++ (remove row split ++ Int (pos (i + 1)) ∷ Text (get_or refs i d).now ∷ []) ∷ []
word_rows_more row split refs i d lt =
    let row_of : ℕ × List ℕ → Row = λ w. remove row split ++ Int (pos w.0) ∷ Text w.1 ∷ [] in
    ap (λ taken. word_rows row split (texts taken)) (take_more refs i d lt)
    ∙ ap (word_rows row split) (map-append (λ r. r.now) (take i refs) (get_or refs i d ∷ []))
    ∙ ap (map row_of) (enumerate_from-push 1 (texts (take i refs)) (get_or refs i d).now)
    ∙ map-append row_of (enumerate_from 1 (texts (take i refs))) ((1 + length (texts (take i refs)), (get_or refs i d).now) ∷ [])
    ∙ ap (λ n. word_rows row split (texts (take i refs)) ++ row_of (n, (get_or refs i d).now) ∷ []) (omega (arith, length-map (take i refs) (λ r. r.now), length-take i refs, lt))

-- what Split makes of a record with a text in the split column
pub split_text : (row : Row) (split : ℕ) (text : List ℕ) → cell row split ≡ Text text → split_row split row ≡ word_rows row split (words text)
split_text row split text is =
    ap (λ value. map (λ part. remove row split ++ Int (pos part.0) ∷ part.1 ∷ []) (parts_of value)) is
    ∙ map-map (λ part. remove row split ++ Int (pos part.0) ∷ part.1 ∷ []) (λ word. (word.0, Text word.1)) (enumerate_from 1 (words text))
