-- The first line of a text.
use Rattle.std.proofs.Common.{◌≡◌, ◌≢◌, ℕ, Bool, true, false, Option, None, Some, List, [], ◌∷◌, ◌++◌, length, take, drop, refl, ap, ◌∙◌, sym, arith}
use Rattle.std.specs.Prelude.{not, slice_index}
use Rattle.std.specs.List.{slice_split, prefix_len}
use Rattle.std.proofs.lemmas.List.Sums.{prefix_len_is}
use Rattle.memchr.specs.Find.{IsFirstByte, is_byte}
use Rattle.std.proofs.lemmas.List.{take-append-drop}
use Rattle.sched_text.specs.Lines.{Line, is_line_feed, lines_of, without_empty_last}
use Rattle.sched_text.proofs.SplitLemmas.{front_size, parts_behind, slice_split-front}

pub two_parts : (line : Line) (parts : List Line) (text : List ℕ) → slice_split is_line_feed text ≡ parts → without_empty_last (line ∷ parts) ≡ line ∷ without_empty_last parts
two_parts line [] text e = (let some : [] ≡ take (front_size is_line_feed text) text ∷ parts_behind is_line_feed (drop (front_size is_line_feed text) text) = sym e ∙ slice_split-front is_line_feed text in cc)
two_parts line (next ∷ parts) text e = refl

last_part : (line : Line) → line ≢ [] → without_empty_last (line ∷ []) ≡ line ∷ []
last_part [] some = absurd (some refl)
last_part (byte ∷ line) some = refl

by_rest : (line rest : List ℕ) → line ++ rest ≢ [] → without_empty_last (line ∷ parts_behind is_line_feed rest) ≡ line ∷ lines_of (drop 1 rest)
by_rest line [] some = last_part line (λ e. some (ap (λ (x : List ℕ). x ++ []) e))
by_rest line (byte ∷ rest) some = two_parts line (slice_split is_line_feed rest) rest refl

-- a text that isn't empty has a first line, and the lines behind it
pub lines_of-front : (text : List ℕ) → text ≢ [] → lines_of text ≡ take (front_size is_line_feed text) text ∷ lines_of (drop 1 (drop (front_size is_line_feed text) text))
lines_of-front text some =
    let size = front_size is_line_feed text in
    ap without_empty_last (slice_split-front is_line_feed text) ∙ by_rest (take size text) (drop size text) (λ e. some (sym (take-append-drop size text) ∙ e))

-- the same, where the first line and what is behind it have names
pub taken_line : (text line behind : List ℕ) (size : ℕ) → text ≢ [] → size ≡ front_size is_line_feed text → line ≡ take size text → behind ≡ drop size text → lines_of text ≡ line ∷ lines_of (drop 1 behind)
taken_line text line behind size some count front back = lines_of-front text some ∙ rw (front, back, count) refl

-- the search for an LF

flips : (b : Bool) → ¬ (b ≡ true) → not b ≡ true
flips true fails = absurd (fails refl)
flips false fails = refl

-- what stands before the first LF, or the whole text
abbrev pub before_feed : Option ℕ → List ℕ → ℕ
before_feed None text = length text
before_feed (Some place) text = place

pub before_first_feed : (text : List ℕ) (found : Option ℕ) → IsFirstByte (is_byte 10) text found → before_feed found text ≡ prefix_len (λ byte. not (is_line_feed byte)) text
before_first_feed text None nowhere =
    sym (prefix_len_is (λ byte. not (is_line_feed byte)) text (length text) 0 (omega arith) (λ place within. flips (is_byte 10 (slice_index text place)) (nowhere place (omega arith) within)) (λ within. absurd (omega arith)))
before_first_feed text (Some place) first =
    sym (prefix_len_is (λ byte. not (is_line_feed byte)) text place 0 (omega (arith, first.0.high)) (λ other before. flips (is_byte 10 (slice_index text other)) (first.0.before other (omega arith) before)) (λ within. ap not first.1))
