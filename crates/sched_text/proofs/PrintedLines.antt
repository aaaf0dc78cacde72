-- What is printed is read again as the same events, on lines that are numbered from 1.
use Rattle.std.proofs.Common.{◌≡◌, ℕ, ◌+◌, ◌<◌, ◌≤◌, Bool, true, false, ◌||◌, None, List, [], ◌∷◌, ◌++◌, length, map, take, get_or, refl, ap, ◌∙◌, sym, subst, arith, append_assoc, add-one, codes}
use Rattle.std.specs.Prelude.{nat_lt}
use Rattle.std.specs.Cmp.{first_so, second_so}
use Rattle.std.specs.List.{All, AllByRecursion, enumerate_from, flat_map, list_all}
use Rattle.std.proofs.lemmas.Bool.{le-ltb}
use Rattle.std.proofs.lemmas.Grind.{flat_map-append}
use Rattle.std.proofs.lemmas.List.{append-nil, take_all}
use Rattle.std.proofs.lemmas.List.Elements.{All-push}
use Rattle.std.proofs.Math.Seq.{take-suc}
use Rattle.std.proofs.lemmas.List.Splits.{slice_split_at}
use Rattle.blz_value.specs.FirstPlace.{first_place}
use Rattle.sched_text.specs.declared.event.Event.{Event}
use Rattle.sched_text.specs.declared.event.Event.TheVariants.{Deliver, Order, Take, Batch}
use Rattle.sched_text.specs.Lines.{Line, lines_of, without_empty_last, is_line_feed, without_return}
use Rattle.sched_text.specs.Fields.{fields_of}
use Rattle.sched_text.specs.Kinds.{event_of}
use Rattle.sched_text.specs.Reading.{LineReading, stands_for, is_bad, is_comment, reading_of_fields, event_reading, line_limit, entries_from, with_entry, ReadsAs}
use Rattle.sched_text.specs.Text.{event_text, schedule_text, is_printable, IsPrintable, numbered_again}
use Rattle.sched_text.specs.Small.{IsSmall}
use Rattle.sched_text.proofs.LinesLemmas.{two_parts}
use Rattle.sched_text.proofs.PlainFields.{fields_of-spaced, fields_inner, no_feeds, no_return, is_inner}
use Rattle.sched_text.proofs.PrintedEvents.{recursion_from_All, first_field, other_fields, event_spaced, first_plain, others_plain, event_read}

-- ---- a line

no_comment : (event : Event) → is_comment (first_field event) ≡ false
no_comment (Deliver sent component port replica) = refl
no_comment (Order sent component port) = refl
no_comment (Take component replica) = refl
no_comment (Batch component replica parts) = refl

module _ (event : Event) (names : is_printable event ≡ true) (small : IsSmall event) where
  inner : list_all is_inner (event_text event) ≡ true
  inner = ap (list_all is_inner) (event_spaced event) ∙ fields_inner (first_field event) (other_fields event) (first_plain event) (others_plain event names small)

  printed_fields : fields_of (without_return (event_text event)) ≡ first_field event ∷ other_fields event
  printed_fields = ap fields_of (no_return (event_text event) inner ∙ event_spaced event) ∙ fields_of-spaced (first_field event) (other_fields event) (first_plain event) (others_plain event names small)

  line_read : event_reading (event_text event) ≡ stands_for event
  line_read = ap (reading_of_fields event_of) printed_fields ∙ rw (no_comment event, event_read event names small) refl

  line_first : (rest : List ℕ) → lines_of (event_text event ++ codes "\n" ++ rest) ≡ event_text event ∷ lines_of rest
  line_first rest = ap lines_of (append_assoc (event_text event) (codes "\n") rest) ∙ ap without_empty_last (slice_split_at is_line_feed (event_text event) 10 rest (no_feeds (event_text event) inner) refl) ∙ two_parts (event_text event) _ rest refl

-- ---- all lines

abbrev texts : List (ℕ × Event) → List Line
texts lines = map (λ line. event_text line.1) lines

abbrev pub AreSmall : List (ℕ × Event) → Type 0
AreSmall lines = AllByRecursion (λ line. IsSmall line.1) lines

abbrev AreNamed : List (ℕ × Event) → Type 0
AreNamed lines = list_all (λ line. is_printable line.1) lines ≡ true

lines_printed : (lines : List (ℕ × Event)) → AreNamed lines → AreSmall lines → lines_of (schedule_text lines) ≡ texts lines
lines_printed [] names small = refl
lines_printed (line ∷ lines) names small =
    line_first line.1 (first_so (is_printable line.1) (list_all (λ l. is_printable l.1) lines) names) small.0 (schedule_text lines)
    ∙ ap (λ (others : List Line). event_text line.1 ∷ others) (lines_printed lines (second_so (is_printable line.1) (list_all (λ l. is_printable l.1) lines) names) small.1)

entries_printed : (n : ℕ) (lines : List (ℕ × Event)) → AreNamed lines → AreSmall lines → entries_from event_reading n (texts lines) ≡ enumerate_from n (map (λ line. line.1) lines)
entries_printed n [] names small = refl
entries_printed n (line ∷ lines) names small =
    let more = entries_printed (n + 1) lines (second_so (is_printable line.1) (list_all (λ l. is_printable l.1) lines) names) small.1 in
    ap (λ (r : LineReading Event). with_entry n r (entries_from event_reading (n + 1) (texts lines))) (line_read line.1 (first_so (is_printable line.1) (list_all (λ l. is_printable l.1) lines) names) small.0)
    ∙ ap (λ (others : List (ℕ × Event)). (n, line.1) ∷ others) more

abbrev is_fault : ℕ → Line → Bool
is_fault number line = nat_lt line_limit number || is_bad (event_reading line)

none_bad : (n : ℕ) (lines : List (ℕ × Event)) → AreNamed lines → AreSmall lines → n + length lines ≤ line_limit + 1 → first_place is_fault n (texts lines) ≡ None
none_bad n [] names small few = refl
none_bad n (line ∷ lines) names small few =
    let low : n ≤ line_limit = omega arith in
    let fine : is_bad (event_reading (event_text line.1)) ≡ false = ap is_bad (line_read line.1 (first_so (is_printable line.1) (list_all (λ l. is_printable l.1) lines) names) small.0) in
    rw (le-ltb line_limit n low, fine) (none_bad (n + 1) lines (second_so (is_printable line.1) (list_all (λ l. is_printable l.1) lines) names) small.1 (omega arith))

pub read_again : (lines : List (ℕ × Event)) → IsPrintable lines → AreSmall lines → ReadsAs event_reading (schedule_text lines) (numbered_again lines)
read_again lines h small =
    let printed = lines_printed lines h.events small in (
      ap (first_place is_fault 1) printed ∙ none_bad 1 lines h.events small (omega (arith, h.few)),
      sym (ap (entries_from event_reading 1) printed ∙ entries_printed 1 lines h.events small),
    )

-- ---- one more element of a list was printed

pub one_more_so : {X : Type 0} (P : X → Type 0) (xs : List X) (i : ℕ) (x : X) → i < length xs → x ≡ get_or xs i x → All P (take i xs) → P x → All P (take (i + 1) xs)
one_more_so {X} P xs i x lt is so own =
    let more : take (i + 1) xs ≡ take i xs ++ x ∷ [] = ap (λ (n : ℕ). take n xs) (add-one i) ∙ take-suc xs i x lt ∙ ap (λ (y : X). take i xs ++ y ∷ []) (sym is) in
    rw more (All-push P (take i xs) x so own)

pub one_more_text : {X Y : Type 0} (f : X → List Y) (xs : List X) (i : ℕ) (x : X) (before now after : List Y) → i < length xs → x ≡ get_or xs i x → now ≡ before ++ flat_map f (take i xs) → after ≡ now ++ f x → after ≡ before ++ flat_map f (take (i + 1) xs)
one_more_text {X} {Y} f xs i x before now after lt is so e =
    let more : take (i + 1) xs ≡ take i xs ++ x ∷ [] = ap (λ (n : ℕ). take n xs) (add-one i) ∙ take-suc xs i x lt ∙ ap (λ (y : X). take i xs ++ y ∷ []) (sym is) in
    let parts : flat_map f (take i xs) ++ f x ≡ flat_map f (take (i + 1) xs) = ap (λ (ys : List Y). flat_map f (take i xs) ++ ys) (sym (append-nil (f x))) ∙ sym (flat_map-append f (take i xs) (x ∷ [])) ∙ ap (flat_map f) (sym more) in
    e ∙ ap (λ (ys : List Y). ys ++ f x) so ∙ append_assoc before (flat_map f (take i xs)) (f x) ∙ ap (λ (ys : List Y). before ++ ys) parts

-- ---- all lines were printed

pub all_printed : (lines items : List (ℕ × Event)) (i : ℕ) (text : List ℕ) → items ≡ lines → length items ≤ i → text ≡ schedule_text (take i items) → All (λ line. IsSmall line.1) (take i items) → IsPrintable lines → ReadsAs event_reading text (numbered_again lines)
all_printed lines items i text same end so small printable =
    let all : take i items ≡ lines = take_all i items end ∙ same in
    let each : AreSmall lines = recursion_from_All (λ line. IsSmall line.1) lines (subst (All (λ line. IsSmall line.1)) all small) in
    subst (λ (t : List ℕ). ReadsAs event_reading t (numbered_again lines)) (sym (so ∙ ap schedule_text all)) (read_again lines printable each)
