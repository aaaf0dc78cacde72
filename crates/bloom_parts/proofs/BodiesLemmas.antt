-- The rows of the bodies of rules in a bag: what goes of them is taken out, and what comes is put in.
use Rattle.std.proofs.Common.{◌≡◌, ◌∙◌, ℕ, ◌<◌, ◌≤◌, ◌+◌, ◌*◌, Bool, true, false, not, IsTrue, List, [], ◌∷◌, ◌++◌, length, take, drop, filter, get_or, length-append, take-append-drop, Ok, Err, refl, ap, sym, subst, inl, inr, arith}
use Rattle.std.proofs.lemmas.Grind.{flat_map-append}
use Rattle.std.proofs.lemmas.List.{append-nil, take_more}
use Rattle.std.proofs.lemmas.Bool.{true≢false}
use Rattle.std.proofs.lemmas.Slice.Zip.{AllZip-long}
use Rattle.std.specs.List.{AllZip, flat_map}
use Rattle.std.specs.Ordering.{eq_by_cmp}
use Rattle.blz_value.specs.Members.{Has, IsWithin}
use Rattle.blz_value.specs.Record.{Row, record_cmp}
use Rattle.blz_value.specs.Sets.{set_of, IsRowSet}
use Rattle.blz_value.proofs.Booleans.{same_truth}
use Rattle.blz_value.proofs.Lists.{map_itself, filter_same, rest_is}
use Rattle.blz_value.proofs.Membership.{Has-append_left, Has-append_right, Has-append_cases}
use Rattle.blz_value.proofs.OperatorsLemmas.{length-within}
use Rattle.blz_value.proofs.RowSets.{same_set_of, set_of-sorted, set_of-append_set}
use Rattle.blz_value.proofs.SetLaws.{sorted_set_of, Has-set_of, Has-from_set_of}
use Rattle.blz_set.specs.Answers.{Becomes}
use Rattle.blz_set.specs.Missing.{has_row, missing_from}
use Rattle.blz_set.specs.RecordSet.{row_limit}
use Rattle.blz_set.specs.declared.fault.SetFault.{SetFault}
use Rattle.blz_set.specs.declared.fault.SetFault.TheVariants.{TooManyRows, NoMemory}
use Rattle.blz_set.proofs.RecordSets.{Has-from_has_row, has_row-from_Has, length-filter-le}
use Rattle.blz_set.proofs.Unions.{length_union}
use Rattle.bloom_growth.specs.declared.bag.Bag.{Bag}
use Rattle.bloom_growth.specs.declared.turn.Turn.{Turn}
use Rattle.bloom_growth.specs.Bags.{IsBag, BecomesBag}
use Rattle.bloom_growth.specs.Counts.{most_given}
use Rattle.bloom_growth.specs.Growth.{Extends}
use Rattle.bloom_growth.specs.Turned.{Turned, TurnsInto}
use Rattle.bloom_growth.proofs.BagRows.{GiveAlike, times-append, alike_rows, alike_bag}
use Rattle.bloom_growth.proofs.BagsLemmas.{extends_none}
use Rattle.bloom_growth.proofs.CountsLemmas.{count_union}
use Rattle.bloom_growth.proofs.Extending.{fresh_is_in}
use Rattle.bloom_growth.proofs.TurnedLemmas.{stays}
use Rattle.bloom_parts.specs.declared.change.Change.{Change}
use Rattle.bloom_parts.specs.Bodies.{BodyRows, BodyTurns, BodiesTurn, olds_of, news_of, AddsGiven}
use Rattle.bloom_parts.specs.Code.Passing.{gone_of, more_of}
use Rattle.bloom_parts.specs.Turns.{rows_in}
use Rattle.bloom_parts.proofs.Turning.{turned_of}

-- ---- lists one piece after the other

-- what is given more stands behind the others as well as before them
pub alike_next : (one before rows : List Row) → GiveAlike (one ++ (before ++ rows)) ((before ++ one) ++ rows)
alike_next one before rows q = omega (arith, times-append one (before ++ rows) q, times-append before rows q, times-append (before ++ one) rows q, times-append before one q)

-- rows that are too many on the way are so in the end
over_next : (one before rest rows : List Row) → row_limit < length (set_of (one ++ (before ++ rows))) → row_limit < length (set_of ((before ++ (one ++ rest)) ++ rows))
over_next one before rest rows over =
    let all = (before ++ (one ++ rest)) ++ rows in
    omega (
      arith,
      over,
      length-within (set_of (one ++ (before ++ rows))) (set_of all) (sorted_set_of (one ++ (before ++ rows))) (
          λ q h. Has-set_of q all (elim (Has-append_cases q one (before ++ rows) (Has-from_set_of q (one ++ (before ++ rows)) h)) [
            | inl o ↦ Has-append_left q (before ++ (one ++ rest)) rows (Has-append_right q before (one ++ rest) (Has-append_left q one rest o))
            | inr m ↦ elim (Has-append_cases q before rows m) [
              | inl b ↦ Has-append_left q (before ++ (one ++ rest)) rows (Has-append_left q before (one ++ rest) b)
              | inr r ↦ Has-append_right q (before ++ (one ++ rest)) rows r
            ]
          ])
          ),
    )

pub put_fault : (one before rest rows : List Row) (bag : Bag) (fault : SetFault) → BecomesBag {X = Unit {0}} (one ++ (before ++ rows)) bag (Err fault) → BecomesBag {X = Unit {0}} ((before ++ (one ++ rest)) ++ rows) bag (Err fault)
put_fault one before rest rows bag TooManyRows h = over_next one before rest rows h
put_fault one before rest rows bag NoMemory h = tt

-- fewer than all
pub few_next : (all one before rest rows : List Row) → all ≡ before ++ (one ++ rest) → length (all ++ rows) < most_given → length (one ++ (before ++ rows)) < most_given
few_next all one before rest rows split small =
    omega (
      arith,
      small,
      ap length split,
      length-append all rows,
      length-append before (one ++ rest),
      length-append one rest,
      length-append one (before ++ rows),
      length-append before rows,
    )

-- the pieces of a list from one of them on, up to it, and all
module _ {X : Type 0} (f : X → List Row) (items : List X) (i : ℕ) (x : X) (lt : i < length items) (is : x ≡ get_or items i x) where
  pub pieces_from : flat_map f (drop i items) ≡ f x ++ flat_map f (drop (i + 1) items)
  pieces_from = ap (flat_map f) (rest_is items i x lt is)

  pub pieces_to : flat_map f (take (i + 1) items) ≡ flat_map f (take i items) ++ f x
  pieces_to =
      ap (flat_map f) (take_more items i x lt ∙ ap (λ (y : X). take i items ++ y ∷ []) (sym is))
      ∙ flat_map-append f (take i items) (x ∷ [])
      ∙ ap (λ (l : List Row). flat_map f (take i items) ++ l) (append-nil (f x))

  pub pieces_all : flat_map f items ≡ flat_map f (take i items) ++ (f x ++ flat_map f (drop (i + 1) items))
  pieces_all = ap (flat_map f) (sym (take-append-drop i items)) ∙ flat_map-append f (take i items) (drop i items) ∙ ap (λ (l : List Row). flat_map f (take i items) ++ l) pieces_from

-- the same of rows
module _ (items : List Row) (i : ℕ) (row : Row) (lt : i < length items) (is : row ≡ get_or items i row) where
  pub rows_to : take (i + 1) items ≡ take i items ++ row ∷ []
  rows_to = take_more items i row lt ∙ ap (λ (r : Row). take i items ++ r ∷ []) (sym is)

  pub rows_all : items ≡ take i items ++ (row ∷ drop (i + 1) items)
  rows_all = sym (take-append-drop i items) ∙ ap (λ (l : List Row). take i items ++ l) (rest_is items i row lt is)

-- ---- bodies that turn

-- a set that grew gives its new rows and the old ones
alike_grown : (old new fresh : List Row) → Extends old new fresh → GiveAlike new (fresh ++ old)
alike_grown old new fresh e row =
    let test = λ (other : Row). eq_by_cmp record_cmp other row in
    let own = λ (l : List Row). ap (λ (z : List Row). length (filter test z)) (map_itself l) in
    let whole = ap (λ (l : List Row). length (filter test l)) e.all in
    let parts = count_union (λ (r : Row). r) test old fresh e.sorted e.fresh_sorted (λ q h f. e.apart q f h) in
    omega (arith, whole, parts, own (set_of (old ++ fresh)), own old, own fresh, times-append fresh old row)

-- what stays of some bodies
abbrev pub mids_of : List BodyRows → List Change → List Row
mids_of [] changes = []
mids_of (body ∷ bodies) [] = []
mids_of (body ∷ bodies) (change ∷ changes) = missing_from (rows_in change.gone) body.old ++ mids_of bodies changes

module _ (body : BodyRows) (change : Change) (t : BodyTurns body change) where
  body_turned : Turned body.old body.new (rows_in change.rows) (rows_in change.gone)
  body_turned = (turned_of body.old body.new change t.turned t.kept).0

  old_alike : GiveAlike body.old (rows_in change.gone ++ missing_from (rows_in change.gone) body.old)
  old_alike = alike_grown (missing_from (rows_in change.gone) body.old) body.old (rows_in change.gone) (stays body.old body.new (rows_in change.rows) (rows_in change.gone) body_turned).0

  new_alike : GiveAlike body.new (rows_in change.rows ++ missing_from (rows_in change.gone) body.old)
  new_alike = alike_grown (missing_from (rows_in change.gone) body.old) body.new (rows_in change.rows) (stays body.old body.new (rows_in change.rows) (rows_in change.gone) body_turned).1

  few_body : length (rows_in change.rows) + length (missing_from (rows_in change.gone) body.old) ≤ 524288
  few_body =
      let gone = rows_in change.gone in
      let grown = (stays body.old body.new (rows_in change.rows) gone body_turned).1 in
      omega (
        arith,
        t.turned.few,
        (turned_of body.old body.new change t.turned t.kept).1,
        length-within (rows_in change.rows) body.new grown.fresh_sorted (fresh_is_in (missing_from gone body.old) body.new (rows_in change.rows) grown),
        length-filter-le (λ (row : Row). not (has_row gone row)) body.old,
      )

-- what some bodies give before is what goes and what stays
olds_alike : (bodies : List BodyRows) (changes : List Change) → AllZip BodyTurns bodies changes → GiveAlike (olds_of bodies) (gone_of changes ++ mids_of bodies changes)
olds_alike [] [] z row = refl
olds_alike [] (change ∷ changes) z row = absurd z
olds_alike (body ∷ bodies) [] z row = absurd z
olds_alike (body ∷ bodies) (change ∷ changes) z row =
    let gone = rows_in change.gone in
    let mid = missing_from gone body.old in
    let mids = mids_of bodies changes in
    omega (
      arith,
      old_alike body change z.0 row,
      olds_alike bodies changes z.1 row,
      times-append body.old (olds_of bodies) row,
      times-append gone mid row,
      times-append (gone ++ gone_of changes) (mid ++ mids) row,
      times-append gone (gone_of changes) row,
      times-append mid mids row,
      times-append (gone_of changes) mids row,
    )

-- and after, what comes and what stays
news_alike : (bodies : List BodyRows) (changes : List Change) → AllZip BodyTurns bodies changes → GiveAlike (more_of changes ++ mids_of bodies changes) (news_of bodies)
news_alike [] [] z row = refl
news_alike [] (change ∷ changes) z row = absurd z
news_alike (body ∷ bodies) [] z row = absurd z
news_alike (body ∷ bodies) (change ∷ changes) z row =
    let more = rows_in change.rows in
    let mid = missing_from (rows_in change.gone) body.old in
    let mids = mids_of bodies changes in
    omega (
      arith,
      new_alike body change z.0 row,
      news_alike bodies changes z.1 row,
      times-append body.new (news_of bodies) row,
      times-append more mid row,
      times-append (more ++ more_of changes) (mid ++ mids) row,
      times-append more (more_of changes) row,
      times-append mid mids row,
      times-append (more_of changes) mids row,
    )

few_more : (bodies : List BodyRows) (changes : List Change) → AllZip BodyTurns bodies changes → length (more_of changes) + length (mids_of bodies changes) ≤ length changes * 524288
few_more [] [] z = omega arith
few_more [] (change ∷ changes) z = absurd z
few_more (body ∷ bodies) [] z = absurd z
few_more (body ∷ bodies) (change ∷ changes) z =
    let more = rows_in change.rows in
    let mid = missing_from (rows_in change.gone) body.old in
    omega (arith, few_body body change z.0, few_more bodies changes z.1, length-append more (more_of changes), length-append mid (mids_of bodies changes))

module _ (bodies : List BodyRows) (changes : List Change) (t : BodiesTurn bodies changes) where
  -- the bag as that of what goes and what stays
  pub bodies_start : (bag : Bag) → IsBag (olds_of bodies) bag → IsBag (gone_of changes ++ mids_of bodies changes) bag
  bodies_start bag is = alike_bag (olds_of bodies) (gone_of changes ++ mids_of bodies changes) bag (olds_alike bodies changes t.each) is

  pub start_rows : (left : List Row) → left ≡ [] → Extends (set_of (gone_of changes ++ mids_of bodies changes)) (set_of (olds_of bodies)) left
  start_rows left none =
      subst (λ (l : List Row). Extends l (set_of (olds_of bodies)) left) (alike_rows (olds_of bodies) (gone_of changes ++ mids_of bodies changes) (olds_alike bodies changes t.each))
      (extends_none (set_of (olds_of bodies)) left (sorted_set_of (olds_of bodies)) none)

  -- and of what comes and what stays
  pub bodies_end : GiveAlike (more_of changes ++ mids_of bodies changes) (news_of bodies)
  bodies_end = news_alike bodies changes t.each

  pub few_bodies : length (more_of changes ++ mids_of bodies changes) < most_given
  few_bodies = omega (arith, t.few, few_more bodies changes t.each, length-append (more_of changes) (mids_of bodies changes))

  pub bodies_fault : (after : Bag) (fault : SetFault) → BecomesBag {X = Unit {0}} (more_of changes ++ mids_of bodies changes) after (Err fault) → TurnsInto (set_of (olds_of bodies)) (set_of (news_of bodies)) (Err fault)
  bodies_fault after TooManyRows h = subst (λ (l : List Row). row_limit < length l) (alike_rows (more_of changes ++ mids_of bodies changes) (news_of bodies) bodies_end) h
  bodies_fault after NoMemory h = tt

  pub many_bodies : length bodies ≡ length changes
  many_bodies = sym (AllZip-long BodyTurns bodies changes t.each)

-- of one body what it does
pub one_turns : (bodies : List BodyRows) (changes : List Change) (change : Change) (turn : Turn) → BodiesTurn bodies changes → length changes ≡ 1 → change ≡ get_or changes 0 change → turn.more ≡ rows_in change.rows → turn.gone ≡ rows_in change.gone
    → TurnsInto (set_of (olds_of bodies)) (set_of (news_of bodies)) (Ok turn)
one_turns bodies changes change turn t one is more gone = go bodies changes t.each one is
  where
    go : (bs : List BodyRows) (cs : List Change) → AllZip BodyTurns bs cs → length cs ≡ 1 → change ≡ get_or cs 0 change → TurnsInto (set_of (olds_of bs)) (set_of (news_of bs)) (Ok turn)
    go [] [] z few e = absurd (omega (arith, few))
    go [] (c ∷ cs) z few e = absurd z
    go (b ∷ bs) [] z few e = absurd z
    go (b ∷ []) (c ∷ []) z few e =
        let turned = body_turned b c z.0 in
        let olds : b.old ≡ set_of (b.old ++ []) = sym (ap set_of (append-nil b.old) ∙ set_of-sorted b.old turned.old_sorted) in
        let news : b.new ≡ set_of (b.new ++ []) = sym (ap set_of (append-nil b.new) ∙ set_of-sorted b.new turned.new_sorted) in
        let comes : rows_in c.rows ≡ turn.more = sym (more ∙ ap (λ (x : Change). rows_in x.rows) e) in
        let goes : rows_in c.gone ≡ turn.gone = sym (gone ∙ ap (λ (x : Change). rows_in x.gone) e) in
        let own = subst (λ (l : List Row). Turned b.old b.new turn.more l) goes (subst (λ (l : List Row). Turned b.old b.new l (rows_in c.gone)) comes turned) in
        subst (λ (l : List Row). TurnsInto l (set_of (b.new ++ [])) (Ok turn)) olds (subst (λ (l : List Row). TurnsInto b.old l (Ok turn)) news (own, z.0.turned.few))
    go (b ∷ bs) (c ∷ d ∷ cs) z few e = absurd (omega (arith, few))
    go (b ∷ a ∷ bs) (c ∷ []) z few e = absurd z.1

-- there were few rows, where several bodies have a bag
pub few_olds : (bodies : List BodyRows) (changes : List Change) (bag : Bag) → BodiesTurn bodies changes → (¬ (length bodies ≡ 1) → IsBag (olds_of bodies) bag) → length (set_of (olds_of bodies)) ≤ row_limit
few_olds [] changes bag t several = omega arith
few_olds (body ∷ []) [] bag t several = absurd t.each
few_olds (body ∷ []) (change ∷ changes) bag t several =
    let turned = turned_of body.old body.new change t.each.0.turned t.each.0.kept in
    let own : set_of (body.old ++ []) ≡ body.old = ap set_of (append-nil body.old) ∙ set_of-sorted body.old turned.0.old_sorted in
    subst (λ (l : List Row). length l ≤ row_limit) (sym own) turned.1
few_olds (body ∷ other ∷ bodies) changes bag t several = (several (λ one. omega (arith, one))).few

-- ---- a set beside a bag

missing_set : (given set : List Row) → missing_from (set_of given) set ≡ missing_from given set
missing_set given set =
    filter_same (λ (row : Row). not (has_row (set_of given) row)) (λ (row : Row). not (has_row given row)) set (
    λ row h. ap not (same_truth (has_row (set_of given) row) (has_row given row)
    (λ e. has_row-from_Has given row (Has-from_set_of row given (Has-from_has_row (set_of given) row e)))
    (λ e. has_row-from_Has (set_of given) row (Has-set_of row given (Has-from_has_row given row e))))
    )

turned_about : (xs ys : List Row) → set_of (xs ++ ys) ≡ set_of (ys ++ xs)
turned_about xs ys = same_set_of (xs ++ ys) (ys ++ xs) (other xs ys, other ys xs)
  where
    other : (us vs : List Row) (q : Row) → Has q (us ++ vs) → Has q (vs ++ us)
    other us vs q h = elim (Has-append_cases q us vs h) [ inl u ↦ Has-append_right q vs us u | inr v ↦ Has-append_left q vs us v ]

-- a set with all given rows has these and its others
pub given_count : (set given : List Row) → IsRowSet set → length (set_of (set ++ given)) ≡ length (set_of given) + length (missing_from given set)
given_count set given sorted =
    ap length (turned_about set given ∙ sym (set_of-append_set given set))
    ∙ length_union (set_of given) set (sorted_set_of given) sorted
    ∙ ap (λ (l : List Row). length (set_of given) + length l) (missing_set given set)

no_memory : NoMemory ≡ TooManyRows → ⊥
no_memory e = cc

module _ (set given more : List Row) where
  given_fault : (whole : Bool) (fault : SetFault) → (fault ≡ TooManyRows → row_limit < length (set_of (set ++ given))) → AddsGiven whole set given more (Err fault)
  given_fault true TooManyRows over = over refl
  given_fault false TooManyRows over = over refl
  given_fault true NoMemory over = tt
  given_fault false NoMemory over = tt

  pub given_all : (whole : Bool) (new : List Row) → IsTrue whole → new ≡ set_of (set ++ given) → length new ≤ row_limit → AddsGiven whole set given more (Ok new)
  given_all true new is all few = (all, few)
  given_all false new is all few = absurd (true≢false (sym is))

  pub given_some : (whole : Bool) (new : List Row) → whole ≡ false → new ≡ set_of (set ++ more) → length (set_of (set ++ given)) ≤ row_limit → AddsGiven whole set given more (Ok new)
  given_some true new is some few = absurd (true≢false is)
  given_some false new is some few = (some, few)

  pub all_given : set_of (set ++ set_of given) ≡ set_of (set ++ given)
  all_given = turned_about set (set_of given) ∙ set_of-append_set given set ∙ turned_about given set

  -- rows among the given ones make no more of it than all do
  few_some : IsWithin more (set_of given) → length (set_of (set ++ more)) ≤ length (set_of (set ++ given))
  few_some within = length-within (set_of (set ++ more)) (set_of (set ++ given)) (sorted_set_of (set ++ more)) (
      λ q h. Has-set_of q (set ++ given) (elim (Has-append_cases q set more (Has-from_set_of q (set ++ more) h)) [
        | inl s ↦ Has-append_left q set given s
        | inr m ↦ Has-append_right q set given (Has-from_set_of q given (within q m))
      ])
      )

  pub whole_fault : (whole : Bool) (fault : SetFault) (new all : List Row) → all ≡ set_of given → Becomes {X = Unit {0}} set (set_of (set ++ all)) new (Err fault) → AddsGiven whole set given more (Err fault)
  whole_fault whole TooManyRows new all is h = given_fault whole TooManyRows (λ e. subst (λ (l : List Row). row_limit < length l) (ap (λ (l : List Row). set_of (set ++ l)) is ∙ all_given) h.1)
  whole_fault whole NoMemory new all is h = given_fault whole NoMemory (λ e. absurd (no_memory e))

  pub some_fault : (whole : Bool) (fault : SetFault) (new : List Row) → IsWithin more (set_of given) → Becomes {X = Unit {0}} set (set_of (set ++ more)) new (Err fault) → AddsGiven whole set given more (Err fault)
  some_fault whole TooManyRows new within h = given_fault whole TooManyRows (λ e. omega (arith, h.1, few_some within))
  some_fault whole NoMemory new within h = given_fault whole NoMemory (λ e. absurd (no_memory e))
