-- Source by source the lists get what the sources emit, and there is room for all of it.
use Rattle.std.proofs.Common.{◌≡◌, ◌≢◌, ◌<◌, ◌≤◌, ◌+◌, ◌*◌, ◌++◌, ℕ, List, [], ◌∷◌, length, map, replicate, take, set, get_or, ap, ◌∙◌, sym, subst, inl, inr, arith, length-append}
use Rattle.std.specs.List.{sum_by}
use Rattle.std.proofs.Math.Seq.{get_or-append_seam}
use Rattle.std.proofs.lemmas.Bool.{cases_eq, cases_lt}
use Rattle.std.proofs.lemmas.List.{length-set, length-replicate, get_or-replicate, get_or_past, get_or-set_same, get_or-set_other, set-set}
use Rattle.std.proofs.lemmas.List.Folds.{sum_by-replicate}
use Rattle.std.proofs.lemmas.List.Sums.{sum_by-set, sum_by_more, sum_by_more_le}
use Rattle.blz_value.specs.Record.{Row}
use Rattle.topo_forms.specs.Data.{Data, IsData, SourceData, no_data, source_data}
use Rattle.topo_forms.specs.Messages.{Message, row, distinct_rows, emitted_of_source}
use Rattle.topo_forms.specs.Valid.{IsValid}
use Rattle.topo_forms.specs.View.{View, senders_of, source_count, stream_at, stream_replicas}
use Rattle.inbox.specs.Emission.{with_rows}
use Rattle.inbox.proofs.Lists.Growing.{continues_on}
use Rattle.topo_forms.specs.DataCounts.{count_of, AreFew}
use Rattle.topo_forms.proofs.KeyOfSource.{source_stream}
use Rattle.messages.specs.Lists.{message_limit}
use Rattle.messages.specs.Lists.{Listed, OneListBecomes, read_lists, list_at, total}
use Rattle.inbox.specs.Places.{list_place, list_count}
use Rattle.inbox.specs.Sources.{SourcesEmitted}
use Rattle.messages.proofs.ListsLemmas.{total-read, length-read_lists}
use Rattle.inbox.proofs.PlacesLemmas.{one_place, place-before}
use Rattle.inbox.proofs.SourceMessages.{all_rows, few_rows, few_messages}

-- ---- one list

module _ (old new : Listed) (place : ℕ) (list : List Message) (within : place < length old.lists) (becomes : OneListBecomes old new place list) where
  there : place < length (read_lists old)
  there = subst (λ n. place < n) (sym (length-read_lists old)) within

  -- the size of all, where it was empty
  pub grown : list_at (read_lists old) place ≡ [] → total new.lists ≡ total old.lists + length list
  grown empty = omega (arith, total-read old, total-read new, ap total becomes.lists, sum_by-set length (read_lists old) place list [] there, ap length empty)

  pub list_then : list_at (read_lists new) place ≡ list
  list_then = ap (λ l. list_at l place) becomes.lists ∙ get_or-set_same (read_lists old) place list [] there

-- records of a source don't pass the limit where there is room for them
pub no_overflow : (l : Listed) (place : ℕ) (rows : List Row) → place < length l.lists → list_at (read_lists l) place ≡ [] → total l.lists + length rows ≤ message_limit
    → message_limit < total (set (read_lists l) place (with_rows (list_at (read_lists l) place) rows)) → ⊥
no_overflow l place rows within empty room over =
    let inside : place < length (read_lists l) = subst (λ n. place < n) (sym (length-read_lists l)) within in
    let size : length (with_rows (list_at (read_lists l) place) rows) ≡ length (map row (distinct_rows rows)) = ap length (ap (λ list. with_rows list rows) empty ∙ all_rows rows) in
    omega (arith, room, over, size, ap length empty, few_rows rows, total-read l, sum_by-set length (read_lists l) place (with_rows (list_at (read_lists l) place) rows) [] inside)

-- one list becomes another twice
pub becomes_then : (old mid new : Listed) (place : ℕ) (first second : List Message) → OneListBecomes old mid place first → OneListBecomes mid new place second → OneListBecomes old new place second
becomes_then old mid new place first second one other = record {
  records = continues_on old.records mid.records new.records one.records other.records;
  lists = other.lists ∙ ap (λ l. set l place second) one.lists ∙ set-set (read_lists old) place first second;
}

-- ---- lists that are taken over

-- an element stands behind those that came before it
module _ {X : Type 0} (came : List X) (x : X) (left all : List X) (are : came ++ x ∷ left ≡ all) where
  pub comes_within : length came < length all
  comes_within = omega (arith, ap length are, length-append came (x ∷ left))

  pub comes_at : (d : X) → get_or all (length came) d ≡ x
  comes_at d = ap (λ l. get_or l (length came) d) (sym are) ∙ get_or-append_seam came x left d

-- the source that comes next, and what it holds

pub below_sources : {left later : Data} {held : SourceData} (v : View) (given : Data) (source : ℕ) (came : Data)
    → IsData v given → source ≡ length came → came ++ left ≡ given → left ≡ held ∷ later → source < source_count v
below_sources {later = later} {held = held} v given source came fits number all next =
    omega (arith, number, fits.each, comes_within came held later given (ap (λ l. came ++ l) (sym next) ∙ all))

pub source_held : {left later : Data} {held : SourceData} (given : Data) (source : ℕ) (came : Data)
    → source ≡ length came → came ++ left ≡ given → left ≡ held ∷ later → source_data given source ≡ held
source_held {later = later} {held = held} given source came number all next =
    ap (source_data given) number ∙ comes_at came held later given (ap (λ l. came ++ l) (sym next) ∙ all) no_data

-- ---- all sources

empty_at : (count place : ℕ) → list_at {X = Message} (replicate count []) place ≡ []
empty_at count place = elim (cases_lt place count) [
  | inl below ↦ get_or-replicate count place [] [] below
  | inr past ↦ get_or_past (replicate count []) place [] (omega (arith, past, length-replicate {A = List Message} count []))
]

pub none_emitted : (v : View) (given : Data) (l : Listed) (count : ℕ) → count ≡ list_count v → read_lists l ≡ replicate count [] → SourcesEmitted v given 0 (read_lists l)
none_emitted v given l count is empty = record {
  count = ap length empty ∙ length-replicate {A = List Message} count [] ∙ is;
  emitted = λ s below. absurd (no_less s below);
  others = λ s r from there sends. ap (λ lists. list_at lists (list_place v s r)) empty ∙ empty_at count (list_place v s r);
}
  where
    no_less : (n : ℕ) → n < 0 → ⊥
    no_less n below = absurd (omega (arith, below))

pub no_messages : (l : Listed) (count : ℕ) → read_lists l ≡ replicate count [] → total l.lists ≡ 0
no_messages l count empty = sym (total-read l) ∙ ap total empty ∙ sum_by-replicate (length {A = Message}) count [] ∙ (let e : count * 0 ≡ 0 = omega arith in e)

module _ (v : View) (valid : IsValid v) (given : Data) (s : ℕ) (below : s < source_count v) where
  here : s < length v.streams
  here = omega (arith, below, source_stream v)

  -- a source has one emitted list
  pub one_sender : 0 < stream_replicas v s
  one_sender = subst (λ o. 0 < senders_of v o) (sym ((valid.numbered.sources s here).1 below)) (omega arith)

  pub place_there : (l : Listed) → SourcesEmitted v given s (read_lists l) → list_place v s 0 < length l.lists
  place_there l e = omega (arith, place-before (stream_replicas v) s 0 (length v.streams) one_sender here, e.count, length-read_lists l)

  pub place_empty : (l : Listed) → SourcesEmitted v given s (read_lists l) → list_at (read_lists l) (list_place v s 0) ≡ []
  place_empty l e = e.others s 0 (omega arith) here one_sender

  pub next_emitted : (old new : Listed) → SourcesEmitted v given s (read_lists old) → OneListBecomes old new (list_place v s 0) (emitted_of_source v given s) → SourcesEmitted v given (s + 1) (read_lists new)
  next_emitted old new e becomes =
      let place : ℕ = list_place v s 0 in
      let list : List Message = emitted_of_source v given s in
      let inside : place < length (read_lists old) = subst (λ n. place < n) (sym (length-read_lists old)) (place_there old e) in
      let apart : (u r : ℕ) → u ≢ s → u < length v.streams → r < stream_replicas v u → list_place v u r ≢ place = λ u r differ there sends same. differ (one_place (stream_replicas v) u r s 0 sends one_sender same).0 in
      record {
        count = ap length becomes.lists ∙ length-set (read_lists old) place list ∙ e.count;
        emitted = λ u less. elim (cases_eq u s) [
          | inl is ↦
              ap (λ l. list_at l (list_place v u 0)) becomes.lists
              ∙ ap (λ n. list_at (set (read_lists old) place list) (list_place v n 0)) is
              ∙ get_or-set_same (read_lists old) place list [] inside
              ∙ ap (emitted_of_source v given) (sym is)
          | inr differ ↦
              let before : u < s = omega (arith, less, differ) in
              ap (λ l. list_at l (list_place v u 0)) becomes.lists
              ∙ get_or-set_other (read_lists old) place (list_place v u 0) list [] (apart u 0 differ (omega (arith, before, here)) (sends_one u (omega (arith, before, below))))
              ∙ e.emitted u before
        ];
        others = λ u r from there sends.
            ap (λ l. list_at l (list_place v u r)) becomes.lists
            ∙ get_or-set_other (read_lists old) place (list_place v u r) list [] (apart u r (omega (arith, from)) there sends)
            ∙ e.others u r (omega (arith, from)) there sends;
      }
    where
      sends_one : (u : ℕ) → u < source_count v → 0 < stream_replicas v u
      sends_one u less = subst (λ o. 0 < senders_of v o) (sym ((valid.numbered.sources u (omega (arith, less, source_stream v))).1 less)) (omega arith)

  -- ---- there is room

  module _ (fits : IsData v given) (few : AreFew given) where
    data_more : sum_by count_of (take (s + 1) given) ≡ sum_by count_of (take s given) + count_of (source_data given s)
    data_more = sum_by_more count_of given s no_data (omega (arith, below, fits.each))

    pub room_left : (l : Listed) → total l.lists ≤ 2 * sum_by count_of (take s given) → total l.lists + 2 * count_of (source_data given s) ≤ message_limit
    room_left l held = omega (arith, held, few, sum_by_more_le count_of given s no_data (omega (arith, below, fits.each)))

    pub room_more : (old new : Listed) → SourcesEmitted v given s (read_lists old) → total old.lists ≤ 2 * sum_by count_of (take s given)
        → OneListBecomes old new (list_place v s 0) (emitted_of_source v given s) → total new.lists ≤ 2 * sum_by count_of (take (s + 1) given)
    room_more old new e held becomes =
        omega (arith, held, data_more, grown old new (list_place v s 0) (emitted_of_source v given s) (place_there old e) becomes (place_empty old e), few_messages (stream_at v s) (source_data given s))
