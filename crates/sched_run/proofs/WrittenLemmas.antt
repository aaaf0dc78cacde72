-- Events that can be written: one more of them has names, and one line more is numbered on and can be printed.
use Rattle.std.proofs.Common.{◌≡◌, ◌∙◌, ◌+◌, ◌<◌, ◌≤◌, ◌++◌, ℕ, suc, true, List, [], ◌∷◌, Result, Ok, Err, OnOk, get_or, length, map, take, refl, sym, subst, ap, append-nil, arith}
use Rattle.std.specs.Prelude.{codes}
use Rattle.std.specs.List.{All, enumerate_from, range_with_len}
use Rattle.std.proofs.lemmas.Bool.{and_from}
use Rattle.std.proofs.lemmas.List.{get_or-map, length-append, length-map, length-take-le, map-append, take_all, take_more}
use Rattle.std.proofs.lemmas.List.Elements.{All-nil, All-push}
use Rattle.std.proofs.lemmas.Grind.{flat_map-append}
use Rattle.std.proofs.lemmas.List.Folds.{list_all-append}
use Rattle.blz_value.proofs.Ranges.{range_more}
use Rattle.sched_text.specs.Reading.{ReadsAs, event_reading, line_limit}
use Rattle.sched_text.specs.Small.{IsSmall}
use Rattle.sched_text.specs.Text.{event_text, is_printable, numbered_again, schedule_text}
use Rattle.sched_text.proofs.PrintedEvents.{recursion_from_All}
use Rattle.sched_text.proofs.PrintedLines.{read_again}
use Rattle.sched_text.specs.declared.event.Event.{Event as NamedEvent}
use Rattle.topo_forms.specs.View.{View}
use Rattle.inbox.specs.Events.{Event}
use Rattle.sched_net.specs.Numbered.{event_by_numbers, numbered}
use Rattle.sched_net.specs.declared.numbered.NumberedEvent.{NumberedEvent}
use Rattle.sched_net.specs.ScheduleLines.{events_of, Line}
use Rattle.sched_run.specs.Made.{event_limit}
use Rattle.sched_run.specs.Making.{CountFromOne, IsTextOf}
use Rattle.sched_run.specs.Naming.{CanBeWritten, HasEventNames}
use Rattle.sched_run.specs.Code.Works.{HasNames, work_event}
use Rattle.sched_run.specs.Code.Written.{AreLines, AddsLine}
use Rattle.sched_run.proofs.WrittenSoFar.{AreLinesOf, IsTextSoFar}
use Rattle.sched_run.specs.declared.lanes.Lane.TheVariants.{Deliver, Order}
use Rattle.sched_run.specs.declared.works.Work.{Work}
use Rattle.sched_run.specs.declared.works.Work.TheVariants.{Message, Take}

one_longer : {X : Type 0} (xs : List X) (x : X) → length (xs ++ x ∷ []) ≡ suc (length xs)
one_longer xs x = let e : length (xs ++ x ∷ []) ≡ length xs + 1 = length-append xs (x ∷ []) in omega (arith, e)

few_more : (n m most limit : ℕ) → most ≡ limit → m ≡ suc n → n < most → m ≤ limit
few_more n m most limit same is low = omega arith

few_none : (limit : ℕ) → 0 ≤ limit
few_none limit = omega arith

-- ---- events

-- what a work speaks of is there
pub work_named : (v : View) (work : Work) → HasNames v work → HasEventNames v (work_event work)
work_named v (Message (Deliver component replica number feed) index) is = record { there = is.is.there; port = is.is.port; stream = is.is.stream }
work_named v (Message (Order component feed) index) is = record { there = is.is.there; port = is.is.port; stream = is.is.stream }
work_named v (Take taker) is = is.there

-- one more
pub written_more : (v : View) (events after : List Event) (e : Event) → CanBeWritten v events → length events < event_limit → HasEventNames v e → after ≡ events ++ e ∷ [] → CanBeWritten v after
written_more v events after e can low named are =
    subst (CanBeWritten v) (sym are)
    (record {
      few = few_more (length events) (length (events ++ e ∷ [])) event_limit event_limit refl (one_longer events e) low;
      named = All-push (HasEventNames v) events e can.named named;
    })

-- as many as there may be
pub as_many_events : (v : View) (events : List Event) → CanBeWritten v events → event_limit ≤ length events → length events ≡ event_limit
as_many_events v events can many = both (length events) event_limit can.few many
  where
    both : (n most : ℕ) → n ≤ most → most ≤ n → n ≡ most
    both n most low high = omega arith

-- of an equal topology
pub written_there : (v also : View) (same : also ≡ v) (events : List Event) → CanBeWritten v events → CanBeWritten also events
written_there v also same events = subst (λ (u : View). CanBeWritten u events) (sym same)

-- what holds of each event by numbers holds of what goes by them
pub all_by_numbers : (P : Event → Type 0) (events : List NumberedEvent) → All P (map event_by_numbers events) → All (λ event. P (event_by_numbers event)) events
all_by_numbers P events all i d within =
    subst P (get_or-map event_by_numbers events i d (event_by_numbers d) within) (all i (event_by_numbers d) (let n : length (map event_by_numbers events) ≡ length events = length-map events event_by_numbers in omega (arith, n, within)))

-- ---- lines

-- no line
no_lines : AreLines []
no_lines = record { numbers = refl; printable = record { few = few_none line_limit; events = refl } }

line_more : (lines : List Line) (number : ℕ) (event : NamedEvent) → AreLines lines → length lines < event_limit → number ≡ suc (length lines) → is_printable event ≡ true → AreLines (lines ++ (number, event) ∷ [])
line_more lines number event are low is printable = record {
  numbers = map-append (λ (line : Line). line.0) lines ((number, event) ∷ [])
      ∙ ap (λ (l : List ℕ). l ++ number ∷ []) are.numbers
      ∙ ap (λ n. range_with_len 1 (length lines) ++ n ∷ []) (let e : number ≡ 1 + length lines = omega (arith, is) in e)
      ∙ sym (range_more 1 (length lines))
      ∙ sym (ap (range_with_len 1) (one_longer lines (number, event)));
  printable = record {
    few = few_more (length lines) (length (lines ++ (number, event) ∷ [])) event_limit line_limit refl (one_longer lines (number, event)) low;
    events = list_all-append (λ (line : Line). is_printable line.1) lines ((number, event) ∷ [])
        ∙ and_from _ _ are.printable.events (and_from _ _ printable refl);
  };
}

-- the lines of events: none yet
pub lines_first : (v : View) (events : List NumberedEvent) (lines : List Line) → lines ≡ [] → AreLinesOf v events 0 lines
lines_first v events lines none = subst (AreLinesOf v events 0) (sym none) (record { lined = no_lines; are = refl })

module _ (v : View) (events : List NumberedEvent) (count : ℕ) (lines : List Line) (are : AreLinesOf v events count lines) where
  as_many : count ≤ length events → length lines ≡ count
  as_many within = sym (length-map lines (λ (line : Line). numbered v line.1)) ∙ ap (λ (l : List Event). length l) are.are ∙ length-map (take count events) event_by_numbers ∙ length-take-le count events within

  -- one more
  pub lines_more : (later : List Line) (number : ℕ) (event : NumberedEvent) (named : NamedEvent) → length events ≤ event_limit → count < length events → event ≡ get_or events count event → number ≡ count + 1
      → numbered v named ≡ event_by_numbers event → is_printable named ≡ true → later ≡ lines ++ (number, named) ∷ [] → AreLinesOf v events (count + 1) later
  lines_more later number event named few within at next is printable more =
      let many : length lines ≡ count = as_many (below count (length events) within) in
      subst (AreLinesOf v events (count + 1)) (sym more)
      (record {
        lined = line_more lines number named are.lined (low (length lines) count (length events) event_limit many within few) (number_is number count (length lines) next many) printable;
        are = map-append (λ (line : Line). numbered v line.1) lines ((number, named) ∷ [])
            ∙ ap (λ (l : List Event). l ++ numbered v named ∷ []) are.are
            ∙ ap (λ (e : Event). map event_by_numbers (take count events) ++ e ∷ []) is
            ∙ sym (map-append event_by_numbers (take count events) (event ∷ []))
            ∙ ap (λ (e : NumberedEvent). map event_by_numbers (take count events ++ e ∷ [])) at
            ∙ sym (ap (map event_by_numbers) (take_more events count event within));
      })
    where
      below : (n m : ℕ) → n < m → n ≤ m
      below n m less = omega arith

      low : (n i m most : ℕ) → n ≡ i → i < m → m ≤ most → n < most
      low n i m most same less few = omega arith

      number_is : (n i m : ℕ) → n ≡ i + 1 → m ≡ i → n ≡ suc m
      number_is n i m next same = omega arith

  -- and all
  pub lines_whole : length events ≤ count → events_of v lines ≡ map event_by_numbers events
  lines_whole past = are.are ∙ ap (map event_by_numbers) (take_all count events past)

-- ---- their text

-- lines that are numbered from a number are the same when their events are numbered so again
numbered_from : (n : ℕ) (lines : List Line) → map (λ line. line.0) lines ≡ range_with_len n (length lines) → enumerate_from n (map (λ line. line.1) lines) ≡ lines
numbered_from n [] is = refl
numbered_from n (line ∷ lines) is =
    let rest : enumerate_from (n + 1) (map (λ line. line.1) lines) ≡ lines = numbered_from (n + 1) lines (cc) in
    let first : line.0 ≡ n = cc in
    ap (λ (l : List Line). (n, line.1) ∷ l) rest ∙ ap (λ m. (m, line.1) ∷ lines) (sym first)

pub numbered_alike : (lines : List Line) → CountFromOne lines → numbered_again lines ≡ lines
numbered_alike lines is = numbered_from 1 lines is

-- no line yet
pub text_first : (v : View) (events : List NumberedEvent) (text : List ℕ) → text ≡ [] → IsTextSoFar v events 0 text
text_first v events text none = record { lines = []; are = lines_first v events [] refl; is = none; small = All-nil (λ (line : Line). IsSmall line.1) }

-- the line of an event, where memory sufficed
pub adds_line : {A B : Type 0} (v : View) (event : Event) (old new : List ℕ) (named : NamedEvent) (r : Result A B) → numbered v named ≡ event → is_printable named ≡ true → OnOk r (IsSmall named) → OnOk r (new ≡ old ++ (event_text named ++ codes "\n")) → OnOk r (AddsLine v event old new)
adds_line v event old new named (Ok done) is printable small text = record { named = named; event_is = is; printable = printable; small = small; text = text }
adds_line v event old new named (Err fault) is printable small text = tt

module _ (v : View) (events : List NumberedEvent) (count : ℕ) (text : List ℕ) (so : IsTextSoFar v events count text) where
  -- one more
  pub text_more : (later : List ℕ) (event : NumberedEvent) (named : NamedEvent) → length events ≤ event_limit → count < length events → event ≡ get_or events count event
      → numbered v named ≡ event_by_numbers event → is_printable named ≡ true → IsSmall named → later ≡ text ++ (event_text named ++ codes "\n") → IsTextSoFar v events (count + 1) later
  text_more later event named few within at is printable small more =
      let line : Line = (count + 1, named) in
      let own : Line → List ℕ = λ l. event_text l.1 ++ codes "\n" in
      record {
        lines = so.lines ++ line ∷ [];
        are = lines_more v events count so.lines so.are (so.lines ++ line ∷ []) (count + 1) event named few within at refl is printable refl;
        is = more
            ∙ ap (λ (t : List ℕ). t ++ own line) so.is
            ∙ ap (λ (t : List ℕ). schedule_text so.lines ++ t) (sym (append-nil (own line)))
            ∙ sym (flat_map-append own so.lines (line ∷ []));
        small = All-push (λ (l : Line). IsSmall l.1) so.lines line so.small small;
      }

  -- and all
  pub text_whole : length events ≤ count → IsTextOf v (map event_by_numbers events) text
  text_whole past = record {
    lines = so.lines;
    is = so.is;
    reads = subst (λ (t : List ℕ). ReadsAs event_reading t so.lines) (sym so.is)
        (subst (ReadsAs event_reading (schedule_text so.lines)) (numbered_alike so.lines so.are.lined.numbers)
        (read_again so.lines so.are.lined.printable (recursion_from_All (λ (l : Line). IsSmall l.1) so.lines so.small)));
    are = lines_whole v events count so.lines so.are past;
  }
