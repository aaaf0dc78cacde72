-- A part gives the pair that the execution says: its feed is found among those of the instance, and its message in the list that stands at the feed's place.
use Rattle.std.proofs.Common.{◌≡◌, ◌<◌, ◌+◌, ◌==◌, ◌&&◌, ℕ, suc, Option, None, Some, List, [], ◌∷◌, ◌++◌, length, take, drop, get_or, slice_get, refl, ap, ◌∙◌, sym, subst, inl, inr, ◌≤◌, arith, drop-cons}
use Rattle.std.specs.Prelude.{Result, Ok, Err}
use Rattle.std.specs.List.{All, position}
use Rattle.std.specs.Option.{option_map}
use Rattle.std.proofs.lemmas.List.{take-append-drop, take_more, take_all, map-append}
use Rattle.std.proofs.lemmas.Option.{slice_get-map, slice_get-get_or}
use Rattle.blz_value.specs.Members.{Has}
use Rattle.blz_value.specs.Record.{Row}
use Rattle.blz_value.proofs.Membership.{All-of_member, Has-get_or, Has-append_left, Has-append_right, Has-append_cases}
use Rattle.bloom_forms.specs.declared.program.Program.{Program}
use Rattle.bloom_forms.specs.Step.{Sets}
use Rattle.topo_forms.specs.Data.{Data}
use Rattle.topo_forms.specs.Feeds.{Feed, no_feed}
use Rattle.topo_forms.specs.Messages.{Message}
use Rattle.topo_forms.specs.Valid.{IsValid}
use Rattle.topo_forms.specs.View.{View, replicas_of, stream_replicas}
use Rattle.messages.specs.Messages.{Pair}
use Rattle.messages.specs.Ids.{message_with_id, pair_with_id, batch_with_ids}
use Rattle.inbox.specs.Instances.{Instance}
use Rattle.inbox.specs.Wiring.{Wiring, wiring_of, instance_at, instance_for, feeds_for}
use Rattle.inbox.specs.Growth.{feed_numbered}
use Rattle.inbox.specs.Executions.{Execution, feed_of, message_of, pair_with, pair_of, pairs_of, result_and_then}
use Rattle.inbox.specs.Events.{Part, Step, Refusal, no_instance, no_message}
use Rattle.messages.specs.declared.message.Message.{Message as IdMessage}
use Rattle.inbox.proofs.Executions.Results.{Ok_same, and_then_Ok}
use Rattle.inbox.proofs.Executions.Sent.{IsFeedOf, feed_of-is}
use Rattle.inbox.proofs.WiringLemmas.{IsFeedInto, instance-feeds, instance-wired}
use Rattle.messages.specs.Lists.{Listed, read_lists, list_at}
use Rattle.sched_net.specs.Net.{Runs, BooksStand, BooksRun, ShowsSeat, execution_in, list_on}
use Rattle.inbox.specs.Places.{instance_place, list_place}
use Rattle.sched_net.specs.Code.Parts.{IsReadAs, PairAnswers, PairsAnswer, StandsAt, HaveIndexes, ArePairs}
use Rattle.sched_net.specs.declared.books.Books.{Books}
use Rattle.messages.specs.declared.fault.EventFault.{EventFault}
use Rattle.messages.specs.declared.fault.EventFault.TheVariants.{NoInstance, NoMessage, NothingToTake, TooManyRows, TooManyMessages, NoMemory}
use Rattle.sched_net.specs.declared.seated.Seated.{Seated}
use Rattle.messages.proofs.ListsLemmas.{read-at, length-read_lists}
use Rattle.inbox.proofs.PlacesLemmas.{place-before}
use Rattle.sched_net.proofs.Showing.{emitted_shown}

-- ---- the seat of an instance

-- the books of a net that runs do
pub books_run : (v : View) (loaded : List (Option Program)) (tables : List Sets) (books : Books) → Runs v loaded tables books → BooksRun v books
books_run v loaded tables books runs = record { given = runs.given; steps = runs.steps; stand = runs.stands.books }

module _ (v : View) (books : Books) (c r : ℕ) (there : c < length v.components) (within : r < replicas_of v c) where
  -- the place is one of those of the seats
  pub seat_within : (given : Data) (steps : List Step) → BooksStand v given steps books → instance_place v c r < length books.seats.items
  seat_within given steps stand = subst (λ n. instance_place v c r < n) (sym stand.instances.count) (place-before (replicas_of v) c r (length v.components) within there)

  pub seat_place : BooksRun v books → (place : ℕ) → place ≡ instance_place v c r → place < length books.seats.items
  seat_place run place at = subst (λ n. n < length books.seats.items) (sym at) (seat_within run.given run.steps run.stand)

  -- the books there are those of the instance
  pub seat_shown : (given : Data) (steps : List Step) (stand : BooksStand v given steps books) (place : ℕ) (b : Seated) → place ≡ instance_place v c r → b ≡ get_or books.seats.items place b → ShowsSeat v books.lists c r (stand.seats.seats c r) b
  seat_shown given steps stand place b at is =
      stand.instances.each c r b there within
      (ap (slice_get books.seats.items) (sym at)
      ∙ slice_get-get_or books.seats.items place b (subst (λ n. n < length books.seats.items) (sym at) (seat_within given steps stand))
      ∙ ap (λ o. Some o) (sym is))

  pub feeds_shown : BooksRun v books → (place : ℕ) (b : Seated) → place ≡ instance_place v c r → b ≡ get_or books.seats.items place b → b.feeds ≡ feeds_for v c r
  feeds_shown run place b at is = (seat_shown run.given run.steps run.stand place b at is).feeds

-- the list of a sender is one of those that are kept
pub list_within : (v : View) (books : Books) → BooksRun v books → (s r : ℕ) → s < length v.streams → r < stream_replicas v s → (place : ℕ) → place ≡ list_place v s r → place < length books.lists.lists
list_within v books run s r there within place at =
    subst (λ n. n < length books.lists.lists) (sym at)
    (subst (λ n. list_place v s r < n) (sym (sym (length-read_lists books.lists) ∙ run.stand.shows.count)) (place-before (stream_replicas v) s r (length v.streams) within there))

-- ---- the feed of a part

-- it is looked up among the feeds that are kept
pub feed_shown : (v : View) (c r : ℕ) (part : Part) (feeds : List Feed) → feeds ≡ feeds_for v c r
    → position (λ feed. feed.port == part.port && (feed.stream == part.sent.stream && feed.sender == part.sent.replica)) feeds ≡ feed_of (instance_for v c r) part
feed_shown v c r part feeds same = ap (position (λ feed. feed.port == part.port && (feed.stream == part.sent.stream && feed.sender == part.sent.replica))) same

module _ (v : View) (c r : ℕ) (part : Part) (n : ℕ) (found : feed_of (instance_for v c r) part ≡ Some n) where
  is_feed : IsFeedOf (instance_for v c r) part n
  is_feed = feed_of-is (instance_for v c r) part n found

  into : IsFeedInto v c (feed_numbered (instance_for v c r) n)
  into = instance-feeds v c r (feed_numbered (instance_for v c r) n) (Has-get_or (instance_for v c r).feeds n no_feed is_feed.within)

  pub stream_there : part.sent.stream < length v.streams
  stream_there = subst (λ s. s < length v.streams) is_feed.stream into.stream

  pub sender_there : part.sent.replica < stream_replicas v part.sent.stream
  sender_there = subst (λ s. part.sent.replica < stream_replicas v s) is_feed.stream (subst (λ q. q < stream_replicas v (feed_numbered (instance_for v c r) n).stream) is_feed.sender into.sender)

  -- the list of the feed is that of the stream and the sender
  list_of_feed : (lists : List (List Message)) → list_on v lists (feed_numbered (instance_for v c r) n) ≡ list_at lists (list_place v part.sent.stream part.sent.replica)
  list_of_feed lists =
      ap (λ s. list_at lists (list_place v s (feed_numbered (instance_for v c r) n).sender)) is_feed.stream
      ∙ ap (λ q. list_at lists (list_place v part.sent.stream q)) is_feed.sender

  pub stands_at : (l : Listed) (m : IdMessage) → slice_get (list_at l.lists (list_place v part.sent.stream part.sent.replica)) part.sent.index ≡ Some m
      → StandsAt v (instance_for v c r) (read_lists l) n part.sent.index (message_with_id l.records m)
  stands_at l m at =
      ap (λ list. slice_get list part.sent.index) (list_of_feed (read_lists l) ∙ sym (read-at l.records l.lists (list_place v part.sent.stream part.sent.replica)))
      ∙ slice_get-map (message_with_id l.records) (list_at l.lists (list_place v part.sent.stream part.sent.replica)) part.sent.index
      ∙ ap (option_map (message_with_id l.records)) at

-- ---- the pair of a part

module _ (v : View) (books : Books) (valid : IsValid v) (c r : ℕ) (there : c < length v.components) (within : r < replicas_of v c) (part : Part) (given : Data) (steps : List Step) (stand : BooksStand v given steps books) where
  message : Option Message
  message = message_of (wiring_of v) given (execution_in stand) part.sent

  of_feed : (feed : Option ℕ) → feed_of (instance_for v c r) part ≡ feed → pair_of (wiring_of v) given (execution_in stand) (instance_at (wiring_of v) c r) part ≡ pair_with feed (message_of (wiring_of v) given (execution_in stand) part.sent)
  of_feed feed is =
      ap (λ i. pair_with (feed_of i part) (message_of (wiring_of v) given (execution_in stand) part.sent)) (instance-wired v c r there within)
      ∙ ap (λ f. pair_with f (message_of (wiring_of v) given (execution_in stand) part.sent)) is

  message-is : (n : ℕ) → feed_of (instance_for v c r) part ≡ Some n
      → message_of (wiring_of v) given (execution_in stand) part.sent ≡ option_map (message_with_id books.lists.records) (slice_get (list_at books.lists.lists (list_place v part.sent.stream part.sent.replica)) part.sent.index)
  message-is n found =
      let place : ℕ = list_place v part.sent.stream part.sent.replica in
      ap (λ list. slice_get list part.sent.index)
      (sym (emitted_shown v given (execution_in stand) stand.seats stand.tables (read_lists books.lists) valid stand.stands.stands stand.shows part.sent.stream part.sent.replica (stream_there v c r part n found) (sender_there v c r part n found))
      ∙ sym (read-at books.lists.records books.lists.lists place))
      ∙ slice_get-map (message_with_id books.lists.records) (list_at books.lists.lists place) part.sent.index

  no_feed_there : feed_of (instance_for v c r) part ≡ None → pair_of (wiring_of v) given (execution_in stand) (instance_at (wiring_of v) c r) part ≡ Err no_instance
  no_feed_there none = of_feed None none

  no_message_there : (n : ℕ) → feed_of (instance_for v c r) part ≡ Some n → slice_get (list_at books.lists.lists (list_place v part.sent.stream part.sent.replica)) part.sent.index ≡ None
      → pair_of (wiring_of v) given (execution_in stand) (instance_at (wiring_of v) c r) part ≡ Err no_message
  no_message_there n found none = of_feed (Some n) found ∙ ap (pair_with (Some n)) (message-is n found ∙ ap (option_map (message_with_id books.lists.records)) none)

  pair_there : (n : ℕ) (m : IdMessage) → feed_of (instance_for v c r) part ≡ Some n → slice_get (list_at books.lists.lists (list_place v part.sent.stream part.sent.replica)) part.sent.index ≡ Some m
      → pair_of (wiring_of v) given (execution_in stand) (instance_at (wiring_of v) c r) part ≡ Ok (n, message_with_id books.lists.records m)
  pair_there n m found at = of_feed (Some n) found ∙ ap (pair_with (Some n)) (message-is n found ∙ ap (option_map (message_with_id books.lists.records)) at)

-- the answers of `pair_of`, one for each way in which it ends
module _ (v : View) (books : Books) (valid : IsValid v) (c r : ℕ) (there : c < length v.components) (within : r < replicas_of v c) (part : Part) where
  pub answers_no_feed : feed_of (instance_for v c r) part ≡ None → PairAnswers v books c r part (Err NoInstance)
  answers_no_feed none given steps stand = no_feed_there v books valid c r there within part given steps stand none

  pub answers_no_message : (n : ℕ) → feed_of (instance_for v c r) part ≡ Some n → slice_get (list_at books.lists.lists (list_place v part.sent.stream part.sent.replica)) part.sent.index ≡ None → PairAnswers v books c r part (Err NoMessage)
  answers_no_message n found none given steps stand = no_message_there v books valid c r there within part given steps stand n found none

  pub answers_pair : (n : ℕ) (m : IdMessage) → feed_of (instance_for v c r) part ≡ Some n → slice_get (list_at books.lists.lists (list_place v part.sent.stream part.sent.replica)) part.sent.index ≡ Some m → PairAnswers v books c r part (Ok (n, m))
  answers_pair n m found at given steps stand = pair_there v books valid c r there within part given steps stand n m found at

-- ---- the pairs of some parts

module _ (w : Wiring) (given : Data) (x : Execution) (i : Instance) where
  -- one part more
  pub pairs-more : (parts : List Part) (part : Part) (pairs : List Pair) (pair : Pair) → pairs_of w given x i parts ≡ Ok pairs → pair_of w given x i part ≡ Ok pair → pairs_of w given x i (parts ++ part ∷ []) ≡ Ok (pairs ++ pair ∷ [])
  pairs-more [] part pairs pair all one =
      let none : [] ≡ pairs = Ok_same (Ok []) [] pairs refl all in
      ap (λ r. result_and_then r (λ p. result_and_then (Ok []) (λ ps. Ok (p ∷ ps)))) one ∙ ap (λ l. Ok (l ++ pair ∷ [])) none
  pairs-more (first ∷ parts) part pairs pair all one =
      let a = and_then_Ok (pair_of w given x i first) (λ p. result_and_then (pairs_of w given x i parts) (λ ps. Ok (p ∷ ps))) pairs all in
      let b = and_then_Ok (pairs_of w given x i parts) (λ ps. Ok (a.0 ∷ ps)) pairs a.2 in
      let are : (a.0 ∷ b.0) ≡ pairs = Ok_same (Ok (a.0 ∷ b.0)) (a.0 ∷ b.0) pairs refl b.2 in
      ap (λ r. result_and_then r (λ p. result_and_then (pairs_of w given x i (parts ++ part ∷ [])) (λ ps. Ok (p ∷ ps)))) a.1
      ∙ ap (λ r. result_and_then r (λ ps. Ok (a.0 ∷ ps))) (pairs-more parts part b.0 pair b.1 one)
      ∙ ap (λ l. Ok (l ++ pair ∷ [])) are

  -- a part that is refused
  pub pairs-refused : (parts : List Part) (part : Part) (more : List Part) (pairs : List Pair) (refusal : Refusal) → pairs_of w given x i parts ≡ Ok pairs → pair_of w given x i part ≡ Err refusal → pairs_of w given x i (parts ++ part ∷ more) ≡ Err refusal
  pairs-refused [] part more pairs refusal all one = ap (λ r. result_and_then r (λ p. result_and_then (pairs_of w given x i more) (λ ps. Ok (p ∷ ps)))) one
  pairs-refused (first ∷ parts) part more pairs refusal all one =
      let a = and_then_Ok (pair_of w given x i first) (λ p. result_and_then (pairs_of w given x i parts) (λ ps. Ok (p ∷ ps))) pairs all in
      let b = and_then_Ok (pairs_of w given x i parts) (λ ps. Ok (a.0 ∷ ps)) pairs a.2 in
      ap (λ r. result_and_then r (λ p. result_and_then (pairs_of w given x i (parts ++ part ∷ more)) (λ ps. Ok (p ∷ ps)))) a.1
      ∙ ap (λ r. result_and_then r (λ ps. Ok (a.0 ∷ ps))) (pairs-refused parts part more b.0 refusal b.1 one)

-- the parts from a place on
parts-from : (parts : List Part) (k : ℕ) (part : Part) → k < length parts → part ≡ get_or parts k part → take k parts ++ part ∷ drop (k + 1) parts ≡ parts
parts-from parts k part within is =
    ap (λ l. take k parts ++ l) (ap (λ p. p ∷ drop (k + 1) parts) is ∙ sym (drop-cons-at parts k part within))
    ∙ take-append-drop k parts
  where
    drop-cons-at : (ps : List Part) (n : ℕ) (d : Part) → n < length ps → drop n ps ≡ get_or ps n d ∷ drop (n + 1) ps
    drop-cons-at ps n d less = let next : n + 1 ≡ suc n = omega arith in drop-cons ps n d less ∙ ap (λ m. get_or ps n d ∷ drop m ps) (sym next)

-- ---- indexes

indexes-more : (v : View) (i : Instance) (lists : List (List Message)) (pairs : List Pair) (indexes : List (ℕ × ℕ)) (n index : ℕ) (message : Message) → HaveIndexes v i lists pairs indexes → StandsAt v i lists n index message
    → HaveIndexes v i lists (pairs ++ (n, message) ∷ []) (indexes ++ (n, index) ∷ [])
indexes-more v i lists pairs indexes n index message have at = record {
  sound = λ feed place h. elim (Has-append_cases (feed, place) indexes ((n, index) ∷ []) h) [
    | inl old ↦ let s = have.sound feed place old in (s.0, s.1, Has-append_left (feed, s.0) pairs ((n, message) ∷ []) s.2)
    | inr more ↦ elim more [
      | inl same ↦
          let P : ℕ × ℕ → Type 0 = λ q. (m : Message) × StandsAt v i lists q.0 q.1 m × Has (q.0, m) (pairs ++ (n, message) ∷ []) in
          subst P same (message, at, Has-append_right (n, message) pairs ((n, message) ∷ []) (inl refl))
      | inr none ↦ absurd none
    ]
  ];
  whole = λ feed m h. elim (Has-append_cases (feed, m) pairs ((n, message) ∷ []) h) [
    | inl old ↦ let s = have.whole feed m old in (s.0, s.1, Has-append_left (feed, s.0) indexes ((n, index) ∷ []) s.2)
    | inr more ↦ elim more [
      | inl same ↦
          let P : Pair → Type 0 = λ q. (place : ℕ) × StandsAt v i lists q.0 place q.1 × Has (q.0, place) (indexes ++ (n, index) ∷ []) in
          subst P same (index, at, Has-append_right (n, index) indexes ((n, index) ∷ []) (inl refl))
      | inr none ↦ absurd none
    ]
  ];
}

-- ---- what the loop over the parts knows

-- a fault of one part is that of all
refused : {X : Type 0} (fault : EventFault) (records : List Row) (asked : Result Pair Refusal) (all : Result (List Pair) Refusal) (pairs : X → List (ℕ × IdMessage)) → IsReadAs (pair_with_id records) asked (Err fault) → ((refusal : Refusal) → asked ≡ Err refusal → all ≡ Err refusal)
    → IsReadAs (λ x. batch_with_ids records (pairs x)) all (Err fault)
refused NoInstance records asked all pairs is on = on no_instance is
refused NoMessage records asked all pairs is on = on no_message is
refused NothingToTake records asked all pairs is on = absurd is
refused TooManyRows records asked all pairs is on = absurd is
refused TooManyMessages records asked all pairs is on = absurd is
refused NoMemory records asked all pairs is on = tt

module _ (v : View) (books : Books) (c r : ℕ) (parts : List Part) (k : ℕ) (part : Part) (less : k < length parts) (is : part ≡ get_or parts k part) (pairs : List (ℕ × IdMessage)) (indexes : List (ℕ × ℕ)) (before : ArePairs v books c r (take k parts) pairs indexes) where
  pub refused_at : {X : Type 0} (of : X → List (ℕ × IdMessage)) (fault : EventFault) → PairAnswers v books c r part (Err fault) → PairsAnswer v books c r parts (Err fault) of
  refused_at of fault answer given steps stand =
      refused fault books.lists.records (pair_of (wiring_of v) given (execution_in stand) (instance_at (wiring_of v) c r) part) (pairs_of (wiring_of v) given (execution_in stand) (instance_at (wiring_of v) c r) parts) of (answer given steps stand)
      (λ refusal e. ap (pairs_of (wiring_of v) given (execution_in stand) (instance_at (wiring_of v) c r)) (sym (parts-from parts k part less is))
      ∙ pairs-refused (wiring_of v) given (execution_in stand) (instance_at (wiring_of v) c r) (take k parts) part (drop (k + 1) parts) (batch_with_ids books.lists.records pairs) refusal (before.are given steps stand) e)

  pub pushed_at : (n : ℕ) (m : IdMessage) → PairAnswers v books c r part (Ok (n, m)) → StandsAt v (instance_for v c r) (read_lists books.lists) n part.sent.index (message_with_id books.lists.records m)
      → ArePairs v books c r (take (k + 1) parts) (pairs ++ (n, m) ∷ []) (indexes ++ (n, part.sent.index) ∷ [])
  pushed_at n m answer at =
      let longer : take (k + 1) parts ≡ take k parts ++ part ∷ [] = take_more parts k part less ∙ ap (λ p. take k parts ++ p ∷ []) (sym is) in
      let joined : batch_with_ids books.lists.records (pairs ++ (n, m) ∷ []) ≡ batch_with_ids books.lists.records pairs ++ (n, message_with_id books.lists.records m) ∷ [] = map-append (pair_with_id books.lists.records) pairs ((n, m) ∷ []) in
      record {
        are = λ given steps stand.
            ap (pairs_of (wiring_of v) given (execution_in stand) (instance_at (wiring_of v) c r)) longer
            ∙ pairs-more (wiring_of v) given (execution_in stand) (instance_at (wiring_of v) c r) (take k parts) part (batch_with_ids books.lists.records pairs) (n, message_with_id books.lists.records m) (before.are given steps stand) (answer given steps stand)
            ∙ ap (λ l. Ok l) (sym joined);
        indexes_are =
            subst (λ l. HaveIndexes v (instance_for v c r) (read_lists books.lists) l (indexes ++ (n, part.sent.index) ∷ [])) (sym joined)
            (indexes-more v (instance_for v c r) (read_lists books.lists) (batch_with_ids books.lists.records pairs) indexes n part.sent.index (message_with_id books.lists.records m) before.indexes_are at);
      }

  -- so the lists of the loop are after a part more
  pub pushed_so_far : (n : ℕ) (m : IdMessage) (index : ℕ) (longer : List (ℕ × IdMessage)) (known : List (ℕ × ℕ)) → PairAnswers v books c r part (Ok (n, m)) → StandsAt v (instance_for v c r) (read_lists books.lists) n part.sent.index (message_with_id books.lists.records m)
      → longer ≡ pairs ++ (n, m) ∷ [] → known ≡ indexes ++ (n, index) ∷ [] → index ≡ part.sent.index → ArePairs v books c r (take (k + 1) parts) longer known
  pushed_so_far n m index longer known answer at pairs_are indexes_are same =
      subst (λ l. ArePairs v books c r (take (k + 1) parts) l known) (sym pairs_are)
      (subst (λ l. ArePairs v books c r (take (k + 1) parts) (pairs ++ (n, m) ∷ []) l) (sym (indexes_are ∙ ap (λ i. indexes ++ (n, i) ∷ []) same)) (pushed_at n m answer at))

-- what holds of all holds with one more of which it holds
pub all_pushed : {X : Type 0} (P : X → Type 0) (xs longer : List X) (x : X) → longer ≡ xs ++ x ∷ [] → All P xs → P x → All P longer
all_pushed P xs longer x is all one k d less = elim (Has-append_cases (get_or longer k d) xs (x ∷ []) (subst (λ l. Has (get_or longer k d) l) is (Has-get_or longer k d less))) [
  | inl old ↦ All-of_member P xs (get_or longer k d) all old
  | inr more ↦ elim more [ inl same ↦ subst P same one | inr none ↦ absurd none ]
]

-- no part yet, and all parts
pub none_so_far : (v : View) (books : Books) (c r : ℕ) (parts : List Part) → ArePairs v books c r (take 0 parts) [] []
none_so_far v books c r parts = record {
  are = λ given steps stand. refl;
  indexes_are = record { sound = λ feed index h. absurd h; whole = λ feed message h. absurd h };
}

pub all_so_far : (v : View) (books : Books) (c r : ℕ) (parts : List Part) (k : ℕ) (pairs : List (ℕ × IdMessage)) (indexes : List (ℕ × ℕ)) → length parts ≤ k → ArePairs v books c r (take k parts) pairs indexes → ArePairs v books c r parts pairs indexes
all_so_far v books c r parts k pairs indexes past before = subst (λ ps. ArePairs v books c r ps pairs indexes) (take_all k parts past) before

-- a part alone
module _ (v : View) (books : Books) (c r : ℕ) (parts : List Part) (part : Part) (some : 0 < length parts) (is : part ≡ get_or parts 0 part) where
  pub refused_alone : {X : Type 0} (of : X → List (ℕ × IdMessage)) (fault : EventFault) → PairAnswers v books c r part (Err fault) → PairsAnswer v books c r parts (Err fault) of
  refused_alone of fault answer = refused_at v books c r parts 0 part some is [] [] (none_so_far v books c r parts) of fault answer

  pub pair_alone : (n : ℕ) (m : IdMessage) (index : ℕ) → length parts ≤ 1 → PairAnswers v books c r part (Ok (n, m)) → StandsAt v (instance_for v c r) (read_lists books.lists) n part.sent.index (message_with_id books.lists.records m) → index ≡ part.sent.index
      → ArePairs v books c r parts ((n, m) ∷ []) ((n, index) ∷ [])
  pair_alone n m index one answer at same =
      all_so_far v books c r parts 1 ((n, m) ∷ []) ((n, index) ∷ []) one
      (pushed_so_far v books c r parts 0 part some is [] [] (none_so_far v books c r parts) n m index ((n, m) ∷ []) ((n, index) ∷ []) answer at refl refl same)

-- a refusal is the same, whatever the pairs would have been
read_alike : {A B X : Type 0} (f : A → X) (g : B → X) (asked : Result X Refusal) (fault : EventFault) → IsReadAs f asked (Err fault) → IsReadAs g asked (Err fault)
read_alike f g asked NoInstance is = is
read_alike f g asked NoMessage is = is
read_alike f g asked NothingToTake is = is
read_alike f g asked TooManyRows is = is
read_alike f g asked TooManyMessages is = is
read_alike f g asked NoMemory is = is

pub refused_alike : {A B : Type 0} (v : View) (books : Books) (c r : ℕ) (parts : List Part) (of : A → List (ℕ × IdMessage)) (by : B → List (ℕ × IdMessage)) (fault : EventFault) → PairsAnswer v books c r parts (Err fault) of → PairsAnswer v books c r parts (Err fault) by
refused_alike v books c r parts of by fault answer given steps stand =
    read_alike (λ x. batch_with_ids books.lists.records (of x)) (λ x. batch_with_ids books.lists.records (by x)) (pairs_of (wiring_of v) given (execution_in stand) (instance_at (wiring_of v) c r) parts) fault (answer given steps stand)
