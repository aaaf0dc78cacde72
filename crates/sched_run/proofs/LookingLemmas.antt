-- What a net keeps shows which indexes of a lane are open, and whether a taker can take.
use Rattle.std.proofs.Common.{◌≡◌, ◌<◌, ◌≤◌, ◌&&◌, ℕ, Bool, true, false, not, Option, None, Some, List, [], length, get_or, slice_get, nat_lt, refl, ap, ◌∙◌, sym, subst, inl, inr, arith}
use Rattle.std.specs.Prelude.{OnOk, Result, Ok, Err}
use Rattle.std.specs.List.{All, list_any}
use Rattle.std.specs.Option.{option_map, option_map_or, option_and_then}
use Rattle.std.proofs.lemmas.Bool.{cases_lt}
use Rattle.std.proofs.lemmas.Bool.Decides.{nat_tests}
use Rattle.std.proofs.lemmas.List.{length-map}
use Rattle.std.proofs.lemmas.Option.{slice_get-get_or, slice_get-map, slice_get_past, slice_get_within, get_or_from_slice_get}
use Rattle.blz_pool.specs.Pool.{IsPool}
use Rattle.blz_value.specs.Record.{Row as Record}
use Rattle.topo_forms.specs.Data.{Data}
use Rattle.topo_forms.specs.Feeds.{Feed, no_feed}
use Rattle.topo_forms.specs.Messages.{Message, row, row_in}
use Rattle.topo_forms.specs.Valid.{IsValid}
use Rattle.topo_forms.specs.View.{View, replicas_of, is_order}
use Rattle.inbox.specs.Events.{Step}
use Rattle.inbox.specs.Executions.{emitted_list}
use Rattle.inbox.specs.Growth.{feed_numbered}
use Rattle.messages.specs.Ids.{IsGiven, message_with_id}
use Rattle.blz_pool.specs.Entries.{EntryId, entry_with_id, entries_with_ids}
use Rattle.messages.specs.Log.{AreGiven, is_same_entry_id}
use Rattle.messages.specs.Messages.{Batch, Entry, Pair, all_pairs, is_same_entry, is_same_pair}
use Rattle.inbox.specs.Wiring.{feeds_for, instance_for, wiring_of}
use Rattle.inbox.specs.declared.inbox.Inbox.{Inbox}
use Rattle.messages.specs.declared.message.Message.{Message as IdMessage}
use Rattle.messages.specs.declared.message.Message.TheVariants.{Row, Seal}
use Rattle.messages.proofs.LogLemmas.{any-with_ids, one_id}
use Rattle.sched_turns.specs.Windows.{Looked, IsWindow, MayShow, OthersAreOpen}
use Rattle.sched_turns.specs.declared.windows.Stale.{Stale}
use Rattle.messages.specs.EmittedIds.{id_in}
use Rattle.messages.specs.Lists.{read_list, read_lists, list_at}
use Rattle.messages.specs.Known.{is_known}
use Rattle.sched_net.specs.Net.{BooksStand, ShowsEar, ShowsInbox, execution_in, list_on}
use Rattle.inbox.specs.Places.{instance_place}
use Rattle.sched_net.specs.Seen.{list_seen}
use Rattle.sched_net.specs.Taking.{taken_in}
use Rattle.sched_net.specs.declared.books.Books.{Books}
use Rattle.sched_net.specs.declared.seated.Ear.{Ear}
use Rattle.sched_net.specs.declared.seated.Ear.TheVariants.{Hears, Takes}
use Rattle.sched_net.specs.declared.seated.Seated.{Seated}
use Rattle.sched_net.proofs.EmittedSeen.{seen_emitted, seen_length}
use Rattle.sched_net.proofs.LeftSeen.{known-heard, log_found}
use Rattle.sched_net.proofs.Showing.{emitted_shown, is_there-true}
use Rattle.sched_run.specs.Made.{is_undelivered, is_unordered, is_open_in}
use Rattle.sched_run.specs.Code.Looking.{is_unknown_at, is_unlogged_at, IsDelivery, IsOrdering, IsTaker, MayLook, LooksAt, TellsTake}
use Rattle.sched_run.specs.declared.lanes.Lane.TheVariants.{Deliver, Order}
use Rattle.sched_run.specs.declared.lanes.Taker.{Taker}

-- ---- windows by a test that is the same

pub window_same : (f g : ℕ → Bool) (n m : ℕ) (window : Looked) → ((k : ℕ) → f k ≡ g k) → n ≡ m → IsWindow f n window → IsWindow g m window
window_same f g n m window same e is = subst (λ k. IsWindow g k window) e (subst (λ (p : ℕ → Bool). IsWindow p n window) (λ i k. same k i) is)

shows_same : (f g : ℕ → Bool) (window : Looked) → ((k : ℕ) → f k ≡ g k) → MayShow f window → MayShow g window
shows_same f g window same is = subst (λ (p : ℕ → Bool). MayShow p window) (λ i k. same k i) is

open_same : (f g : ℕ → Bool) (stale : Stale) (places : List ℕ) → ((k : ℕ) → f k ≡ g k) → OthersAreOpen f stale places → OthersAreOpen g stale places
open_same f g stale places same are place has fresh = sym (same place) ∙ are place has fresh

-- what follows of an answer without a fault
pub on_ok_so : {A E : Type 0} (answer : Result A E) (P Q : Type 0) → (P → Q) → OnOk answer P → OnOk answer Q
on_ok_so (Ok a) P Q so is = so is
on_ok_so (Err e) P Q so is = is

-- ---- a list that an instance hears

below_is : (i n m : ℕ) → n ≡ m → i < m → nat_lt i n ≡ true
below_is i n m same less = grind (arith, nat_tests)

past_is : (i n m : ℕ) → n ≡ m → m ≤ i → nat_lt i n ≡ false
past_is i n m same more = grind (arith, nat_tests)

-- an index of which is kept whether its message was heard
unheard_at : (list : List Message) (heard : List Pair) (known : List (List ℕ)) (n count index : ℕ) → count ≡ length list → ((k : ℕ) (m : Message) → slice_get list k ≡ Some m → is_known known n k ≡ list_any (is_same_pair (n, m)) heard)
    → is_unknown_at known n count index ≡ is_undelivered heard n list index
unheard_at list heard known n count index are same = elim (cases_lt index (length list)) [
  | inl less ↦
      let m : Message = get_or list index (row []) in
      let at : slice_get list index ≡ Some m = slice_get-get_or list index (row []) less in
      ap (λ b. b && not (is_known known n index)) (below_is index count (length list) are less)
      ∙ ap not (same index m at)
      ∙ sym (ap (λ (o : Option Message). option_map_or (λ message. not (list_any (is_same_pair (n, message)) heard)) o false) at)
  | inr more ↦
      ap (λ b. b && not (is_known known n index)) (past_is index count (length list) are more)
      ∙ sym (ap (λ (o : Option Message). option_map_or (λ message. not (list_any (is_same_pair (n, message)) heard)) o false) (slice_get_past list index more))
]

-- ---- a list that comes to a log

-- a message by its id
unordered_at : (records : List Record) (log : List EntryId) (port : ℕ) (messages : List IdMessage) (index : ℕ) → IsPool records → AreGiven records log → All (IsGiven records) messages
    → is_unlogged_at log port messages index ≡ is_unordered (entries_with_ids records log) port (read_list records messages) index
unordered_at records log port messages index pool logged given =
    by_message (slice_get messages index) refl
    ∙ sym (ap (λ (o : Option Message). option_map_or (λ r. not (list_any (is_same_entry (port, r)) (entries_with_ids records log))) (option_and_then row_in o) false) (slice_get-map (message_with_id records) messages index))
  where
    by_message : (o : Option IdMessage) → slice_get messages index ≡ o
        → is_unlogged_at log port messages index ≡ option_map_or (λ r. not (list_any (is_same_entry (port, r)) (entries_with_ids records log))) (option_and_then row_in (option_map (message_with_id records) (slice_get messages index))) false
    by_message None at =
        ap (λ (o : Option IdMessage). option_map_or (λ id. not (list_any (is_same_entry_id (port, id)) log)) (option_and_then id_in o) false) at
        ∙ sym (ap (λ (o : Option IdMessage). option_map_or (λ r. not (list_any (is_same_entry (port, r)) (entries_with_ids records log))) (option_and_then row_in (option_map (message_with_id records) o)) false) at)
    by_message (Some (Row id)) at =
        let less : index < length messages = slice_get_within messages index (Row id) at in
        let own : get_or messages index (Row id) ≡ Row id = get_or_from_slice_get messages index (Row id) (Row id) at in
        let within : id < length records = subst (IsGiven records) own (given index (Row id) less) in
        ap (λ (o : Option IdMessage). option_map_or (λ i. not (list_any (is_same_entry_id (port, i)) log)) (option_and_then id_in o) false) at
        ∙ ap not (sym (any-with_ids records (port, id) log (one_id records pool id within) logged))
        ∙ sym (ap (λ (o : Option IdMessage). option_map_or (λ r. not (list_any (is_same_entry (port, r)) (entries_with_ids records log))) (option_and_then row_in (option_map (message_with_id records) o)) false) at)
    by_message (Some (Seal key count)) at =
        ap (λ (o : Option IdMessage). option_map_or (λ id. not (list_any (is_same_entry_id (port, id)) log)) (option_and_then id_in o) false) at
        ∙ sym (ap (λ (o : Option IdMessage). option_map_or (λ r. not (list_any (is_same_entry (port, r)) (entries_with_ids records log))) (option_and_then row_in (option_map (message_with_id records) o)) false) at)

-- ---- lanes

module _ (v : View) (b : Books) (valid : IsValid v) where
  module _ (c r n : ℕ) (feed : Feed) (is : IsDelivery v c r n feed) (seated : Seated) (at : slice_get b.seats.items (instance_place v c r) ≡ Some seated) (inbox : Inbox) (known : List (List ℕ)) (ear : seated.ear ≡ Hears inbox known) (messages : List IdMessage) (are : messages ≡ list_seen v b.lists.lists feed.stream feed.sender) (count : ℕ) (many : count ≡ length messages) where
    pub heard_open : (given : Data) (steps : List Step) (stand : BooksStand v given steps b) (index : ℕ) → is_unknown_at known n count index ≡ is_open_in (wiring_of v) given (execution_in stand) (Deliver c r n feed) index
    heard_open given steps stand index =
        unheard_at list (all_pairs ((execution_in stand).lives c r).last.heard) known n count index (many ∙ seen_length v given steps b stand valid feed.stream feed.sender is.is.sender messages are)
        (λ k m found. subst (λ (batches : List Batch). is_known known n k ≡ list_any (is_same_pair (n, m)) (all_pairs batches)) (stand.stands.stands.seats c r (is_there-true v c r is.is.there is.within)).heard
        (known-heard v (instance_for v c r) (read_lists b.lists) (all_pairs (stand.seats.seats c r).heard) known n k m shows.known less (subst (λ l. slice_get l k ≡ Some m) (sym on) found)))
      where
        list : List Message
        list = emitted_list (wiring_of v) given (execution_in stand) feed.stream feed.sender

        shows : ShowsInbox v b.lists c r (stand.seats.seats c r) inbox known
        shows = subst (ShowsEar v b.lists c r (stand.seats.seats c r)) ear (stand.instances.each c r seated is.is.there is.within at).ear

        less : n < length (feeds_for v c r)
        less = slice_get_within (feeds_for v c r) n feed is.numbered

        on : list_on v (read_lists b.lists) (feed_numbered (instance_for v c r) n) ≡ list
        on =
            ap (list_on v (read_lists b.lists)) (get_or_from_slice_get (feeds_for v c r) n feed no_feed is.numbered)
            ∙ emitted_shown v given (execution_in stand) stand.seats stand.tables (read_lists b.lists) valid stand.stands.stands stand.shows feed.stream feed.sender is.is.stream is.is.sender

    pub may_look_heard : (stale : Stale) (window : Looked) → MayLook v b (Deliver c r n feed) stale window → (window.next ≤ count) × MayShow (is_unknown_at known n count) window × OthersAreOpen (is_unknown_at known n count) stale window.places
    may_look_heard stale window may =
        let long = many ∙ seen_length v may.given may.steps b may.stand valid feed.stream feed.sender is.is.sender messages are in (
          omega (arith, may.inside, long),
          shows_same (is_open_in (wiring_of v) may.given (execution_in may.stand) (Deliver c r n feed)) (is_unknown_at known n count) window (λ k. sym (heard_open may.given may.steps may.stand k)) may.shown,
          open_same (is_open_in (wiring_of v) may.given (execution_in may.stand) (Deliver c r n feed)) (is_unknown_at known n count) stale window.places (λ k. sym (heard_open may.given may.steps may.stand k)) may.fresh,
        )

    pub looks_heard : (window : Looked) → IsWindow (is_unknown_at known n count) count window → LooksAt v b (Deliver c r n feed) window
    looks_heard window own given steps stand =
        window_same (is_unknown_at known n count) (is_open_in (wiring_of v) given (execution_in stand) (Deliver c r n feed)) count (length (emitted_list (wiring_of v) given (execution_in stand) feed.stream feed.sender)) window
        (heard_open given steps stand) (many ∙ seen_length v given steps b stand valid feed.stream feed.sender is.is.sender messages are) own

  module _ (c : ℕ) (feed : Feed) (is : IsOrdering v c feed) (log : List EntryId) (at : log ≡ get_or b.logs.items c log) (messages : List IdMessage) (are : messages ≡ list_seen v b.lists.lists feed.stream feed.sender) (count : ℕ) (many : count ≡ length messages) (pool : IsPool b.lists.records) (given_ids : All (IsGiven b.lists.records) messages) where
    logged_open : (given : Data) (steps : List Step) (stand : BooksStand v given steps b) (index : ℕ) → is_unlogged_at log feed.port messages index ≡ is_open_in (wiring_of v) given (execution_in stand) (Order c feed) index
    logged_open given steps stand index =
        let found : log ≡ list_at b.logs.items c = log_found v given steps b stand c log is.is.there at in
        let logged : AreGiven b.lists.records log = subst (AreGiven b.lists.records) (sym found) (stand.logs.given c is.is.there) in
        unordered_at b.lists.records log feed.port messages index pool logged given_ids
        ∙ ap (λ (entries : List Entry). is_unordered entries feed.port (read_list b.lists.records messages) index) (ap (entries_with_ids b.lists.records) found ∙ stand.logs.each c is.is.there ∙ stand.stands.stands.logs c)
        ∙ ap (λ (list : List Message). is_unordered ((execution_in stand).logs c) feed.port list index) (ap (read_list b.lists.records) are ∙ seen_emitted v given steps b stand valid feed.stream feed.sender is.is.sender)

    pub may_look_logged : (stale : Stale) (window : Looked) → MayLook v b (Order c feed) stale window → (window.next ≤ count) × MayShow (is_unlogged_at log feed.port messages) window × OthersAreOpen (is_unlogged_at log feed.port messages) stale window.places
    may_look_logged stale window may =
        let long = many ∙ seen_length v may.given may.steps b may.stand valid feed.stream feed.sender is.is.sender messages are in (
          omega (arith, may.inside, long),
          shows_same (is_open_in (wiring_of v) may.given (execution_in may.stand) (Order c feed)) (is_unlogged_at log feed.port messages) window (λ k. sym (logged_open may.given may.steps may.stand k)) may.shown,
          open_same (is_open_in (wiring_of v) may.given (execution_in may.stand) (Order c feed)) (is_unlogged_at log feed.port messages) stale window.places (λ k. sym (logged_open may.given may.steps may.stand k)) may.fresh,
        )

    pub looks_logged : (window : Looked) → IsWindow (is_unlogged_at log feed.port messages) count window → LooksAt v b (Order c feed) window
    looks_logged window own given steps stand =
        window_same (is_unlogged_at log feed.port messages) (is_open_in (wiring_of v) given (execution_in stand) (Order c feed)) count (length (emitted_list (wiring_of v) given (execution_in stand) feed.stream feed.sender)) window
        (logged_open given steps stand) (many ∙ seen_length v given steps b stand valid feed.stream feed.sender is.is.sender messages are) own

-- an instance that hears isn't one that takes
pub takes_nothing : (v : View) (b : Books) (given : Data) (steps : List Step) (stand : BooksStand v given steps b) (c r taken : ℕ) (seated : Seated) → c < length v.components → r < replicas_of v c → is_order v c ≡ false → slice_get b.seats.items (instance_place v c r) ≡ Some seated → seated.ear ≡ Takes taken → ⊥
takes_nothing v b given steps stand c r taken seated there within free at is =
    let shows : ShowsEar v b.lists c r (stand.seats.seats c r) (Takes taken) = subst (ShowsEar v b.lists c r (stand.seats.seats c r)) is (stand.instances.each c r seated there within at).ear in
    let bad : false ≡ true = sym free ∙ shows.0 in cc

-- ---- takers

module _ (v : View) (b : Books) (given : Data) (steps : List Step) (stand : BooksStand v given steps b) where
  -- how many entries a replica of an Order component took
  pub took : (c r : ℕ) (seated : Seated) → c < length v.components → r < replicas_of v c → is_order v c ≡ true → slice_get b.seats.items (instance_place v c r) ≡ Some seated → taken_in seated.ear ≡ ((execution_in stand).lives c r).last.taken
  took c r seated there within order at = by_ear seated.ear (stand.instances.each c r seated there within at).ear
    where
      by_ear : (ear : Ear) → ShowsEar v b.lists c r (stand.seats.seats c r) ear → taken_in ear ≡ ((execution_in stand).lives c r).last.taken
      by_ear (Hears inbox known) shows = (let bad : false ≡ true = sym shows.hears ∙ order in cc)
      by_ear (Takes taken) shows = shows.1 ∙ (stand.stands.stands.seats c r (is_there-true v c r there within)).taken

  entries : (c : ℕ) (log : List EntryId) → c < length v.components → log ≡ get_or b.logs.items c log → length log ≡ length ((execution_in stand).logs c)
  entries c log there at =
      ap (λ (l : List EntryId). length l) (log_found v given steps b stand c log there at)
      ∙ sym (length-map (list_at b.logs.items c) (entry_with_id b.lists.records))
      ∙ ap (λ (l : List Entry). length l) (stand.logs.each c there ∙ stand.stands.stands.logs c)

pub tells_take : (v : View) (b : Books) (taker : Taker) (is : IsTaker v taker) (seated : Seated) (log : List EntryId) (taken count : ℕ) (answer : Bool) → slice_get b.seats.items (instance_place v taker.component taker.replica) ≡ Some seated → log ≡ get_or b.logs.items taker.component log
    → taken ≡ taken_in seated.ear → count ≡ length log → answer ≡ nat_lt taken count → TellsTake v b taker answer
tells_take v b taker is seated log taken count answer at own took_is many tested given steps stand =
    tested
    ∙ ap (λ n. nat_lt n count) (took_is ∙ took v b given steps stand taker.component taker.replica seated is.there is.within is.order at)
    ∙ ap (nat_lt ((execution_in stand).lives taker.component taker.replica).last.taken) (many ∙ entries v b given steps stand taker.component log is.there own)
