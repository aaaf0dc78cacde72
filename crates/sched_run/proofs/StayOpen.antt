-- After the event of a work what was open on a lane is open still, but for what the work makes stale there.
--
-- An instance hears one pair more, of the feed and the message of the work: an index of another feed isn't that of a pair of
-- this one, and one index of a list is that of a message. A log gets an entry more at a port, and no other log does.
use Rattle.std.proofs.Common.{◌≡◌, ◌<◌, ◌==◌, ◌&&◌, ◌||◌, not, ℕ, Bool, true, false, Option, None, Some, List, [], ◌∷◌, ◌++◌, length, slice_get, refl, ap, ◌∙◌, sym, subst, append-nil, arith}
use Rattle.std.specs.Prelude.{Ok, if◌then◌else◌}
use Rattle.std.specs.List.{list_any, range_with_len}
use Rattle.std.specs.Option.{option_map_or, option_and_then}
use Rattle.std.proofs.lemmas.Bool.{and_from, and_parts, eq-eqb, eqb-true, false_from_ne_true}
use Rattle.std.proofs.lemmas.List.Folds.{list_any-append}
use Rattle.std.proofs.lemmas.Option.{get_or_from_slice_get}
use Rattle.blz_value.specs.Members.{Has}
use Rattle.blz_value.specs.Record.{Row}
use Rattle.blz_value.specs.Message.{is_same_row}
use Rattle.blz_value.proofs.Membership.{Has-from_filter}
use Rattle.blz_value.proofs.Ranges.{Has-from_below as below_is}
use Rattle.inbox.proofs.TimestepLemmas.UnderSeal.{all_pairs-more as pairs_with}
use Rattle.topo_forms.specs.Data.{Data}
use Rattle.topo_forms.specs.Feeds.{Feed, no_feed}
use Rattle.topo_forms.specs.Messages.{Message, row, seal, row_in}
use Rattle.topo_forms.specs.View.{is_order_mode}
use Rattle.messages.specs.Messages.{Batch, Pair, Entry, all_pairs, is_same_entry, is_same_pair, with_new}
use Rattle.inbox.specs.Wiring.{Wiring, instance_at, is_sequencer, is_there}
use Rattle.inbox.specs.Lives.{Lives, hear_batch, take_entry}
use Rattle.inbox.specs.Events.{Step, event, no_instance, nothing_to_take}
use Rattle.inbox.specs.Executions.{Execution, after_event, after_taking, emitted_list, execution_of, is_hearing, pair_of, pairs_of, result_and_then, with_lives, with_logged}
use Rattle.inbox.specs.Growth.{Continues, IsExtendedBy, feed_numbered}
use Rattle.inbox.proofs.Executions.Lengthening.{history_grows, with_logged-lives}
use Rattle.inbox.proofs.Executions.Results.{Ok_same, and_then_Ok, if_Ok}
use Rattle.inbox.proofs.Executions.Sent.{IsPairOf, feed_of-is, pair_of-is}
use Rattle.inbox.proofs.Lists.Repeats.{no_repeats-emitted_list}
use Rattle.messages.proofs.MessagesLemmas.{is_same_pair-is}
use Rattle.sched_turns.specs.Windows.{IsWindow, Looked, OthersAreOpen, may_be_stale}
use Rattle.sched_turns.specs.declared.windows.Stale.{Stale}
use Rattle.sched_turns.specs.declared.windows.Stale.TheVariants.{Nothing, Place, Everything}
use Rattle.sched_net.proofs.HeardBatch.{one_index}
use Rattle.sched_run.specs.Made.{is_open_in, is_undelivered, is_unordered, lane_list, part_on}
use Rattle.sched_run.specs.Code.Stale.{is_same_feed, stale_between, stale_on}
use Rattle.sched_run.specs.Code.Works.{work_event}
use Rattle.sched_run.specs.declared.lanes.Lane.{Lane}
use Rattle.sched_run.specs.declared.lanes.Lane.TheVariants.{Deliver, Order}
use Rattle.sched_run.specs.declared.works.Work.{Work}
use Rattle.sched_run.specs.declared.works.Work.TheVariants.{Message as Comes, Take}
use Rattle.sched_run.proofs.FrontsLemmas.{front_get}
use Rattle.sched_run.proofs.LanesKnown.{IsLaneIn}
use Rattle.sched_run.proofs.OpenBefore.{OpensOnlyNew}

-- ---- one index

still_open : {X : Type 0} (o : Option X) (p q : X → Bool) → ((m : X) → o ≡ Some m → p m ≡ true → q m ≡ true) → option_map_or p o false ≡ true → option_map_or q o false ≡ true
still_open None p q so e = e
still_open (Some m) p q so e = so m refl e

none_more : (a b : Bool) → b ≡ false → not a ≡ true → not (a || b) ≡ true
none_more true b is e = e
none_more false b is e = ap not is

none_added : (a b : Bool) → b ≡ false → (a || (b || false)) ≡ a
none_added true b e = refl
none_added false b e = ap (λ z. z || false) e

-- a message that wasn't heard and isn't among the new pairs
undelivered_still : (known new later : List Pair) (n : ℕ) (list longer : List Message) (index : ℕ) → known ++ new ≡ later → Continues list longer → index < length list
    → ((m : Message) → slice_get list index ≡ Some m → list_any (is_same_pair (n, m)) new ≡ false) → is_undelivered known n list index ≡ true → is_undelivered later n longer index ≡ true
undelivered_still known new later n list longer index becomes on within apart is_open =
    ap (λ o. option_map_or (λ m. not (list_any (is_same_pair (n, m)) later)) o false) (front_get list longer index on within)
    ∙ still_open (slice_get list index) (λ m. not (list_any (is_same_pair (n, m)) known)) (λ m. not (list_any (is_same_pair (n, m)) later))
    (λ m at none.
    ap not (ap (list_any (is_same_pair (n, m))) (sym becomes) ∙ list_any-append (is_same_pair (n, m)) known new)
    ∙ none_more (list_any (is_same_pair (n, m)) known) (list_any (is_same_pair (n, m)) new) (apart m at) none)
    is_open

-- a record that a log hasn't at a port, where it has what it had
unordered_still : (log later : List Entry) (port : ℕ) (list longer : List Message) (index : ℕ) → ((r : Row) → list_any (is_same_entry (port, r)) later ≡ list_any (is_same_entry (port, r)) log) → Continues list longer → index < length list → is_unordered log port list index ≡ true → is_unordered later port longer index ≡ true
unordered_still log later port list longer index same on within is_open =
    ap (λ o. option_map_or (λ r. not (list_any (is_same_entry (port, r)) later)) (option_and_then row_in o) false) (front_get list longer index on within)
    ∙ still_open (option_and_then row_in (slice_get list index)) (λ r. not (list_any (is_same_entry (port, r)) log)) (λ r. not (list_any (is_same_entry (port, r)) later)) (λ r at none. ap not (same r) ∙ none) is_open

-- ---- one lane

-- each index that was open is so still, unless it may be stale
abbrev pub StaysOpen : Wiring → Data → (x y : Execution) → Lane → Stale → Type 0
StaysOpen w given x y lane stale = (index : ℕ) → index < length (lane_list w given x lane) → may_be_stale stale index ≡ false → is_open_in w given x lane index ≡ true → is_open_in w given y lane index ≡ true

differ : {b : Bool} → b ≡ true → b ≡ false → ⊥
differ {b} e f = let no : true ≡ false = sym e ∙ f in cc

-- a feed of an instance by its number
feed_at : (w : Wiring) (c r n : ℕ) (feed : Feed) → slice_get (instance_at w c r).feeds n ≡ Some feed → feed_numbered (instance_at w c r) n ≡ feed
feed_at w c r n feed at = get_or_from_slice_get (instance_at w c r).feeds n feed no_feed at

module _ (w : Wiring) (given : Data) (x y : Execution) (grows : IsExtendedBy w given x y) where
  abbrev heard : Execution → (c r : ℕ) → List Batch
  heard z c r = (z.lives c r).last.heard

  -- an instance that heard nothing more
  heard_same : (c r n : ℕ) (feed : Feed) (stale : Stale) → heard y c r ≡ heard x c r → StaysOpen w given x y (Deliver c r n feed) stale
  heard_same c r n feed stale same index within fresh is_open =
      undelivered_still (all_pairs (heard x c r)) [] (all_pairs (heard y c r)) n (lane_list w given x (Deliver c r n feed)) (lane_list w given y (Deliver c r n feed)) index
      (append-nil (all_pairs (heard x c r)) ∙ ap all_pairs (sym same)) (grows.lists feed.stream feed.sender) within (λ m at. refl) is_open

  -- a log that has at the port of a lane what it had
  logged_alike : (c : ℕ) (feed : Feed) (stale : Stale) → ((r : Row) → list_any (is_same_entry (feed.port, r)) (y.logs c) ≡ list_any (is_same_entry (feed.port, r)) (x.logs c)) → StaysOpen w given x y (Order c feed) stale
  logged_alike c feed stale same index within fresh is_open =
      unordered_still (x.logs c) (y.logs c) feed.port (lane_list w given x (Order c feed)) (lane_list w given y (Order c feed)) index same (grows.lists feed.stream feed.sender) within is_open

  -- a log that got nothing more
  logged_same : (c : ℕ) (feed : Feed) (stale : Stale) → y.logs c ≡ x.logs c → StaysOpen w given x y (Order c feed) stale
  logged_same c feed stale same = logged_alike c feed stale (λ r. ap (list_any (is_same_entry (feed.port, r))) same)

  -- ---- a message is heard

  module _ (c r n : ℕ) (feed : Feed) (index : ℕ) (pair : Pair) (is : IsPairOf w given x (instance_at w c r) (part_on feed index) pair) (becomes : with_lives c r (hear_batch (pair ∷ [])) x ≡ y) where
    module _ (c' r' n' : ℕ) (other : Feed) (at : slice_get (instance_at w c' r').feeds n' ≡ Some other) where
      heard_becomes : (b : Bool) → (c' == c && r' == r) ≡ b → heard y c' r' ≡ (if b then hear_batch (pair ∷ []) (x.lives c' r') else x.lives c' r').last.heard
      heard_becomes b e =
          sym (ap (λ (z : Execution). heard z c' r') becomes)
          ∙ ap (λ t. (if t then hear_batch (pair ∷ []) (x.lives c' r') else x.lives c' r').last.heard) e

      -- the same pair is of the same feed, and of the same index
      stale_if_same : (k : ℕ) (m : Message) → (c' == c && r' == r) ≡ true → slice_get (lane_list w given x (Deliver c' r' n' other)) k ≡ Some m → is_same_pair (n', m) pair ≡ true
          → may_be_stale (stale_between (Deliver c r n feed) index (Deliver c' r' n' other)) k ≡ true
      stale_if_same k m here found same =
          let both = and_parts (c' == c) (r' == r) here in
          let own_c : c' ≡ c = eqb-true c' c both.0 in
          let own_r : r' ≡ r = eqb-true r' r both.1 in
          let one : (n', m) ≡ pair = is_same_pair-is (n', m) pair same in
          let number : n' ≡ pair.0 = ap (λ (p : Pair). p.0) one in
          let message : m ≡ pair.1 = ap (λ (p : Pair). p.1) one in
          let of_part = feed_of-is (instance_at w c r) (part_on feed index) pair.0 is.feed in
          let own : feed_numbered (instance_at w c r) pair.0 ≡ other =
          ap (λ a. feed_numbered (instance_at w a r) pair.0) (sym own_c) ∙ ap (λ a. feed_numbered (instance_at w c' a) pair.0) (sym own_r)
          ∙ ap (feed_numbered (instance_at w c' r')) (sym number) ∙ feed_at w c' r' n' other at in
          let port : other.port ≡ feed.port = sym (ap (λ (f : Feed). f.port) own) ∙ of_part.port in
          let stream : other.stream ≡ feed.stream = sym (ap (λ (f : Feed). f.stream) own) ∙ of_part.stream in
          let sender : other.sender ≡ feed.sender = sym (ap (λ (f : Feed). f.sender) own) ∙ of_part.sender in
          let lists : emitted_list w given x other.stream other.sender ≡ emitted_list w given x feed.stream feed.sender =
          ap (λ s. emitted_list w given x s other.sender) stream ∙ ap (emitted_list w given x feed.stream) sender in
          let sent : slice_get (emitted_list w given x other.stream other.sender) index ≡ Some m =
          ap (λ (l : List Message). slice_get l index) lists ∙ is.message ∙ ap (λ (z : Message). Some z) (sym message) in
          let at_index : k ≡ index = one_index (emitted_list w given x other.stream other.sender) k index m (no_repeats-emitted_list w given x other.stream other.sender) found sent in
          let same_feed : is_same_feed other feed ≡ true =
          and_from (other.port == feed.port) (other.stream == feed.stream && other.sender == feed.sender) (eq-eqb other.port feed.port port)
          (and_from (other.stream == feed.stream) (other.sender == feed.sender) (eq-eqb other.stream feed.stream stream) (eq-eqb other.sender feed.sender sender)) in
          ap (λ b. may_be_stale (if b then Place index else Nothing) k) (and_from (c' == c && r' == r) (is_same_feed other feed) here same_feed)
          ∙ eq-eqb k index at_index

      heard_stays : StaysOpen w given x y (Deliver c' r' n' other) (stale_between (Deliver c r n feed) index (Deliver c' r' n' other))
      heard_stays k within fresh is_open = by_place (c' == c && r' == r) refl
        where
          by_place : (b : Bool) → (c' == c && r' == r) ≡ b → is_open_in w given y (Deliver c' r' n' other) k ≡ true
          by_place false e = heard_same c' r' n' other (stale_between (Deliver c r n feed) index (Deliver c' r' n' other)) (heard_becomes false e) k within fresh is_open
          by_place true e =
              undelivered_still (all_pairs (heard x c' r')) (pair ∷ []) (all_pairs (heard y c' r')) n' (lane_list w given x (Deliver c' r' n' other)) (lane_list w given y (Deliver c' r' n' other)) k
              (sym (pairs_with (heard x c' r') (pair ∷ [])) ∙ ap all_pairs (sym (heard_becomes true e))) (grows.lists other.stream other.sender) within
              (λ m found. ap (λ b. b || false) (false_from_ne_true (is_same_pair (n', m) pair) (λ same. differ (stale_if_same k m e found same) fresh)))
              is_open

    -- on any lane
    pub hearing_stays : (lane : Lane) → IsLaneIn w lane → StaysOpen w given x y lane (stale_between (Deliver c r n feed) index lane)
    hearing_stays (Deliver c' r' n' other) there = heard_stays c' r' n' other there.numbered
    hearing_stays (Order c' other) there = logged_same c' other Nothing (sym (ap (λ (z : Execution). z.logs c') becomes))

  -- ---- a message comes to a log

  module _ (c : ℕ) (feed : Feed) (index : ℕ) (message : Message) (becomes : with_logged c feed.port message x ≡ y) where
    logs_apart : (c' : ℕ) (m : Message) → (c' == c) ≡ false → (with_logged c feed.port m x).logs c' ≡ x.logs c'
    logs_apart c' (row r) e = rw e
    logs_apart c' (seal k count) e = refl

    -- the log has at another port what it had
    port_apart : (c' port : ℕ) (m : Message) (r : Row) → (port == feed.port) ≡ false → list_any (is_same_entry (port, r)) ((with_logged c feed.port m x).logs c') ≡ list_any (is_same_entry (port, r)) (x.logs c')
    port_apart c' port (seal k count) r e = refl
    port_apart c' port (row own) r e = by_log (c' == c)
      where
        other_entry : is_same_entry (port, r) (feed.port, own) ≡ false
        other_entry = ap (λ (b : Bool). b && is_same_row r own) e

        with_one : (b : Bool) → list_any (is_same_entry (port, r)) (if b then x.logs c' else x.logs c' ++ (feed.port, own) ∷ []) ≡ list_any (is_same_entry (port, r)) (x.logs c')
        with_one true = refl
        with_one false = list_any-append (is_same_entry (port, r)) (x.logs c') ((feed.port, own) ∷ []) ∙ none_added (list_any (is_same_entry (port, r)) (x.logs c')) (is_same_entry (port, r) (feed.port, own)) other_entry

        by_log : (b : Bool) → list_any (is_same_entry (port, r)) (if b then with_new is_same_entry (x.logs c') (feed.port, own) else x.logs c') ≡ list_any (is_same_entry (port, r)) (x.logs c')
        by_log false = refl
        by_log true = with_one (list_any (is_same_entry (feed.port, own)) (x.logs c'))

    pub ordering_stays : (lane : Lane) → StaysOpen w given x y lane (stale_between (Order c feed) index lane)
    ordering_stays (Deliver c' r' n' other) =
        heard_same c' r' n' other Nothing (sym (ap (λ (z : Execution). heard z c' r') becomes) ∙ ap (λ (l : Lives). l.last.heard) (with_logged-lives c feed.port message x c' r'))
    ordering_stays (Order c' other) = by_place (c' == c) (other.port == feed.port) refl refl
      where
        stale : Stale
        stale = stale_between (Order c feed) index (Order c' other)

        becomes_log : (with_logged c feed.port message x).logs c' ≡ y.logs c'
        becomes_log = ap (λ (z : Execution). z.logs c') becomes

        by_place : (b p : Bool) → (c' == c) ≡ b → (other.port == feed.port) ≡ p → StaysOpen w given x y (Order c' other) stale
        by_place true true e o k within fresh is_open = (let bad : true ≡ false = sym (ap (λ b. may_be_stale (if b then Everything else Nothing) k) (and_from (c' == c) (other.port == feed.port) e o)) ∙ fresh in cc)
        by_place true false e o k within fresh is_open = logged_alike c' other stale (λ r. ap (list_any (is_same_entry (other.port, r))) (sym becomes_log) ∙ port_apart c' other.port message r o) k within fresh is_open
        by_place false p e o k within fresh is_open = logged_same c' other stale (sym becomes_log ∙ logs_apart c' message e) k within fresh is_open

  -- ---- an entry is taken

  taken_heard : (b : Bool) (lives : Lives) → (if b then take_entry lives else lives).last.heard ≡ lives.last.heard
  taken_heard true lives = refl
  taken_heard false lives = refl

  pub taking_stays : (c r : ℕ) → with_lives c r take_entry x ≡ y → (lane : Lane) → StaysOpen w given x y lane Nothing
  taking_stays c r becomes (Deliver c' r' n' other) = heard_same c' r' n' other Nothing (sym (ap (λ (z : Execution). heard z c' r') becomes) ∙ taken_heard (c' == c && r' == r) (x.lives c' r'))
  taking_stays c r becomes (Order c' other) = logged_same c' other Nothing (sym (ap (λ (z : Execution). z.logs c') becomes))

  -- ---- the event of a work

  pub work_stays : (work : Work) → after_event w given (work_event work) x ≡ Ok y → (lane : Lane) → IsLaneIn w lane → StaysOpen w given x y lane (stale_on work lane)
  work_stays (Comes (Deliver c r n feed) index) at lane there =
      let i = instance_at w c r in
      let part = part_on feed index in
      let a = if_Ok (is_hearing w c r (part ∷ [])) (result_and_then (pairs_of w given x i (part ∷ [])) (λ pairs. Ok (with_lives c r (hear_batch pairs) x))) no_instance y at in
      let b = and_then_Ok (pairs_of w given x i (part ∷ [])) (λ pairs. Ok (with_lives c r (hear_batch pairs) x)) y a.1 in
      let p = and_then_Ok (pair_of w given x i part) (λ pair. result_and_then (pairs_of w given x i []) (λ pairs. Ok (pair ∷ pairs))) b.0 b.1 in
      let one : p.0 ∷ [] ≡ b.0 = Ok_same _ _ _ refl p.2 in
      let becomes : with_lives c r (hear_batch (p.0 ∷ [])) x ≡ y = ap (λ (pairs : Batch). with_lives c r (hear_batch pairs) x) one ∙ Ok_same _ _ _ refl b.2 in
      hearing_stays c r n feed index p.0 (pair_of-is w given x i part p.0 p.1) becomes lane there
  work_stays (Comes (Order c feed) index) at lane there =
      let part = part_on feed index in
      let a = if_Ok (is_sequencer w c) (result_and_then (pair_of w given x (instance_at w c 0) part) (λ pair. Ok (with_logged c part.port pair.1 x))) no_instance y at in
      let b = and_then_Ok (pair_of w given x (instance_at w c 0) part) (λ pair. Ok (with_logged c part.port pair.1 x)) y a.1 in
      ordering_stays c feed index b.0.1 (Ok_same _ _ _ refl b.2) lane
  work_stays (Take taker) at lane there =
      let c = taker.component in
      let r = taker.replica in
      let a = if_Ok (is_there w c r && is_order_mode (instance_at w c r).mode) (after_taking c r x) no_instance y at in
      let b = if_Ok _ (Ok (with_lives c r take_entry x)) nothing_to_take y a.1 in
      taking_stays c r (Ok_same _ _ _ refl b.1) lane

-- ---- after events

module _ (w : Wiring) (given : Data) where
  -- after a legal one
  pub event_stays : (steps : List Step) (work : Work) (x y : Execution) → execution_of w given steps ≡ Ok x → after_event w given (work_event work) x ≡ Ok y → (lane : Lane) → IsLaneIn w lane → StaysOpen w given x y lane (stale_on work lane)
  event_stays steps work x y legal at lane there = work_stays w given x y (history_grows w given steps (event (work_event work)) x y legal at) work at lane there

  -- and after one more
  pub stays_on : (x y z : Execution) (lane : Lane) (stale : Stale) → OpensOnlyNew w given x y lane → StaysOpen w given x y lane stale → StaysOpen w given y z lane stale → StaysOpen w given x z lane stale
  stays_on x y z lane stale opens first second index within fresh is_open = second index (omega (arith, within, opens.longer)) fresh (first index within fresh is_open)

  -- so a window still shows what is open, but for what is stale
  pub window_fresh : (x y : Execution) (lane : Lane) (stale : Stale) (window : Looked) → StaysOpen w given x y lane stale → IsWindow (is_open_in w given x lane) (length (lane_list w given x lane)) window → OthersAreOpen (is_open_in w given y lane) stale window.places
  window_fresh x y lane stale window stays is index has fresh =
      let kept = Has-from_filter (is_open_in w given x lane) index (range_with_len 0 window.next) (subst (Has index) is.below has) in
      stays index (omega (arith, below_is window.next index kept.0, is.inside)) fresh kept.1
