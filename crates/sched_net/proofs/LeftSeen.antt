-- What a net counts as left is what is left in the execution for which its books stand.
use Rattle.std.proofs.Common.{◌≡◌, ◌<◌, ◌≤◌, ◌+◌, ◌-◌, ◌==◌, ◌&&◌, ℕ, Bool, true, false, not, Option, None, Some, List, [], length, map, filter, get_or, slice_get, refl, ap, ◌∙◌, sym, subst, inl, inr, arith}
use Rattle.std.specs.Prelude.{if◌then◌else◌, IsTrue, ◌↔◌}
use Rattle.std.specs.List.{All, enumerate_from, flat_map, list_any, sum_by}
use Rattle.std.specs.Option.{option_and_then, option_map_or}
use Rattle.std.proofs.lemmas.Bool.{cases_lt, and_parts, and_from, eqb-true, eq-eqb, ne_eqb}
use Rattle.std.proofs.lemmas.List.{length-map, get_or_default, get_or_past}
use Rattle.std.proofs.lemmas.List.FromFn.{length-range_with_len}
use Rattle.std.proofs.lemmas.Option.{none-some, slice_get_within}
use Rattle.std.proofs.lemmas.List.Sums.{sum_by-le, length-filter, count_by-le-length}
use Rattle.blz_pool.specs.Pool.{IsPool}
use Rattle.blz_value.specs.Members.{Has}
use Rattle.blz_value.specs.Record.{Row as Record}
use Rattle.blz_value.proofs.Membership.{Has-get_or, Has-map, all_from, all_member}
use Rattle.topo_forms.specs.Data.{Data}
use Rattle.topo_forms.specs.Feeds.{Feed, no_feed, are_paired, feeds, feeds_at, feeds_from, log_feeds, paired_senders}
use Rattle.topo_forms.specs.Messages.{Message, rows_in}
use Rattle.blz_value.specs.NumberSets.{below}
use Rattle.blz_value.proofs.Booleans.{same_truth}
use Rattle.blz_value.proofs.Ranges.{Has-below}
use Rattle.topo_forms.specs.Valid.{IsValid, IsWhole, Validated}
use Rattle.topo_forms.specs.Bounded.{IsBounded}
use Rattle.topo_forms.specs.View.{View, End, Stream, no_stream, component_at, goes_to, origin_of, port_numbers, replicas_of, senders_of, stream_numbers, stream_replicas, streams_to, is_order, is_order_mode}
use Rattle.topo_forms.specs.ViewOf.{modules_in}
use Rattle.topo_forms.proofs.Views.ViewBounds.{view_bounded}
use Rattle.inbox.specs.Completeness.{IsComplete, held_count_at, unheard, undelivered, unordered, untaken, left_of, left_out, left_at, left_count}
use Rattle.inbox.specs.Events.{Step}
use Rattle.inbox.specs.Executions.{Execution, emitted_list}
use Rattle.inbox.specs.Growth.{feed_numbered}
use Rattle.messages.specs.EmittedIds.{id_in}
use Rattle.messages.specs.Ids.{IsGiven}
use Rattle.inbox.specs.Instances.{Instance}
use Rattle.blz_pool.specs.Entries.{EntryId, entry_with_id, entries_with_ids}
use Rattle.messages.specs.Log.{AreGiven, IsLog, is_same_entry_id}
use Rattle.messages.specs.Messages.{Batch, Entry, Pair, all_pairs, is_same_entry, is_same_pair}
use Rattle.inbox.specs.Wiring.{feeds_for, instances_at, instance_at, instance_for, is_sequencer, is_there, wiring_of}
use Rattle.inbox.specs.declared.inbox.Inbox.{Inbox}
use Rattle.messages.specs.declared.message.Message.{Message as IdMessage}
use Rattle.messages.specs.declared.message.Message.TheVariants.{Row, Seal}
use Rattle.inbox.proofs.Executions.Sent.{history_holds}
use Rattle.messages.proofs.LogLemmas.{any-with_ids, one_id}
use Rattle.messages.proofs.MessagesLemmas.{is_same_pair-is, is_same_pair-itself, any-from_same, same-from_any}
use Rattle.inbox.proofs.Ranges.{all_below, not_all_below}
use Rattle.inbox.proofs.WiringLemmas.{instance-feeds, instance-wired, instances-wired, length-below}
use Rattle.messages.specs.Lists.{read_lists, list_at}
use Rattle.messages.specs.Known.{is_known}
use Rattle.sched_net.specs.Net.{BooksStand, KnowsHeard, ShowsEar, ShowsInbox, execution_in, list_on}
use Rattle.inbox.specs.Places.{instance_place}
use Rattle.sched_net.specs.Reading.{holds_none_at, holds_none, is_complete}
use Rattle.sched_net.specs.declared.books.Books.{Books}
use Rattle.sched_net.specs.declared.seated.Ear.TheVariants.{Hears, Takes}
use Rattle.sched_net.specs.declared.seated.Seated.{Seated}
use Rattle.sched_net.specs.Seen.{list_seen}
use Rattle.sched_net.specs.Code.Remaining.{feed_list, AreWithin, unknown_on, unknown_at, unknown_in, is_unlogged, unlogged_on, unlogged_in}
use Rattle.sched_net.proofs.Counting.{numbers_counted, rows_counted, length-joined, few_entries}
use Rattle.sched_net.proofs.EmittedSeen.{seen_emitted, seen_length}
use Rattle.sched_net.proofs.HeldSeen.{component_of_replica, not_there}
use Rattle.sched_net.proofs.ListPlaces.{row_listed, id_given}
use Rattle.inbox.proofs.PlacesLemmas.{range_has}
use Rattle.sched_net.proofs.Showing.{is_there-true, emitted_shown, sums_same, sums_numbered}

-- ---- limits of a topology

pub few_ports : (seen : Validated) → IsWhole seen → (c : ℕ) → c < length seen.view.components → length (component_at seen.view c).ports ≤ 8
few_ports seen whole c there =
    let bounded : IsBounded seen.view = subst IsBounded (sym whole.is) (view_bounded seen.topology (modules_in seen.view) whole.clean) in
    bounded.ports c there

few_senders : (v : View) → IsValid v → (s : ℕ) → stream_replicas v s ≤ 8
few_senders v valid s = elim (cases_lt s (length v.streams)) [
  | inl there ↦ by_origin (origin_of v s) there refl
  | inr past ↦ (let one : stream_replicas v s ≡ 1 = ap (λ (line : Stream). senders_of v line.origin) (get_or_past v.streams s no_stream past) in omega (arith, one))
]
  where
    by_origin : (o : Option End) → s < length v.streams → origin_of v s ≡ o → stream_replicas v s ≤ 8
    by_origin None there is = (let one : stream_replicas v s ≡ 1 = ap (senders_of v) is in omega (arith, one))
    by_origin (Some spot) there is =
        let many : stream_replicas v s ≡ replicas_of v spot.0 = ap (senders_of v) is in
        omega (arith, many, (valid.components spot.0 (valid.numbered.origins s spot there is).0).few_replicas)

few_of_stream : (v : View) → IsValid v → (p s : ℕ) (senders : List ℕ) → length senders ≤ stream_replicas v s → length (feeds_from p s senders) ≤ 8
few_of_stream v valid p s senders few = omega (arith, length-map {B = Feed} senders (λ i. record { port = p; stream = s; sender = i }), few, few_senders v valid s)

few_of_port : (v : View) → IsValid v → (c p : ℕ) (senders : ℕ → List ℕ) → ((s : ℕ) → length (senders s) ≤ stream_replicas v s) → length (flat_map (λ s. feeds_from p s (senders s)) (streams_to v c p)) ≤ 512
few_of_port v valid c p senders few =
    let all = length-joined (λ s. feeds_from p s (senders s)) 8 (streams_to v c p) (λ s h. few_of_stream v valid p s (senders s) (few s)) in
    let some : length (streams_to v c p) ≤ 64 = omega (arith, length-filter (goes_to v c p) (stream_numbers v), count_by-le-length (goes_to v c p) (stream_numbers v), length-range_with_len 0 (length v.streams), valid.numbered.few_streams) in
    omega (arith, all, sum_by-le (λ s. 8) 8 (streams_to v c p) (λ k d within. omega arith), some)

few_by : (v : View) (valid : IsValid v) (c r : ℕ) → length (component_at v c).ports ≤ 8 → (b : Bool) → length (if b then log_feeds v c else feeds v c r) ≤ 4096
few_by v valid c r ports true =
    omega (
      arith,
      length-joined (λ p. flat_map (λ s. feeds_from p s (below (stream_replicas v s))) (streams_to v c p)) 512 (port_numbers v c)
          (λ p h. few_of_port v valid c p (λ s. below (stream_replicas v s)) (λ s. (let same : length (below (stream_replicas v s)) ≡ stream_replicas v s = length-range_with_len 0 (stream_replicas v s) in omega (arith, same)))),
      sum_by-le (λ p. 512) 512 (port_numbers v c) (λ k d within. omega arith),
      length-range_with_len 0 (length (component_at v c).ports),
    )
few_by v valid c r ports false =
    omega (
      arith,
      length-joined (feeds_at v c r) 512 (port_numbers v c)
          (λ p h. few_of_port v valid c p (paired_senders v c r) (λ s. (let same : length (below (stream_replicas v s)) ≡ stream_replicas v s = length-range_with_len 0 (stream_replicas v s) in omega (arith, same, length-filter (λ i. are_paired (stream_replicas v s) (replicas_of v c) i r) (below (stream_replicas v s)), count_by-le-length (λ i. are_paired (stream_replicas v s) (replicas_of v c) i r) (below (stream_replicas v s)))))),
      sum_by-le (λ p. 512) 512 (port_numbers v c) (λ k d within. omega arith),
      length-range_with_len 0 (length (component_at v c).ports),
    )

-- an instance has few feeds
pub few_feeds : (v : View) → IsValid v → (c r : ℕ) → length (component_at v c).ports ≤ 8 → length (feeds_for v c r) ≤ 4096
few_feeds v valid c r ports = few_by v valid c r ports (is_order v c)

-- ---- what is left at an instance

-- a message of a feed is known exactly where it was heard
pub known-heard : (v : View) (i : Instance) (lists : List (List Message)) (heard : List Pair) (known : List (List ℕ)) (n k : ℕ) (m : Message) → KnowsHeard v i lists heard known → n < length i.feeds → slice_get (list_on v lists (feed_numbered i n)) k ≡ Some m
    → is_known known n k ≡ list_any (is_same_pair (n, m)) heard
known-heard v i lists heard known n k m knows within at =
    same_truth (is_known known n k) (list_any (is_same_pair (n, m)) heard)
    (λ e.
    let sound = knows.sound n k e in
    let one : Some sound.0 ≡ Some m = sym sound.1 ∙ at in
    let same : sound.0 ≡ m = cc in
    any-from_same is_same_pair is_same_pair-is is_same_pair-itself (n, m) heard (subst (λ z. Has (n, z) heard) same sound.2))
    (λ e. knows.whole n k m within at (same-from_any is_same_pair is_same_pair-is is_same_pair-itself (n, m) heard e))

module _ (v : View) (given : Data) (steps : List Step) (b : Books) (stand : BooksStand v given steps b) (valid : IsValid v) (c : ℕ) (there : c < length v.components) where
  log_read : entries_with_ids b.lists.records (list_at b.logs.items c) ≡ (execution_in stand).logs c
  log_read = stand.logs.each c there ∙ stand.stands.stands.logs c

  wired : (r : ℕ) → r < replicas_of v c → instance_at (wiring_of v) c r ≡ instance_for v c r
  wired r within = instance-wired v c r there within

  first_there : 0 < replicas_of v c
  first_there = omega (arith, (valid.components c there).some_replica)

  -- the entries of a log are few
  pub few_logged : (entries : List EntryId) → IsLog entries → entries ≡ list_at b.logs.items c → IsPool b.lists.records → length (component_at v c).ports ≤ 8 → length entries ≤ 2097152
  few_logged entries once are pool ports = few_entries entries once (λ entry h.
      let log : List EntryId = list_at b.logs.items c in
      let own : Has entry log = subst (λ l. Has entry l) are h in
      let read : Has (entry_with_id b.lists.records entry) ((execution_in stand).logs c) = subst (λ l. Has (entry_with_id b.lists.records entry) l) log_read (Has-map (entry_with_id b.lists.records) entry log own) in
      let comes = (history_holds (wiring_of v) given steps (execution_in stand) stand.stands.run).logs c (entry_with_id b.lists.records entry) read in
      let into = instance-feeds v c 0 comes.feed (subst (λ (i : Instance). Has comes.feed i.feeds) (wired 0 first_there) comes.of_feed) in
      let given_id : entry.1 < length b.lists.records = stand.logs.given c there entry own in
      let few = pool.few in (
        omega (arith, into.port, comes.port, ports),
        omega (arith, given_id, few),
      ))

  -- what isn't in the log
  unlogged-there : (feed : Feed) → Has feed (feeds_for v c 0)
      → unlogged_on v b.lists.records b.lists.lists (list_at b.logs.items c) feed ≡ length (filter (λ r. not (list_any (is_same_entry (feed.port, r)) ((execution_in stand).logs c))) (rows_in (emitted_list (wiring_of v) given (execution_in stand) feed.stream feed.sender)))
  unlogged-there feed h =
      let into = instance-feeds v c 0 feed h in
      rows_counted (λ r. not (list_any (is_same_entry (feed.port, r)) (entries_with_ids b.lists.records (list_at b.logs.items c)))) b.lists.records (list_seen v b.lists.lists feed.stream feed.sender)
      ∙ ap (λ (ms : List Message). length (filter (λ r. not (list_any (is_same_entry (feed.port, r)) (entries_with_ids b.lists.records (list_at b.logs.items c)))) (rows_in ms))) (seen_emitted v given steps b stand valid feed.stream feed.sender into.sender)
      ∙ ap (λ (entries : List Entry). length (filter (λ r. not (list_any (is_same_entry (feed.port, r)) entries)) (rows_in (emitted_list (wiring_of v) given (execution_in stand) feed.stream feed.sender)))) log_read

  sequencer-is : is_sequencer (wiring_of v) c ≡ is_order v c
  sequencer-is = ap (λ (i : Instance). is_order_mode i.mode) (wired 0 first_there)

  pub unordered_is : (log : List EntryId) (own : List Feed) (left : ℕ) → is_order v c ≡ true → log ≡ list_at b.logs.items c → own ≡ feeds_for v c 0 → left ≡ unlogged_in v b.lists.records b.lists.lists log own → left ≡ left_out (wiring_of v) given (execution_in stand) c
  unordered_is log own left order logged are is =
      is
      ∙ ap (λ l. unlogged_in v b.lists.records b.lists.lists l own) logged
      ∙ ap (unlogged_in v b.lists.records b.lists.lists (list_at b.logs.items c)) are
      ∙ sums_same (unlogged_on v b.lists.records b.lists.lists (list_at b.logs.items c)) (λ feed. length (filter (λ r. not (list_any (is_same_entry (feed.port, r)) ((execution_in stand).logs c))) (rows_in (emitted_list (wiring_of v) given (execution_in stand) feed.stream feed.sender)))) 0 (feeds_for v c 0) unlogged-there
      ∙ ap (λ (i : Instance). sum_by (λ (feed : Feed). length (filter (λ r. not (list_any (is_same_entry (feed.port, r)) ((execution_in stand).logs c))) (rows_in (emitted_list (wiring_of v) given (execution_in stand) feed.stream feed.sender)))) i.feeds) (sym (wired 0 first_there))
      ∙ sym (ap (λ t. if t then unordered (wiring_of v) given (execution_in stand) c else 0) (sequencer-is ∙ order))

  pub none_unordered : is_order v c ≡ false → 0 ≡ left_out (wiring_of v) given (execution_in stand) c
  none_unordered free = sym (ap (λ t. if t then unordered (wiring_of v) given (execution_in stand) c else 0) (sequencer-is ∙ free))

  module _ (r : ℕ) (within : r < replicas_of v c) where
    mode-is : is_order_mode (instance_at (wiring_of v) c r).mode ≡ is_order v c
    mode-is = ap (λ (i : Instance). is_order_mode i.mode) (wired r within)

    unknown-there : (known : List (List ℕ)) (heard : List Pair) (n : ℕ) → KnowsHeard v (instance_for v c r) (read_lists b.lists) heard known → n < length (feeds_for v c r)
        → unknown_at v b.lists.lists known (feeds_for v c r) n ≡ length (unheard heard n (emitted_list (wiring_of v) given (execution_in stand) (get_or (feeds_for v c r) n no_feed).stream (get_or (feeds_for v c r) n no_feed).sender))
    unknown-there known heard n knows less =
        let feed : Feed = get_or (feeds_for v c r) n no_feed in
        let into = instance-feeds v c r feed (Has-get_or (feeds_for v c r) n no_feed less) in
        let messages : List Message = emitted_list (wiring_of v) given (execution_in stand) feed.stream feed.sender in
        let on : list_on v (read_lists b.lists) feed ≡ messages = emitted_shown v given (execution_in stand) stand.seats stand.tables (read_lists b.lists) valid stand.stands.stands stand.shows feed.stream feed.sender into.stream into.sender in
        ap (unknown_on known n) (seen_length v given steps b stand valid feed.stream feed.sender into.sender (list_seen v b.lists.lists feed.stream feed.sender) refl)
        ∙ numbers_counted (λ k. not (is_known known n k)) (λ m. not (list_any (is_same_pair (n, m)) heard)) messages
        (λ k m at. ap not (known-heard v (instance_for v c r) (read_lists b.lists) heard known n k m knows less (subst (λ l. slice_get l k ≡ Some m) (sym on) at)))

    pub undelivered_is : (inbox : Inbox) (known : List (List ℕ)) (own : List Feed) (left : ℕ) → ShowsInbox v b.lists c r (stand.seats.seats c r) inbox known → own ≡ feeds_for v c r → left ≡ unknown_in v b.lists.lists known own
        → left ≡ left_of (wiring_of v) given (execution_in stand) c r
    undelivered_is inbox known own left shows are is =
        let fs : List Feed = feeds_for v c r in
        let heard : List Pair = all_pairs (stand.seats.seats c r).heard in
        let seat = stand.stands.stands.seats c r (is_there-true v c r there within) in
        is
        ∙ ap (unknown_in v b.lists.lists known) are
        ∙ sums_same (unknown_at v b.lists.lists known fs) (λ n. length (unheard heard n (emitted_list (wiring_of v) given (execution_in stand) (get_or fs n no_feed).stream (get_or fs n no_feed).sender))) 0 (below (length fs)) (λ n h. unknown-there known heard n shows.known (Has-below (length fs) n h))
        ∙ sym (sums_numbered (λ n (feed : Feed). length (unheard heard n (emitted_list (wiring_of v) given (execution_in stand) feed.stream feed.sender))) no_feed fs fs 0 0 (λ k less. ap (λ n. get_or fs n no_feed) (let e : 0 + k ≡ k = omega arith in e)))
        ∙ ap (λ (batches : List Batch). sum_by (λ (place : ℕ × Feed). length (unheard (all_pairs batches) place.0 (emitted_list (wiring_of v) given (execution_in stand) place.1.stream place.1.sender))) (enumerate_from 0 fs)) seat.heard
        ∙ ap (λ (i : Instance). sum_by (λ (place : ℕ × Feed). length (unheard (all_pairs ((execution_in stand).lives c r).last.heard) place.0 (emitted_list (wiring_of v) given (execution_in stand) place.1.stream place.1.sender))) (enumerate_from 0 i.feeds)) (sym (wired r within))
        ∙ sym (ap (λ t. if t then untaken (execution_in stand) c r else undelivered (wiring_of v) given (execution_in stand) c r) (mode-is ∙ shows.hears))

    pub untaken_is : (taken left : ℕ) → is_order v c ≡ true → taken ≡ (stand.seats.seats c r).taken → left ≡ length (list_at b.logs.items c) - taken → left ≡ left_of (wiring_of v) given (execution_in stand) c r
    untaken_is taken left order took is =
        let seat = stand.stands.stands.seats c r (is_there-true v c r there within) in
        let many : length (list_at b.logs.items c) ≡ length ((execution_in stand).logs c) = sym (length-map (list_at b.logs.items c) (entry_with_id b.lists.records)) ∙ ap (λ (l : List Entry). length l) log_read in
        is
        ∙ ap (λ n. n - taken) many
        ∙ ap (λ n. length ((execution_in stand).logs c) - n) (took ∙ seat.taken)
        ∙ sym (ap (λ t. if t then untaken (execution_in stand) c r else undelivered (wiring_of v) given (execution_in stand) c r) (mode-is ∙ order))

module _ (v : View) (given : Data) (steps : List Step) (b : Books) (stand : BooksStand v given steps b) where
  -- the log of a component
  pub log_found : (c : ℕ) (log : List EntryId) → c < length v.components → log ≡ get_or b.logs.items c log → log ≡ list_at b.logs.items c
  log_found c log there at = at ∙ get_or_default b.logs.items c log [] (omega (arith, there, stand.logs.count))

  -- the feeds of an instance
  pub feeds_found : (c r : ℕ) (seated : Seated) (own : List Feed) → c < length v.components → r < replicas_of v c → slice_get b.seats.items (instance_place v c r) ≡ Some seated → own ≡ seated.feeds → own ≡ feeds_for v c r
  feeds_found c r seated own there within at are = are ∙ (stand.instances.each c r seated there within at).feeds

  module _ (valid : IsValid v) where
    pub few_found : (c r : ℕ) (seated : Seated) (own : List Feed) → c < length v.components → r < replicas_of v c → length (component_at v c).ports ≤ 8 → slice_get b.seats.items (instance_place v c r) ≡ Some seated → own ≡ seated.feeds → length own ≤ 4096
    few_found c r seated own there within ports at are = omega (arith, few_feeds v valid c r ports, ap (λ (l : List Feed). length l) (feeds_found c r seated own there within at are))

    module _ (c r : ℕ) (there : c < length v.components) (within : r < replicas_of v c) (seated : Seated) (at : slice_get b.seats.items (instance_place v c r) ≡ Some seated) where
      -- where it hears, or takes
      pub hears_left : (inbox : Inbox) (known : List (List ℕ)) → seated.ear ≡ Hears inbox known → (own : List Feed) → own ≡ seated.feeds → (left : ℕ) → left ≡ unknown_in v b.lists.lists known own → left ≡ left_of (wiring_of v) given (execution_in stand) c r
      hears_left inbox known is own are left count =
          undelivered_is v given steps b stand valid c there r within inbox known own left
          (subst (ShowsEar v b.lists c r (stand.seats.seats c r)) is (stand.instances.each c r seated there within at).ear)
          (feeds_found c r seated own there within at are) count

      -- and what it knows of a feed stands in the feed's list
      pub known_within : (inbox : Inbox) (known : List (List ℕ)) → seated.ear ≡ Hears inbox known → (own : List Feed) → own ≡ seated.feeds → AreWithin v b.lists.lists known own
      known_within inbox known is own are number index less tested =
          let fs : List Feed = feeds_for v c r in
          let mine : own ≡ fs = feeds_found c r seated own there within at are in
          let inside : number < length fs = subst (λ (l : List Feed). number < length l) mine less in
          let feed : Feed = get_or fs number no_feed in
          let into = instance-feeds v c r feed (Has-get_or fs number no_feed inside) in
          let shows : ShowsInbox v b.lists c r (stand.seats.seats c r) inbox known = subst (ShowsEar v b.lists c r (stand.seats.seats c r)) is (stand.instances.each c r seated there within at).ear in
          let found = shows.known.sound number index tested in
          let stands : index < length (list_on v (read_lists b.lists) feed) = slice_get_within (list_on v (read_lists b.lists) feed) index found.0 found.1 in
          let on : list_on v (read_lists b.lists) feed ≡ emitted_list (wiring_of v) given (execution_in stand) feed.stream feed.sender =
          emitted_shown v given (execution_in stand) stand.seats stand.tables (read_lists b.lists) valid stand.stands.stands stand.shows feed.stream feed.sender into.stream into.sender in
          let many : length (list_seen v b.lists.lists feed.stream feed.sender) ≡ length (emitted_list (wiring_of v) given (execution_in stand) feed.stream feed.sender) =
          seen_length v given steps b stand valid feed.stream feed.sender into.sender (list_seen v b.lists.lists feed.stream feed.sender) refl in
          let here : index < length (feed_list v b.lists.lists fs number) = omega (arith, stands, ap (λ (l : List Message). length l) on, many) in
          subst (λ (l : List Feed). index < length (feed_list v b.lists.lists l number)) (sym mine) here

      pub takes_left : (taken : ℕ) → seated.ear ≡ Takes taken → (left : ℕ) → left ≡ length (list_at b.logs.items c) - taken → left ≡ left_of (wiring_of v) given (execution_in stand) c r
      takes_left taken is left count =
          let shows : ShowsEar v b.lists c r (stand.seats.seats c r) (Takes taken) = subst (ShowsEar v b.lists c r (stand.seats.seats c r)) is (stand.instances.each c r seated there within at).ear in
          untaken_is v given steps b stand valid c there r within taken left shows.0 shows.1 count

-- a record is looked up in the log by its id
pub unlogged_at : (records : List Record) (log : List EntryId) (port id : ℕ) (list : List IdMessage) (index : ℕ) (known : Bool) → option_and_then id_in (slice_get list index) ≡ Some id → IsPool records → All (IsGiven records) list → AreGiven records log
    → known ≡ list_any (is_same_entry_id (port, id)) log → not known ≡ option_map_or (is_unlogged records log port) (slice_get list index) false
unlogged_at records log port id list index known is pool given logged e =
    ap not (e ∙ sym (any-with_ids records (port, id) log (one_id records pool id (id_given records list index id given is)) logged))
    ∙ sym (ap (λ (o : Option IdMessage). option_map_or (is_unlogged records log port) o false) (row_listed (slice_get list index) id is))

-- and none is missed where none stands
pub none_unlogged : (records : List Record) (log : List EntryId) (port : ℕ) (o : Option IdMessage) → option_and_then id_in o ≡ None → false ≡ option_map_or (is_unlogged records log port) o false
none_unlogged records log port None is = refl
none_unlogged records log port (Some (Row id)) is = absurd (none-some id (sym is))
none_unlogged records log port (Some (Seal key count)) is = refl

-- ---- all that is left

components_wired : (v : View) → length (wiring_of v).components ≡ length v.components
unfolding wiring_of
components_wired v = length-below (λ c. map (instance_for v c) (below (replicas_of v c))) (length v.components)

-- a component counts by its replicas
pub left_by_number : (v : View) (given : Data) (x : Execution) → left_count (wiring_of v) given x ≡ sum_by (λ c. left_at (wiring_of v) given x c (replicas_of v c)) (below (length v.components))
left_by_number v given x =
    sums_numbered (λ c (instances : List Instance). left_at (wiring_of v) given x c (length instances)) [] (wiring_of v).components (wiring_of v).components 0 0 (λ k less. ap (λ n. get_or (wiring_of v).components n []) (let e : 0 + k ≡ k = omega arith in e))
    ∙ ap (λ n. sum_by (λ c. left_at (wiring_of v) given x c (length (instances_at (wiring_of v) c))) (below n)) (components_wired v)
    ∙ sums_same (λ c. left_at (wiring_of v) given x c (length (instances_at (wiring_of v) c))) (λ c. left_at (wiring_of v) given x c (replicas_of v c)) 0 (below (length v.components))
    (λ c h. ap (left_at (wiring_of v) given x c) (ap (λ (l : List Instance). length l) (instances-wired v c (Has-below (length v.components) c h)) ∙ length-below (instance_for v c) (replicas_of v c)))

-- ---- complete

there_in : (v : View) (c r : ℕ) → IsTrue (is_there (wiring_of v) c r) → r < replicas_of v c
there_in v c r is = elim (cases_lt r (replicas_of v c)) [
  | inl within ↦ within
  | inr past ↦ (let bad : false ≡ true = sym (not_there v c r past) ∙ is in cc)
]

pub complete_from : (v : View) (given : Data) (x : Execution) → left_count (wiring_of v) given x ≡ 0 → holds_none v x ≡ true → IsComplete (wiring_of v) given x
complete_from v given x left held = record {
  left = left;
  held = λ c r is.
      let within = there_in v c r is in
      let there = component_of_replica v c r within in
      let own = all_member (holds_none_at v x) (below (length v.components)) c held (range_has 0 (length v.components) c (omega arith) (omega (arith, there))) in
      eqb-true (held_count_at (wiring_of v) x c r) 0 (all_member (λ n. held_count_at (wiring_of v) x c n == 0) (below (replicas_of v c)) r own (range_has 0 (replicas_of v c) r (omega arith) (omega (arith, within))));
}

pub held_from : (v : View) (given : Data) (x : Execution) → IsComplete (wiring_of v) given x → holds_none v x ≡ true
held_from v given x complete = all_from (holds_none_at v x) (below (length v.components)) (λ c h.
    let there = Has-below (length v.components) c h in
    all_from (λ r. held_count_at (wiring_of v) x c r == 0) (below (replicas_of v c)) (λ r g.
    let within = Has-below (replicas_of v c) r g in
    eq-eqb (held_count_at (wiring_of v) x c r) 0 (complete.held c r (is_there-true v c r there within))))

pub tells_complete : (v : View) (given : Data) (x : Execution) (test : Bool) → test ≡ is_complete v given x → IsTrue test ↔ IsComplete (wiring_of v) given x
tells_complete v given x test is = (
  λ passes.
      let both = and_parts (left_count (wiring_of v) given x == 0) (holds_none v x) (sym is ∙ passes) in
      complete_from v given x (eqb-true (left_count (wiring_of v) given x) 0 both.0) both.1,
  λ complete. is ∙ and_from (left_count (wiring_of v) given x == 0) (holds_none v x) (eq-eqb (left_count (wiring_of v) given x) 0 complete.left) (held_from v given x complete),
)

pub complete_test : (v : View) (given : Data) (x : Execution) (left : ℕ) (holds : Bool) → left ≡ left_count (wiring_of v) given x → left ≡ 0 → holds ≡ holds_none v x → holds ≡ is_complete v given x
complete_test v given x left holds is none e = e ∙ sym (ap (λ t. t && holds_none v x) (eq-eqb (left_count (wiring_of v) given x) 0 (sym is ∙ none)))

pub incomplete_test : (v : View) (given : Data) (x : Execution) (left : ℕ) → left ≡ left_count (wiring_of v) given x → (left ≡ 0 → ⊥) → false ≡ is_complete v given x
incomplete_test v given x left is some = sym (ap (λ t. t && holds_none v x) (ne_eqb (left_count (wiring_of v) given x) 0 (λ none. some (is ∙ none))))

-- ---- loops over numbers

pub more_numbers : (P : ℕ → Type 0) (n : ℕ) → ((k : ℕ) → k < n → P k) → P n → (k : ℕ) → k < n + 1 → P k
more_numbers P n each last k less = elim (cases_lt k n) [
  | inl under ↦ each k under
  | inr over ↦ (let same : n ≡ k = omega (arith, less, over) in subst P same last)
]

pub some_held : (v : View) (x : Execution) (c r held : ℕ) → r < replicas_of v c → held ≡ held_count_at (wiring_of v) x c r → (held ≡ 0 → ⊥) → false ≡ holds_none_at v x c
some_held v x c r held within is some = sym (not_all_below (λ k. held_count_at (wiring_of v) x c k == 0) (replicas_of v c) r within (ne_eqb (held_count_at (wiring_of v) x c r) 0 (λ none. some (is ∙ none))))

pub none_held : (v : View) (x : Execution) (c : ℕ) → ((r : ℕ) → r < replicas_of v c → 0 ≡ held_count_at (wiring_of v) x c r) → true ≡ holds_none_at v x c
none_held v x c none = sym (all_below (λ k. held_count_at (wiring_of v) x c k == 0) (replicas_of v c) (λ k less. eq-eqb (held_count_at (wiring_of v) x c k) 0 (sym (none k less))))
