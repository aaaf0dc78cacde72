-- What a work doesn't touch stays as it was: the list of a lane and what is open of it, and whether a taker can take.
use Rattle.std.proofs.Common.{◌≡◌, ◌≤◌, ◌∙◌, ◌==◌, ◌&&◌, not, ◌∷◌, ◌++◌, ℕ, Bool, true, false, Option, None, Some, List, [], length, nat_lt, slice_get, refl, ap, sym, subst, inl, inr}
use Rattle.std.specs.Prelude.{Ok, if◌then◌else◌}
use Rattle.std.specs.List.{list_any}
use Rattle.std.specs.Option.{option_map_or, option_and_then}
use Rattle.std.proofs.lemmas.Bool.{cases_lt, or_parts}
use Rattle.std.proofs.lemmas.Option.{get_or_from_slice_get, slice_get_past}
use Rattle.blz_value.proofs.Booleans.{same_truth}
use Rattle.topo_forms.specs.Data.{Data}
use Rattle.topo_forms.specs.Feeds.{Feed}
use Rattle.topo_forms.specs.Messages.{Message, row, seal, row_in}
use Rattle.topo_forms.specs.View.{View, End, Stream, no_stream, origin_of, is_order_mode}
use Rattle.messages.specs.Messages.{with_new}
use Rattle.messages.specs.Messages.{Batch, Entry, all_pairs, is_same_entry, is_same_pair}
use Rattle.inbox.specs.Events.{Part, deliver, order, take_one, no_instance, nothing_to_take}
use Rattle.inbox.specs.Executions.{Execution, after_event, after_taking, emitted_list, is_hearing, list_from, pair_of, pairs_of, result_and_then, with_lives, with_logged}
use Rattle.inbox.specs.Growth.{TakesWithinLogs}
use Rattle.inbox.specs.Lives.{Lives, emitted_by, hear_batch, take_entry}
use Rattle.inbox.specs.Emission.{Kept, list_of}
use Rattle.inbox.specs.Wiring.{Wiring, instance_at, is_sequencer, is_there, wiring_of}
use Rattle.inbox.proofs.Executions.Lengthening.{kept_after-log, lives-other, with_logged-lives, with_logged-logs}
use Rattle.inbox.proofs.Executions.Results.{Ok_same, and_then_Ok, if_Ok}
use Rattle.sched_turns.specs.declared.windows.Stale.TheVariants.{Nothing, Place, Everything}
use Rattle.sched_run.specs.Made.{can_take, is_open_in, lane_feed, lane_list, part_on}
use Rattle.sched_run.specs.Code.Stale.{is_same_feed, stale_on}
use Rattle.sched_run.specs.Code.Watch.{comes_from, is_heard_on, sends, touches, touches_taker}
use Rattle.sched_run.specs.Code.Works.{work_event}
use Rattle.sched_run.specs.declared.lanes.Lane.{Lane}
use Rattle.sched_run.specs.declared.lanes.Lane.TheVariants.{Deliver, Order}
use Rattle.sched_run.specs.declared.lanes.Taker.{Taker}
use Rattle.sched_run.specs.declared.works.Work.{Work}
use Rattle.sched_run.specs.declared.works.Work.TheVariants.{Message as Comes, Take}
use Rattle.sched_run.proofs.LanesLemmas.{streams_wired}
use Rattle.sched_run.proofs.OpenBefore.{OpensOnlyNew}
use Rattle.sched_run.proofs.StayOpen.{StaysOpen}

-- ---- what is stale

-- nothing is stale on a lane that a work doesn't touch
pub stale_nothing : (v : View) (work : Work) (lane : Lane) → touches v work lane ≡ false → stale_on work lane ≡ Nothing
stale_nothing v (Comes (Deliver c r n feed) index) (Deliver c' r' n' other) off =
    ap (λ b. if b then Place index else Nothing) (or_parts ((c' == c && r' == r) && is_same_feed other feed) (sends v c r other) off).0
stale_nothing v (Comes (Deliver c r n feed) index) (Order c' other) off = refl
stale_nothing v (Comes (Order c feed) index) (Deliver c' r' n' other) off = refl
stale_nothing v (Comes (Order c feed) index) (Order c' other) off = ap (λ b. if b then Everything else Nothing) off
stale_nothing v (Take taker) lane off = refl

-- ---- what is open

-- nothing is open past the end of a list
open_past : (w : Wiring) (given : Data) (x : Execution) (lane : Lane) (index : ℕ) → length (lane_list w given x lane) ≤ index → is_open_in w given x lane index ≡ false
open_past w given x (Deliver c r n feed) index past =
    ap (λ (o : Option Message). option_map_or (λ message. not (list_any (is_same_pair (n, message)) (all_pairs (x.lives c r).last.heard))) o false) (slice_get_past (emitted_list w given x feed.stream feed.sender) index past)
open_past w given x (Order c feed) index past =
    ap (λ (o : Option Message). option_map_or (λ r. not (list_any (is_same_entry (feed.port, r)) (x.logs c))) (option_and_then row_in o) false) (slice_get_past (emitted_list w given x feed.stream feed.sender) index past)

-- where the list is the same, and nothing is stale, the same is open
pub open_still : (w : Wiring) (given : Data) (x y : Execution) (lane : Lane) → OpensOnlyNew w given x y lane → StaysOpen w given x y lane Nothing → lane_list w given y lane ≡ lane_list w given x lane → (index : ℕ) → is_open_in w given x lane index ≡ is_open_in w given y lane index
open_still w given x y lane opens stays same index = elim (cases_lt index (length (lane_list w given x lane))) [
  | inl less ↦ same_truth (is_open_in w given x lane index) (is_open_in w given y lane index) (λ e. stays index less refl e) (λ e. opens.before index less e)
  | inr past ↦ open_past w given x lane index past ∙ sym (open_past w given y lane index (subst (λ (l : List Message). length l ≤ index) (sym same) past))
]

-- ---- emitted lists

module _ (v : View) (given : Data) (x y : Execution) where
  abbrev w : Wiring
  w = wiring_of v

  -- an output of an instance has the same list
  abbrev IsSame : End → (replica : ℕ) → Type 0
  IsSame spot r = emitted_by (instance_at w spot.0 r) (y.logs spot.0) (y.lives spot.0 r) spot.1 ≡ emitted_by (instance_at w spot.0 r) (x.logs spot.0) (x.lives spot.0 r) spot.1

  by_origin : (line : Stream) (s r : ℕ) (origin : Option End) → ((spot : End) → origin ≡ Some spot → IsSame spot r) → list_from origin w given y line s r ≡ list_from origin w given x line s r
  by_origin line s r None same = refl
  by_origin line s r (Some spot) same = same spot refl

  by_line : (s r : ℕ) (o : Option Stream) → ((line : Stream) (spot : End) → o ≡ Some line → line.origin ≡ Some spot → IsSame spot r) → option_map_or (λ line. list_from line.origin w given y line s r) o [] ≡ option_map_or (λ line. list_from line.origin w given x line s r) o []
  by_line s r None same = refl
  by_line s r (Some line) same = by_origin line s r line.origin (λ spot e. same line spot refl e)

  origin_is : (s : ℕ) (line : Stream) → slice_get w.streams s ≡ Some line → origin_of v s ≡ line.origin
  origin_is s line at = ap (λ (z : Stream). z.origin) (get_or_from_slice_get v.streams s line no_stream (subst (λ (streams : List Stream). slice_get streams s ≡ Some line) (streams_wired v) at))

  kept_list : (s r : ℕ) → ((spot : End) → origin_of v s ≡ Some spot → IsSame spot r) → emitted_list w given y s r ≡ emitted_list w given x s r
  kept_list s r same = by_line s r (slice_get w.streams s) (λ line spot at e. same spot (origin_is s line at ∙ e))

  -- what an instance that sends on a feed goes through leaves all other feeds as they are
  lives_kept : (c r : ℕ) (change : Lives → Lives) → with_lives c r change x ≡ y → (feed : Feed) → sends v c r feed ≡ false → emitted_list w given y feed.stream feed.sender ≡ emitted_list w given x feed.stream feed.sender
  lives_kept c r change becomes feed off =
      kept_list feed.stream feed.sender
      (λ spot e.
      let apart : (spot.0 == c && feed.sender == r) ≡ false = ap (λ (o : Option End). comes_from c o && feed.sender == r) (sym e) ∙ off in
      let lives : y.lives spot.0 feed.sender ≡ x.lives spot.0 feed.sender = sym (ap (λ (z : Execution). z.lives spot.0 feed.sender) becomes) ∙ lives-other c r spot.0 feed.sender change x apart in
      let logs : y.logs spot.0 ≡ x.logs spot.0 = sym (ap (λ (z : Execution). z.logs spot.0) becomes) in
      ap (λ (l : Lives). emitted_by (instance_at w spot.0 feed.sender) (y.logs spot.0) l spot.1) lives
      ∙ ap (λ (l : List Entry). emitted_by (instance_at w spot.0 feed.sender) l (x.lives spot.0 feed.sender) spot.1) logs)

  -- and an entry that comes to a log all feeds, since no replica took it yet
  logged_kept : (c port : ℕ) (message : Message) → with_logged c port message x ≡ y → TakesWithinLogs x → (feed : Feed) → emitted_list w given y feed.stream feed.sender ≡ emitted_list w given x feed.stream feed.sender
  logged_kept c port message becomes within feed =
      kept_list feed.stream feed.sender
      (λ spot e.
      let longer = with_logged-logs c port message x spot.0 in
      let logs : y.logs spot.0 ≡ x.logs spot.0 ++ longer.more = sym (ap (λ (z : Execution). z.logs spot.0) becomes) ∙ sym longer.with_more in
      let lives : y.lives spot.0 feed.sender ≡ x.lives spot.0 feed.sender = sym (ap (λ (z : Execution). z.lives spot.0 feed.sender) becomes) ∙ with_logged-lives c port message x spot.0 feed.sender in
      ap (λ (l : Lives). emitted_by (instance_at w spot.0 feed.sender) (y.logs spot.0) l spot.1) lives
      ∙ ap (λ (l : List Entry). emitted_by (instance_at w spot.0 feed.sender) l (x.lives spot.0 feed.sender) spot.1) logs
      ∙ ap (λ (k : Kept). list_of k spot.1) (kept_after-log (instance_at w spot.0 feed.sender) (x.logs spot.0) longer.more (x.lives spot.0 feed.sender) (within spot.0 feed.sender)))

  -- ---- takers

  heard_taken : (b : Bool) (pairs : Batch) (lives : Lives) → (if b then hear_batch pairs lives else lives).last.taken ≡ lives.last.taken
  heard_taken true pairs lives = refl
  heard_taken false pairs lives = refl

  logs_other : (c port : ℕ) (message : Message) (c' : ℕ) → (c' == c) ≡ false → (with_logged c port message x).logs c' ≡ x.logs c'
  logs_other c port (row r) c' e = ap (λ b. if b then with_new is_same_entry (x.logs c') (port, r) else x.logs c') e
  logs_other c port (seal k n) c' e = refl

  -- ---- the event of a work

  -- an instance hears, a log gets an entry, or a replica takes one
  hears_so : (c r : ℕ) (part : Part) → after_event w given (deliver part c r) x ≡ Ok y → (pairs : Batch) × (with_lives c r (hear_batch pairs) x ≡ y)
  hears_so c r part at =
      let a = if_Ok (is_hearing w c r (part ∷ [])) (result_and_then (pairs_of w given x (instance_at w c r) (part ∷ [])) (λ pairs. Ok (with_lives c r (hear_batch pairs) x))) no_instance y at in
      let b = and_then_Ok (pairs_of w given x (instance_at w c r) (part ∷ [])) (λ pairs. Ok (with_lives c r (hear_batch pairs) x)) y a.1 in
      (b.0, Ok_same _ _ _ refl b.2)

  logs_so : (c : ℕ) (part : Part) → after_event w given (order part c) x ≡ Ok y → (message : Message) × (with_logged c part.port message x ≡ y)
  logs_so c part at =
      let a = if_Ok (is_sequencer w c) (result_and_then (pair_of w given x (instance_at w c 0) part) (λ pair. Ok (with_logged c part.port pair.1 x))) no_instance y at in
      let b = and_then_Ok (pair_of w given x (instance_at w c 0) part) (λ pair. Ok (with_logged c part.port pair.1 x)) y a.1 in
      (b.0.1, Ok_same _ _ _ refl b.2)

  takes_so : (c r : ℕ) → after_event w given (take_one c r) x ≡ Ok y → with_lives c r take_entry x ≡ y
  takes_so c r at =
      let a = if_Ok (is_there w c r && is_order_mode (instance_at w c r).mode) (after_taking c r x) no_instance y at in
      let b = if_Ok (nat_lt (x.lives c r).last.taken (length (x.logs c))) (Ok (with_lives c r take_entry x)) nothing_to_take y a.1 in
      Ok_same _ _ _ refl b.1

  pub list_kept : (work : Work) → TakesWithinLogs x → after_event w given (work_event work) x ≡ Ok y → (lane : Lane) → touches v work lane ≡ false → lane_list w given y lane ≡ lane_list w given x lane
  list_kept (Comes (Deliver c r n feed) index) within at lane off =
      let so = hears_so c r (part_on feed index) at in
      lives_kept c r (hear_batch so.0) so.1 (lane_feed lane) (or_parts (is_heard_on c r feed lane) (sends v c r (lane_feed lane)) off).1
  list_kept (Comes (Order c feed) index) within at lane off =
      let so = logs_so c (part_on feed index) at in
      logged_kept c feed.port so.0 so.1 within (lane_feed lane)
  list_kept (Take taker) within at lane off =
      lives_kept taker.component taker.replica take_entry (takes_so taker.component taker.replica at) (lane_feed lane) off

  pub take_kept : (work : Work) → after_event w given (work_event work) x ≡ Ok y → (taker : Taker) → touches_taker work taker ≡ false → can_take x taker ≡ can_take y taker
  take_kept (Comes (Deliver c r n feed) index) at taker off =
      let so = hears_so c r (part_on feed index) at in
      ap (λ n. nat_lt n (length (x.logs taker.component))) (sym (heard_taken (taker.component == c && taker.replica == r) so.0 (x.lives taker.component taker.replica)))
      ∙ ap (λ (z : Execution). can_take z taker) so.1
  take_kept (Comes (Order c feed) index) at taker off =
      let so = logs_so c (part_on feed index) at in
      ap (λ (l : Lives). nat_lt l.last.taken (length (x.logs taker.component))) (sym (with_logged-lives c feed.port so.0 x taker.component taker.replica))
      ∙ ap (λ (l : List Entry). nat_lt ((with_logged c feed.port so.0 x).lives taker.component taker.replica).last.taken (length l)) (sym (logs_other c feed.port so.0 taker.component off))
      ∙ ap (λ (z : Execution). can_take z taker) so.1
  take_kept (Take done) at taker off =
      let becomes = takes_so done.component done.replica at in
      ap (λ (l : Lives). nat_lt l.last.taken (length (x.logs taker.component)))
      (sym (lives-other done.component done.replica taker.component taker.replica take_entry x (ap (λ b. b && taker.replica == done.replica) off)))
      ∙ ap (λ (z : Execution). can_take z taker) becomes
