-- The places that are looked at again after a work are all that it may change.
use Rattle.std.proofs.Common.{◌≡◌, ◌<◌, ◌+◌, ◌==◌, ◌&&◌, ◌++◌, ◌∙◌, ℕ, true, Option, None, Some, List, [], length, get_or, slice_get, refl, ap, sym, subst, arith}
use Rattle.std.specs.List.{All}
use Rattle.std.proofs.lemmas.Bool.{and_parts, eqb-true, false_from_ne_true, or_from}
use Rattle.std.proofs.lemmas.Option.{slice_get_within}
use Rattle.blz_value.specs.Members.{Has}
use Rattle.blz_value.proofs.Membership.{Has-append_left, Has-append_right, Has-get_or}
use Rattle.topo_forms.specs.Feeds.{Feed}
use Rattle.topo_forms.specs.View.{View, End, origin_of}
use Rattle.inbox.specs.Places.{instance_place}
use Rattle.sched_net.specs.declared.books.Books.{Books}
use Rattle.sched_run.specs.Made.{lane_feed}
use Rattle.sched_run.specs.Code.Stale.{is_same_feed}
use Rattle.sched_run.specs.Code.Watch.{AreHeard, AreLogs, AreReaders, AreTablesOf, AreTakers, IsUntouched, StillShows, closing_places, comes_from, heard_at, is_at_log, is_heard_on, opening_places, port_place, sends}
use Rattle.sched_run.specs.Code.Works.{AreShown, AreWorksOf, LookedFor}
use Rattle.sched_run.specs.declared.lanes.Lane.{Lane}
use Rattle.sched_run.specs.declared.lanes.Lane.TheVariants.{Deliver, Order}
use Rattle.sched_run.specs.declared.lanes.Taker.{Taker}
use Rattle.sched_run.specs.declared.tables.Tables.{Tables}
use Rattle.sched_run.specs.declared.works.Work.{Work}
use Rattle.sched_run.specs.declared.works.Work.TheVariants.{Message, Take}
use Rattle.sched_run.specs.declared.works.Works.{Works}
use Rattle.sched_run.proofs.WorksLemmas.{all_shown, looked_for_then}

-- ---- what isn't looked at is untouched

-- the lane of an instance on the feed
heard_lane : (c r : ℕ) (feed : Feed) (lane : Lane) → is_heard_on c r feed lane ≡ true → (n : ℕ) × (other : Feed) × (lane ≡ Deliver c r n other) × (other.stream ≡ feed.stream)
heard_lane c r feed (Order d other) is = cc
heard_lane c r feed (Deliver d s n other) is =
    let parts = and_parts (d == c && s == r) (is_same_feed other feed) is in
    let here = and_parts (d == c) (s == r) parts.0 in
    let same = and_parts (other.port == feed.port) (other.stream == feed.stream && other.sender == feed.sender) parts.1 in
    let rest = and_parts (other.stream == feed.stream) (other.sender == feed.sender) same.1 in
    (n, other, ap (λ k. Deliver k s n other) (eqb-true d c here.0) ∙ ap (λ k. Deliver c k n other) (eqb-true s r here.1), eqb-true other.stream feed.stream rest.0)

from_spot : (c : ℕ) (o : Option End) → comes_from c o ≡ true → (spot : End) × (o ≡ Some spot) × (spot.0 ≡ c)
from_spot c None is = cc
from_spot c (Some spot) is = (spot, refl, eqb-true spot.0 c is)

module _ (v : View) (k : Works) (tables : Tables) (is : AreTablesOf v k tables) (n : ℕ) (there : n < length k.sizes) where
  -- a lane on which an instance sends
  sent_to : (c r : ℕ) (lane : Lane) → slice_get k.lanes.items n ≡ Some lane → sends v c r (lane_feed lane) ≡ true → Has n (get_or tables.readers (instance_place v c r) [])
  sent_to c r lane at so =
      let parts = and_parts (comes_from c (origin_of v (lane_feed lane).stream)) ((lane_feed lane).sender == r) so in
      let from = from_spot c (origin_of v (lane_feed lane).stream) parts.0 in
      let sender : (lane_feed lane).sender ≡ r = eqb-true (lane_feed lane).sender r parts.1 in
      subst (λ m. Has n (get_or tables.readers (instance_place v c m) [])) sender
      (subst (λ m. Has n (get_or tables.readers (instance_place v m (lane_feed lane).sender) [])) from.2
      (is.readers.each n lane from.0 (slice_get_within k.lanes.items n lane at) at from.1))

  -- a lane of a log at a port, and a taker
  logged_at : (c port : ℕ) (lane : Lane) → slice_get k.lanes.items n ≡ Some lane → is_at_log c port lane ≡ true → Has n (get_or tables.logs (port_place c port) [])
  logged_at c port (Deliver d r m feed) at so = cc
  logged_at c port (Order d feed) at so =
      let parts = and_parts (d == c) (feed.port == port) so in
      subst (λ m. Has n (get_or tables.logs (port_place c m) [])) (eqb-true feed.port port parts.1)
      (subst (λ m. Has n (get_or tables.logs (port_place m feed.port) [])) (eqb-true d c parts.0) (is.logs.each n d feed (slice_get_within k.lanes.items n (Order d feed) at) at))

  taken_at : (c number : ℕ) (taker : Taker) → n ≡ length k.lanes.items + number → slice_get k.takers.items number ≡ Some taker → (taker.component == c) ≡ true → Has n (get_or tables.takers c [])
  taken_at c number taker e at so =
      subst (λ m. Has m (get_or tables.takers c [])) (sym e)
      (subst (λ m. Has (length k.lanes.items + number) (get_or tables.takers m [])) (eqb-true taker.component c so) (is.takers.each number taker (slice_get_within k.takers.items number taker at) at))

  -- a lane on which an instance hears a stream
  heard_here : (c r : ℕ) (feed : Feed) (lane : Lane) → slice_get k.lanes.items n ≡ Some lane → is_heard_on c r feed lane ≡ true → Has n (heard_at tables.heard.items (instance_place v c r) feed.stream)
  heard_here c r feed lane at so =
      let on = heard_lane c r feed lane so in
      subst (λ m. Has n (heard_at tables.heard.items (instance_place v c r) m)) on.3
      (is.heard.each n c r on.0 on.1 (slice_get_within k.lanes.items n lane at) (at ∙ ap (λ (l : Lane). Some l) on.2))

  pub untouched : (work : Work) → ¬ Has n (closing_places v tables work ++ opening_places v tables work) → IsUntouched v k work n
  untouched (Message (Deliver c r m feed) index) none =
      let heard = heard_at tables.heard.items (instance_place v c r) feed.stream in
      let readers = get_or tables.readers (instance_place v c r) [] in
      record {
        there = there;
        lane = λ lane own. or_from (is_heard_on c r feed lane) (sends v c r (lane_feed lane))
            (false_from_ne_true (is_heard_on c r feed lane) (λ so. none (Has-append_left n heard readers (heard_here c r feed lane own so))))
            (false_from_ne_true (sends v c r (lane_feed lane)) (λ so. none (Has-append_right n heard readers (sent_to c r lane own so))));
        taker = λ number taker e own. refl;
      }
  untouched (Message (Order c feed) index) none =
      let log = get_or tables.logs (port_place c feed.port) [] in
      let takers = get_or tables.takers c [] in
      record {
        there = there;
        lane = λ lane own. false_from_ne_true (is_at_log c feed.port lane) (λ so. none (Has-append_left n log takers (logged_at c feed.port lane own so)));
        taker = λ number taker e own. false_from_ne_true (taker.component == c) (λ so. none (Has-append_right n log takers (taken_at c number taker e own so)));
      }
  untouched (Take done) none =
      let takers = get_or tables.takers done.component [] in
      let readers = get_or tables.readers (instance_place v done.component done.replica) [] in
      record {
        there = there;
        lane = λ lane own. false_from_ne_true (sends v done.component done.replica (lane_feed lane)) (λ so. none (Has-append_right n takers readers (sent_to done.component done.replica lane own so)));
        taker = λ number taker e own. false_from_ne_true (taker.component == done.component) (λ so. none (Has-append_left n takers readers (taken_at done.component number taker e own so)));
      }

-- where lanes and takers stay, the same is watched
pub watched_on : (v : View) (old new : Works) (tables : Tables) → AreTablesOf v old tables → new.lanes ≡ old.lanes → new.takers ≡ old.takers → AreTablesOf v new tables
watched_on v old new tables is lanes takers = record {
  heard = subst (λ (l : List Lane). AreHeard v l tables.heard.items) (ap (λ z. z.items) (sym lanes)) is.heard;
  readers = subst (λ (l : List Lane). AreReaders v l tables.readers) (ap (λ z. z.items) (sym lanes)) is.readers;
  logs = subst (λ (l : List Lane). AreLogs v l tables.logs) (ap (λ z. z.items) (sym lanes)) is.logs;
  takers =
      subst (λ (l : List Taker). AreTakers v (length new.lanes.items) l tables.takers) (ap (λ z. z.items) (sym takers))
      (subst (λ m. AreTakers v m old.takers.items tables.takers) (ap (λ z. length z.items) (sym lanes)) is.takers);
}

-- ---- after a work

-- looked at are equal places
pub looked_equal : (v : View) (b : Books) (old new : Works) (places also : List ℕ) → places ≡ also → LookedFor v b old new places → LookedFor v b old new also
looked_equal v b old new places also same looked = subst (LookedFor v b old new) same looked

module _ (v : View) (k : Works) (tables : Tables) (is : AreTablesOf v k tables) (works : AreWorksOf v k) where
  all_of : (ns : List ℕ) (most : ℕ) → ((p : ℕ) → Has p ns → p < most) → All (λ p. p < most) ns
  all_of ns most each m d within = each (get_or ns m d) (Has-get_or ns m d within)

  among_lanes : (p : ℕ) → p < length k.lanes.items → p < length k.sizes
  among_lanes p less = omega (arith, less, works.as_many)

  among_takers : (p : ℕ) → p < length k.lanes.items + length k.takers.items → p < length k.sizes
  among_takers p less = omega (arith, less, works.as_many)

  -- the places are those of lanes and takers
  pub closing_there : (work : Work) → All (λ p. p < length k.sizes) (closing_places v tables work)
  closing_there (Message (Deliver c r n feed) index) = all_of _ _ (λ p h. among_lanes p (is.heard.within (instance_place v c r) feed.stream p h))
  closing_there (Message (Order c feed) index) = all_of _ _ (λ p h. among_lanes p (is.logs.within (port_place c feed.port) p h))
  closing_there (Take taker) = all_of _ _ (λ p h. among_takers p (is.takers.within taker.component p h))

  pub opening_there : (work : Work) → All (λ p. p < length k.sizes) (opening_places v tables work)
  opening_there (Message (Deliver c r n feed) index) = all_of _ _ (λ p h. among_lanes p (is.readers.within (instance_place v c r) p h))
  opening_there (Message (Order c feed) index) = all_of _ _ (λ p h. among_takers p (is.takers.within c p h))
  opening_there (Take taker) = all_of _ _ (λ p h. among_lanes p (is.readers.within (instance_place v taker.component taker.replica) p h))

  module _ (b : Books) (first second : Works) (work : Work) (closing : LookedFor v b k first (closing_places v tables work)) (opening : LookedFor v b first second (opening_places v tables work)) where
    looked : LookedFor v b k second (closing_places v tables work ++ opening_places v tables work)
    looked = looked_for_then v b k first second (closing_places v tables work) (opening_places v tables work) closing opening

    -- so all that is open is shown
    pub shown_after : ((n : ℕ) → IsUntouched v k work n → StillShows v b k n) → AreShown v b second
    shown_after rest =
        all_shown v b k second (closing_places v tables work ++ opening_places v tables work) works looked
        (λ n there none. rest n (untouched v k tables is n there work none))

    -- and the same is watched
    pub watched_after : AreTablesOf v second tables
    watched_after = watched_on v k second tables is looked.lanes_stay looked.takers_stay
