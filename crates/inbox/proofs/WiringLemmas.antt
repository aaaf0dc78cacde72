-- The wiring of a topology has its streams, its instances, and feeds in range.
use Rattle.std.proofs.Common.{◌≡◌, ap, subst, ◌∙◌, ℕ, ◌+◌, ◌<◌, nat_lt, Bool, true, false, List, [], length, map, get_or, arith, Some, slice_get}
use Rattle.std.specs.Prelude.{if◌then◌else◌}
use Rattle.std.specs.List.{flat_map}
use Rattle.std.specs.Option.{option_map_or}
use Rattle.std.proofs.lemmas.List.FromFn.{get_or-map-range_with_len, length-map-range_with_len}
use Rattle.std.proofs.lemmas.Option.{slice_get-get_or}
use Rattle.blz_value.specs.Members.{Has}
use Rattle.blz_value.proofs.Membership.{Has-from_map, Has-from_flat_map, Has-from_filter}
use Rattle.topo_forms.specs.View.{View, no_stream, replicas_of, port_numbers, streams_to, stream_replicas, component_at, goes_to, is_order, mode_of, mode_key, stream_at, stream_numbers}
use Rattle.topo_forms.specs.Feeds.{Feed, no_feed, feeds, log_feeds, feeds_at, feeds_from, paired_senders}
use Rattle.blz_value.specs.NumberSets.{below}
use Rattle.blz_value.proofs.Ranges.{Has-below}
use Rattle.inbox.specs.Instances.{Instance, port_of_feed}
use Rattle.inbox.specs.Growth.{feed_numbered}
use Rattle.inbox.specs.Wiring.{nobody, instances_at, instance_at, is_there, port_for, instance_for, wiring_of}

pub get_or-below : {X : Type 0} (f : ℕ → X) (count n : ℕ) (d : X) → n < count → get_or (map f (below count)) n d ≡ f n
get_or-below f count n d within = get_or-map-range_with_len f 0 count n n d within (let e : 0 + n ≡ n = omega arith in e)

pub length-below : {X : Type 0} (f : ℕ → X) (count : ℕ) → length (map f (below count)) ≡ count
length-below f count = length-map-range_with_len f 0 count

-- the instances of a component
pub instances-wired : (v : View) (c : ℕ) → c < length v.components → instances_at (wiring_of v) c ≡ map (instance_for v c) (below (replicas_of v c))
unfolding wiring_of
instances-wired v c within = get_or-below (λ n. map (instance_for v n) (below (replicas_of v n))) (length v.components) c [] within

pub instance-wired : (v : View) (c j : ℕ) → c < length v.components → j < replicas_of v c → instance_at (wiring_of v) c j ≡ instance_for v c j
instance-wired v c j within there = ap (λ l. get_or l j nobody) (instances-wired v c within) ∙ get_or-below (instance_for v c) (replicas_of v c) j nobody there

pub there-wired : (v : View) (c j : ℕ) → c < length v.components → is_there (wiring_of v) c j ≡ nat_lt j (replicas_of v c)
there-wired v c j within = ap (λ l. nat_lt j (length l)) (instances-wired v c within) ∙ ap (nat_lt j) (length-below (instance_for v c) (replicas_of v c))

-- the streams
pub stream-wired : (v : View) (s : ℕ) → s < length v.streams → slice_get (wiring_of v).streams s ≡ Some (stream_at v s)
unfolding wiring_of
stream-wired v s within = slice_get-get_or v.streams s no_stream within

-- ---- feeds

-- a feed is of a port of its component, of a stream that goes to the port, and of a sending replica
pub record IsFeedInto (v : View) (c : ℕ) (feed : Feed) : Type 0 where
  pub port : feed.port < length (component_at v c).ports
  pub stream : feed.stream < length v.streams
  pub goes : goes_to v c feed.port feed.stream ≡ true
  pub sender : feed.sender < stream_replicas v feed.stream

into_by : (v : View) (c p s : ℕ) (senders : List ℕ) (feed : Feed) → p < length (component_at v c).ports → Has s (streams_to v c p) → ((n : ℕ) → Has n senders → n < stream_replicas v s) → Has feed (feeds_from p s senders) → IsFeedInto v c feed
into_by v c p s senders feed port stream small h =
    let m = Has-from_map (λ i. record { port = p; stream = s; sender = i }) feed senders h in
    let kept = Has-from_filter (goes_to v c p) s (stream_numbers v) stream in
    subst (λ f. IsFeedInto v c f) m.2 (record { port = port; stream = Has-below (length v.streams) s kept.0; goes = kept.1; sender = small m.0 m.1 })

pub feed-into : (v : View) (c j : ℕ) (feed : Feed) → Has feed (feeds v c j) → IsFeedInto v c feed
feed-into v c j feed h =
    let a = Has-from_flat_map (feeds_at v c j) feed (port_numbers v c) h in
    let b = Has-from_flat_map (λ s. feeds_from a.0 s (paired_senders v c j s)) feed (streams_to v c a.0) a.2 in
    into_by v c a.0 b.0 (paired_senders v c j b.0) feed (Has-below (length (component_at v c).ports) a.0 a.1) b.1
    (λ n m. Has-below (stream_replicas v b.0) n (Has-from_filter _ n (below (stream_replicas v b.0)) m).0) b.2

pub log_feed-into : (v : View) (c : ℕ) (feed : Feed) → Has feed (log_feeds v c) → IsFeedInto v c feed
log_feed-into v c feed h =
    let a = Has-from_flat_map (λ p. flat_map (λ s. feeds_from p s (below (stream_replicas v s))) (streams_to v c p)) feed (port_numbers v c) h in
    let b = Has-from_flat_map (λ s. feeds_from a.0 s (below (stream_replicas v s))) feed (streams_to v c a.0) a.2 in
    into_by v c a.0 b.0 (below (stream_replicas v b.0)) feed (Has-below (length (component_at v c).ports) a.0 a.1) b.1 (λ n m. Has-below (stream_replicas v b.0) n m) b.2

feeds_by : (v : View) (c j : ℕ) (feed : Feed) (b : Bool) → Has feed (if b then log_feeds v c else feeds v c j) → IsFeedInto v c feed
feeds_by v c j feed true h = log_feed-into v c feed h
feeds_by v c j feed false h = feed-into v c j feed h

-- the feeds of an instance are such
pub instance-feeds : (v : View) (c j : ℕ) (feed : Feed) → Has feed (instance_for v c j).feeds → IsFeedInto v c feed
instance-feeds v c j feed h = feeds_by v c j feed (is_order v c) h

pub instance-ports : (v : View) (c j : ℕ) → length (instance_for v c j).ports ≡ length (component_at v c).ports
instance-ports v c j = length-below (λ p. port_for v c p (mode_key (mode_of v c))) (length (component_at v c).ports)

-- ---- what is heard comes at ports

pub port_of-feed : (i : Instance) (n : ℕ) → n < length i.feeds → port_of_feed i n ≡ (feed_numbered i n).port
port_of-feed i n within = ap (λ o. option_map_or (λ f. f.port) o (length i.ports)) (slice_get-get_or i.feeds n no_feed within)
