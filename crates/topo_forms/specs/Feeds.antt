-- The feeds of an instance: which sending replicas of which streams it hears at which port.
use Rattle.std.specs.Prelude.{ℕ, Bool, ◌==◌, ◌||◌, if◌then◌else◌, List, map, filter}
use Rattle.std.specs.List.{flat_map}
use Rattle.blz_value.specs.NumberSets.{below}
use Rattle.topo_forms.specs.View.{View, port_numbers, streams_to, stream_replicas, replicas_of}

-- sending replica i is paired with receiving replica j, where there are so many senders and receivers
abbrev pub are_paired : (senders receivers i j : ℕ) → Bool
are_paired senders receivers i j = if senders == receivers then i == j else (senders == 1 || receivers == 1)

-- every sender can be paired with receivers, and every receiver with senders
abbrev pub can_be_paired : (senders receivers : ℕ) → Bool
can_be_paired senders receivers = senders == receivers || (senders == 1 || receivers == 1)

-- a feed: a port, a stream into it, and a sending replica of the stream
pub record Feed : Type 0 where
  pub port : ℕ
  pub stream : ℕ
  pub sender : ℕ

-- the sending replicas of a stream that are paired with a replica of a component, in order
abbrev pub paired_senders : View → (component replica stream : ℕ) → List ℕ
paired_senders v c j s = filter (λ i. are_paired (stream_replicas v s) (replicas_of v c) i j) (below (stream_replicas v s))

-- the feeds of one port from one stream
abbrev pub feeds_from : (port stream : ℕ) → List ℕ → List Feed
feeds_from p s senders = map (λ i. record { port = p; stream = s; sender = i }) senders

-- the feeds of an instance at one port: by stream, then by sending replica
abbrev pub feeds_at : View → (component replica port : ℕ) → List Feed
feeds_at v c j p = flat_map (λ s. feeds_from p s (paired_senders v c j s)) (streams_to v c p)

-- the feeds of an instance of a component that isn't Order: by port, then by stream, then by sending replica
abbrev pub feeds : View → (component replica : ℕ) → List Feed
feeds v c j = flat_map (feeds_at v c j) (port_numbers v c)

-- into an Order component every sending replica feeds the one log
abbrev pub log_feeds : View → (component : ℕ) → List Feed
log_feeds v c = flat_map (λ p. flat_map (λ s. feeds_from p s (below (stream_replicas v s))) (streams_to v c p)) (port_numbers v c)

abbrev pub no_feed : Feed
no_feed = record { port = 0; stream = 0; sender = 0 }
