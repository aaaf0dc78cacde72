-- What is seen of feeds by the key values of partitions, which have their numbers.
use Rattle.std.specs.Prelude.{ℕ, Option, List, map, nat_lt}
use Rattle.std.specs.Option.{option_map_or, option_and_then}
use Rattle.blz_pool.specs.Pool.{number_of}
use Rattle.blz_value.specs.Record.{Row}
use Rattle.messages.specs.Numbers.{has_number}
use Rattle.messages.specs.PartitionCounts.{have_at, need_at}
use Rattle.messages.specs.Feeds.{FeedView, FeedsView}
use Rattle.messages.specs.Ports.{port_keys}
use Rattle.messages.specs.declared.counter.Counter.{Counter}
use Rattle.messages.specs.declared.feed.Feed.{Feed}
use Rattle.messages.specs.declared.port.Port.{Port}

-- how many records of a partition were counted, where it has a number
abbrev pub have_of : (keys : List Row) → List Counter → (key : Row) → ℕ
have_of keys counts key = option_map_or (have_at counts) (number_of keys key) 0

-- the least count of its seals
abbrev pub need_of : (keys : List Row) → List Counter → (key : Row) → Option ℕ
need_of keys counts key = option_and_then (need_at counts) (number_of keys key)

abbrev pub feed_view : (keys : List Row) → Feed → FeedView
feed_view keys f = record { port = f.port; carries = f.carries; known = λ id. has_number f.known id; have = λ key. have_of keys f.counts.items key; need = λ key. need_of keys f.counts.items key }

-- and of feeds with their ports, of which so many are feeds of ports that carry the key
abbrev pub views_of : List Port → List Feed → (keys : List Row) → (carrying : ℕ) → FeedsView
views_of ports feeds keys carrying = record { ports = port_keys ports; feeds = map (feed_view keys) feeds; some = nat_lt 0 carrying }
