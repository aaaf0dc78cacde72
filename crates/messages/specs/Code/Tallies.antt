-- Each partition has a count of the feeds that lack something of it.
use Rattle.std.specs.Prelude.{◌≡◌, ◌<◌, ◌≤◌, ◌&&◌, ◌++◌, ℕ, Bool, not, Some, None, List, [], ◌∷◌, length, slice_index, slice_index_or}
use Rattle.std.specs.List.{count_by}
use Rattle.std.specs.Prelude.{◌⊎◌}
use Rattle.blz_pool.specs.Pool.{number_of}
use Rattle.blz_value.specs.Record.{Row}
use Rattle.messages.specs.PartitionCounts.{have_at, need_at, is_met}
use Rattle.messages.specs.declared.feed.Feed.{Feed}

-- the feed is one of a port that carries the key, and records of the partition or its seal are missing on it
abbrev pub lacks_at : (number : ℕ) → Feed → Bool
lacks_at number f = f.carries && not (is_met (need_at f.counts.items number) (have_at f.counts.items number))

-- of so many partitions each has the number of feeds that lack something of it, and no feed has counters of others
pub record IsTallied (count carrying : ℕ) (feeds : List Feed) (lacking : List ℕ) : Type 0 where
  pub as_long : length lacking ≡ count
  pub all : carrying ≡ count_by (λ f. f.carries) feeds
  pub each : (n : ℕ) → n < count → slice_index lacking n ≡ count_by (lacks_at n) feeds
  pub few : (k : ℕ) (d : Feed) → k < length feeds → length (slice_index_or feeds k d).counts.items ≤ count

-- a partition has a number: it had it, or is new and goes last, and all carrying feeds lack something of it
pub record IsAdded (carrying : ℕ) (old new : List Row) (was now : List ℕ) (key : Row) (number : ℕ) : Type 0 where
  pub found : number_of new key ≡ Some number
  pub within : number < length new
  pub grown : ((new ≡ old) × (now ≡ was)) ⊎ ((number_of old key ≡ None) × (new ≡ old ++ key ∷ []) × (now ≡ was ++ carrying ∷ []))

-- no partition is new
pub record AreAsBefore (old new : List Row) (was now : List ℕ) : Type 0 where
  pub keys : new ≡ old
  pub lacking : now ≡ was
