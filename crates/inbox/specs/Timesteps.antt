-- A batch of messages sets off timesteps: at once, or under Seal where a partition is whole.
use Rattle.std.specs.Prelude.{◌≡◌, ℕ, ◌==◌, ◌&&◌, ◌++◌, Bool, true, false, not, nat_le, List, [], ◌∷◌, map, filter, length}
use Rattle.std.specs.List.{list_any, list_all, flat_map}
use Rattle.std.specs.Option.{option_map_or}
use Rattle.blz_value.specs.Members.{Has}
use Rattle.blz_value.specs.Record.{Row}
use Rattle.blz_value.specs.Sets.{set_of}
use Rattle.bloom_forms.specs.Step.{Sets, set_at}
use Rattle.bloom_forms.specs.declared.mode.Mode.{Mode}
use Rattle.bloom_forms.specs.declared.mode.Mode.TheVariants.{Free, Pass, Seal, Order}
use Rattle.topo_forms.specs.Messages.{Message, row, seal, is_same_row}
use Rattle.messages.specs.Messages.{Pair, Batch, Entry, is_same_entry, sealed_in, all_pairs, firsts}
use Rattle.bloom_eval.specs.Arrivals.{timestep_of}
use Rattle.inbox.specs.Instances.{Instance, is_carrying, carrying_feeds, entries_of, key_of_entry, is_of_key}

-- ---- what arrives in a timestep

-- one timestep with all of these entries, where there is one
abbrev pub one_timestep : (ports : ℕ) → List Entry → List Sets
one_timestep ports [] = []
one_timestep ports (entry ∷ entries) = timestep_of ports (entry ∷ entries) ∷ []

-- one timestep for each of these entries
abbrev pub one_by_one : (ports : ℕ) → List Entry → List Sets
one_by_one ports entries = map (λ entry. timestep_of ports (entry ∷ [])) entries

-- ---- whole partitions

-- the message is a seal of this partition that counts at most so many records
abbrev pub is_seal_within : (key : Row) → (most : ℕ) → Message → Bool
is_seal_within key most (row r) = false
is_seal_within key most (seal k count) = is_same_row k key && nat_le count most

-- the pairs that were heard from a feed
abbrev pub from_feed : (feed : ℕ) → List Pair → List Pair
from_feed feed heard = filter (λ pair. pair.0 == feed) heard

-- how many distinct records of a partition were heard from a feed
abbrev pub count_heard_from : Instance → List Pair → (key : Row) → (feed : ℕ) → ℕ
count_heard_from i heard key feed = length (set_of (map (λ entry. entry.1) (filter (is_of_key i key) (entries_of i (from_feed feed heard)))))

-- from this feed a seal of the partition was heard, and at least as many distinct records of it as the seal counts
abbrev pub is_whole_from : Instance → List Pair → (key : Row) → (feed : ℕ) → Bool
is_whole_from i heard key feed = list_any (λ pair. is_seal_within key (count_heard_from i heard key feed) pair.1) (from_feed feed heard)

-- there is a feed
abbrev pub is_some_feed : List ℕ → Bool
is_some_feed [] = false
is_some_feed (feed ∷ feeds) = true

-- the partition is whole: some feed is one of a port that carries the key, and from each such feed it is whole
abbrev pub is_whole : Instance → List Pair → (key : Row) → Bool
is_whole i heard key = is_some_feed (carrying_feeds i) && list_all (is_whole_from i heard key) (carrying_feeds i)

-- the partitions of which seals were heard, in the order of key values
abbrev pub sealed_keys : List Pair → List Row
sealed_keys heard = set_of (sealed_in (map (λ pair. pair.1) heard))

-- the partitions that become whole with a batch, in the order of key values
abbrev pub newly_whole : Instance → (heard : List Pair) → Batch → List Row
newly_whole i heard batch = filter (λ key. not (is_whole i heard key) && is_whole i (heard ++ batch) key) (sealed_keys (heard ++ batch))

-- ---- mode Seal

-- it is a record of one of these partitions
abbrev pub is_of_some : Instance → List Row → Entry → Bool
is_of_some i keys entry = list_any (λ key. is_of_key i key entry) keys

-- the records of these partitions: those at carrying ports in one timestep, and then the others one by one, in the order first heard
abbrev pub released_steps : Instance → List Entry → List Sets
released_steps i entries =
    timestep_of (length i.ports) (filter (λ entry. is_carrying i entry.0) entries)
    ∷ one_by_one (length i.ports) (firsts is_same_entry (filter (λ entry. not (is_carrying i entry.0)) entries))

-- the first part: what partitions that become whole set off
abbrev pub first_part : Instance → List Row → List Entry → List Sets
first_part i [] entries = []
first_part i (key ∷ keys) entries = released_steps i (filter (is_of_some i (key ∷ keys)) entries)

-- the record waits for nothing: its port lacks a column of the key, or its partition is whole
abbrev pub is_due : Instance → List Pair → Entry → Bool
is_due i heard entry = option_map_or (is_whole i heard) (key_of_entry i entry) true

-- the second part: the records of a batch that are new and waited for nothing before it
abbrev pub second_part : Instance → (heard : List Pair) → Batch → List Sets
second_part i heard batch = one_timestep (length i.ports) (filter (λ entry. not (list_any (is_same_entry entry) (entries_of i heard)) && is_due i heard entry) (entries_of i batch))

-- ---- what a batch sets off after what was heard before it

-- its timesteps, and the partitions that become whole with it
pub record SetOff : Type 0 where
  pub steps : List Sets
  pub whole : List Row

-- the timesteps by the mode; what comes to an Order component goes through its log
abbrev pub steps_in : Mode → Instance → (heard : List Pair) → Batch → List Sets
steps_in Free i heard batch = one_timestep (length i.ports) (entries_of i batch)
steps_in (Pass key) i heard batch = one_timestep (length i.ports) (entries_of i batch)
steps_in (Seal key) i heard batch = first_part i (newly_whole i heard batch) (entries_of i (heard ++ batch)) ++ second_part i heard batch
steps_in Order i heard batch = []

-- what a batch sets off
abbrev pub set_off : Instance → (heard : List Pair) → Batch → SetOff
set_off i heard batch = record { steps = steps_in i.mode i heard batch; whole = newly_whole i heard batch }

-- what each of some batches sets off, after what was heard before them
abbrev pub each_after : Instance → (heard : List Pair) → List Batch → List SetOff
each_after i heard [] = []
each_after i heard (batch ∷ batches) = set_off i heard batch ∷ each_after i (heard ++ batch) batches

-- what each of a list of batches sets off
abbrev pub each_set_off : Instance → List Batch → List SetOff
each_set_off i batches = each_after i [] batches

-- the timesteps of a list of batches
abbrev pub timesteps : Instance → List Batch → List Sets
timesteps i batches = flat_map (λ s. s.steps) (each_set_off i batches)

-- ---- which records stand in timesteps

-- a record stands in one of the timesteps, at its port
pub record Stands (steps : List Sets) (entry : Entry) : Type 0 where
  pub now : Sets
  pub among : Has now steps
  pub there : Has entry.1 (set_at now entry.0)

-- a record was heard and waits for nothing
pub record Goes (i : Instance) (heard : List Pair) (entry : Entry) : Type 0 where
  pub there : Has entry (entries_of i heard)
  pub due : is_due i heard entry ≡ true

-- ---- what is held

-- the record stands in one of the timesteps, at its port
abbrev pub is_in_some : List Sets → Entry → Bool
is_in_some steps entry = list_any (λ now. list_any (is_same_row entry.1) (set_at now entry.0)) steps

-- the distinct records that were heard and stand in no timestep, with their ports
abbrev pub held_entries : Instance → List Batch → List Entry
held_entries i batches = filter (λ entry. not (is_in_some (timesteps i batches) entry)) (firsts is_same_entry (entries_of i (all_pairs batches)))

-- how many they are
abbrev pub held_count : Instance → List Batch → ℕ
held_count i batches = length (held_entries i batches)
