-- What a batch sets off, by ids, read in a pool.
use Rattle.std.specs.Prelude.{ℕ, ◌<◌, ◌++◌, ◌∷◌, List, [], Option, Some, None, length}
use Rattle.std.specs.List.{All, cons_option}
use Rattle.bloom_forms.specs.Step.{Sets}
use Rattle.blz_value.specs.Record.{Row}
use Rattle.blz_pool.specs.Entries.{EntryId, entries_with_ids}
use Rattle.bloom_eval.specs.Arrivals.{timestep_of}
use Rattle.inbox.specs.Timesteps.{SetOff, one_timestep, one_by_one}
use Rattle.inbox.specs.declared.set_off.Going.{Going}
use Rattle.inbox.specs.declared.set_off.Going.TheVariants.{One, Many}
use Rattle.inbox.specs.declared.set_off.Released.{Released}
use Rattle.inbox.specs.declared.set_off.SetOffIds.{SetOffIds}

-- the entries that go with a batch
abbrev pub going_entries : Going → List EntryId
going_entries (One entry) = cons_option entry []
going_entries (Many entries) = entries.items

-- the timesteps of what partitions release: one of the first entries, and then one of each other
abbrev pub released_read : (records : List Row) → (ports : ℕ) → Option Released → List Sets
released_read records ports None = []
released_read records ports (Some released) = timestep_of ports (entries_with_ids records released.together.items) ∷ one_by_one ports (entries_with_ids records released.alone.items)

-- what is set off, in a pool with these records
abbrev pub set_off_read : (records : List Row) → SetOffIds → SetOff
set_off_read records set = record { steps = released_read records set.ports set.released ++ one_timestep set.ports (entries_with_ids records (going_entries set.going)); whole = set.whole }

-- the pool with these records gave each id of what is released
abbrev pub AreReleasedFrom : (records : List Row) → Option Released → Type 0
AreReleasedFrom records None = Unit {0}
AreReleasedFrom records (Some released) = All (λ entry. entry.1 < length records) released.together.items × All (λ entry. entry.1 < length records) released.alone.items

-- and each id of what is set off
pub record AreGivenTo (records : List Row) (set : SetOffIds) : Type 0 where
  pub released : AreReleasedFrom records set.released
  pub going : All (λ entry. entry.1 < length records) (going_entries set.going)
