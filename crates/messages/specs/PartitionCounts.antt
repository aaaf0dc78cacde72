-- A counter of a partition answers whether a seal of it counts at most so many records. Counters stand by the numbers of partitions.
use Rattle.std.specs.Prelude.{ℕ, Bool, false, Option, Some, None, List, nat_le, slice_get}
use Rattle.messages.specs.declared.counter.Counter.{Counter}

abbrev pub have_in : Option Counter → ℕ
have_in None = 0
have_in (Some c) = c.have

abbrev pub need_in : Option Counter → Option ℕ
need_in None = None
need_in (Some c) = c.need

-- how many records of a partition were counted
abbrev pub have_at : List Counter → (number : ℕ) → ℕ
have_at counts number = have_in (slice_get counts number)

-- the least count of its seals
abbrev pub need_at : List Counter → (number : ℕ) → Option ℕ
need_at counts number = need_in (slice_get counts number)

-- whether a seal came that counts at most this many
abbrev pub is_met : Option ℕ → ℕ → Bool
is_met None have = false
is_met (Some need) have = nat_le need have
