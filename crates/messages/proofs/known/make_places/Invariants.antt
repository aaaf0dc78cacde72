-- as much is known as at first
use Rattle.std.proofs.Common.{◌≡◌, ◌+◌, ◌-◌, ℕ, length}
use Rattle.messages.specs.Known.{is_known}
use Rattle.messages.proofs.known.make_places.Given as goal

abbrev pub invariant-loop-alloc : goal.invariant-loop-alloc
invariant-loop-alloc l = (n k : ℕ) → is_known l.places.items n k ≡ is_known l.fn.places.items n k

abbrev pub decreases-loop-alloc : goal.decreases-loop-alloc
decreases-loop-alloc l = l.place + 1 - length l.places.items
