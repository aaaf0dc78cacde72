-- What a printed event is known to have: numbers below 2^32.
use Rattle.std.specs.Prelude.{◌<◌, ◌^◌}
use Rattle.std.specs.List.{All}
use Rattle.sched_text.specs.declared.event.Sent.{Sent}
use Rattle.sched_text.specs.declared.event.Part.{Part}
use Rattle.sched_text.specs.declared.event.Event.{Event}
use Rattle.sched_text.specs.declared.event.Event.TheVariants.{Deliver, Order, Take, Batch}

abbrev pub IsSmallSent : Sent → Type 0
IsSmallSent sent = (sent.replica < 2 ^ 32) × (sent.index < 2 ^ 32)

abbrev pub IsSmallPart : Part → Type 0
IsSmallPart part = IsSmallSent part.sent

abbrev pub IsSmall : Event → Type 0
IsSmall (Deliver sent component port replica) = IsSmallSent sent × (replica < 2 ^ 32)
IsSmall (Order sent component port) = IsSmallSent sent
IsSmall (Take component replica) = replica < 2 ^ 32
IsSmall (Batch component replica parts) = (replica < 2 ^ 32) × All IsSmallPart parts
